-- Numbers beside the ranges, and some that are taken for white space elsewhere, as one table under one statement.
-- Assumes nothing.
use mathlib.Core.Path.{◌≡◌, refl}
use mathlib.Core.Bool.{Bool, false, ◌||◌}
use mathlib.Core.List.{List, [], ◌∷◌}
use Prim.Native.Nat.{ℕ}
use Rattle.byte.specs.Byte.{between}
use Rattle.space.specs.Space.{within, spaces, is_space}

abbrev pub any : List ℕ → Bool
any [] = false
any (c ∷ cs) = is_space c || any cs

-- the neighbours of each range; the separators 1C to 1F; the Mongolian vowel separator 180E, the zero width space 200B, the byte order mark FEFF
abbrev pub others : List ℕ
others =
    0x0 ∷ 0x8 ∷ 0xe ∷ 0x1c ∷ 0x1d ∷ 0x1e ∷ 0x1f ∷ 0x21 ∷ 0x84 ∷ 0x86 ∷ 0x9f ∷ 0xa1 ∷ 0x167f ∷ 0x1681 ∷ 0x180e ∷
    0x1fff ∷ 0x200b ∷ 0x2027 ∷ 0x202a ∷ 0x202e ∷ 0x2030 ∷ 0x205e ∷ 0x2060 ∷ 0x2fff ∷ 0x3001 ∷ 0xfeff ∷ 0x10ffff ∷ []

pub not-spaces : any others ≡ false
unfolding is_space within spaces between
not-spaces = refl
