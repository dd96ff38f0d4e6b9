-- UTF-8 as RFC 3629 section 4 has it, in a form that computes. A byte past the end reads as 0, which continues no character.
-- Assumes nothing.
use Rattle.std.specs.Prelude.{ℕ, zero, suc, ◌+◌, ◌-◌, ◌*◌, ◌%◌, Bool, true, ◌&&◌, List, [], ◌∷◌, ltb, get_or}
use Rattle.byte.specs.Byte.{pick, between}
use Rattle.utf8.specs.declared.Char.{Char}
pub use Rattle.utf8_tail.specs.Tail.{tail, second}
unfoldable pub use Rattle.utf8_tail.specs.Tail.{least, greatest}

abbrev pub char : ℕ → ℕ → Char
char code len = record { code = code; len = len }

-- no character: its length is 0
abbrev pub none : Char
none = char 0 0

-- UTF8-2 after its first byte a: 110xxxxx 10xxxxxx
unfoldable pub two : ℕ → ℕ → Char
two a b = pick (tail b) (char (a % 32 * 64 + b % 64) 2) none

-- UTF8-3 after its first byte a: 1110xxxx 10xxxxxx 10xxxxxx
unfoldable pub three : ℕ → ℕ → ℕ → Char
three a b c = pick (second a b && tail c) (char (a % 16 * 4096 + b % 64 * 64 + c % 64) 3) none

-- UTF8-4 after its first byte a: 11110xxx 10xxxxxx 10xxxxxx 10xxxxxx
unfoldable pub four : ℕ → ℕ → ℕ → ℕ → Char
four a b c d =
    pick (second a b && (tail c && tail d)) (char (a % 8 * 262144 + b % 64 * 4096 + c % 64 * 64 + d % 64) 4) none

-- UTF8-2 / UTF8-3 / UTF8-4
unfoldable pub longer : ℕ → ℕ → ℕ → ℕ → Char
longer a b c d =
    pick (between 0xc2 0xdf a) (two a b)
    (pick (between 0xe0 0xef a) (three a b c)
    (pick (between 0xf0 0xf4 a) (four a b c d) none))

-- UTF8-char = UTF8-1 / UTF8-2 / UTF8-3 / UTF8-4, and UTF8-1 = %x00-7F: the character that the bytes a, b, c, d begin with, or none
unfoldable pub char_of : ℕ → ℕ → ℕ → ℕ → Char
char_of a b c d = pick (ltb a 0x80) (char a 1) (longer a b c d)

-- the character that a text begins with, or none
unfoldable pub char_at : List ℕ → Char
char_at [] = none
char_at (a ∷ s) = char_of a (get_or s 0 0) (get_or s 1 0) (get_or s 2 0)

-- whether a text is well formed behind its first k bytes
unfoldable pub well_from : ℕ → List ℕ → Bool
well_from k [] = true
well_from (suc k) (a ∷ s) = well_from k s
well_from zero (a ∷ s) = ltb 0 (char_at (a ∷ s)).len && well_from ((char_at (a ∷ s)).len - 1) s

-- UTF8-octets = *( UTF8-char )
abbrev pub well_formed : List ℕ → Bool
well_formed s = well_from 0 s
