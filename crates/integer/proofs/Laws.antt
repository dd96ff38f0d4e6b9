-- Signs: `-` (byte 45) in front, and any other byte.
-- Assumes nothing.
use mathlib.Core.Path.{◌≡◌, refl}
use mathlib.Core.List.{List, ◌∷◌}
use Prim.Native.Nat.{ℕ, ◌^◌, ◌-◌}
use borrow.Author.Tests.{ne_eqb}
use Rattle.number.specs.Number.{digits_in, unsigned_of}
use Rattle.integer.specs.Integer.{signed_of, positive, negative}

module _ (s : List ℕ) where
  pub signed-minus : signed_of (45 ∷ s) ≡ negative (digits_in 10 (2 ^ 63) s)
  unfolding signed_of
  signed-minus = refl

  pub signed-bare : (a : ℕ) → (a ≡ 45 → ⊥) → signed_of (a ∷ s) ≡ positive (unsigned_of (2 ^ 63 - 1) (a ∷ s))
  unfolding signed_of
  signed-bare a h = rw (ne_eqb a 45 h)
