-- Laws of digits.
-- Assumes nothing.
use mathlib.Core.Path.{◌≡◌, refl}
use mathlib.Core.Bool.{Bool, true, false}
use Prim.Native.Nat.{ℕ, ◌-◌, ◌≤◌}
use native.Mathlib.Omega.{arith}
use Rattle.byte.specs.Byte.{pick, between}
use Rattle.byte.specs.Digit.{digit_of}
use Rattle.byte.proofs.Laws.{between_in}

-- a digit's value, or 16
pub digit-most : (b : ℕ) → digit_of b ≤ 16
unfolding digit_of
digit-most b = by (between 48 57 b) refl (by₂ (between 65 70 b) refl (by₃ (between 97 102 b) refl))
  where
    by₃ : (t : Bool) → between 97 102 b ≡ t → pick t (b - 87) 16 ≤ 16
    by₃ true e = omega (arith, between_in 97 102 b e)
    by₃ false e = omega arith

    by₂ : (t : Bool) → between 65 70 b ≡ t → pick (between 97 102 b) (b - 87) 16 ≤ 16 → pick t (b - 55) (pick (between 97 102 b) (b - 87) 16) ≤ 16
    by₂ true e h = omega (arith, between_in 65 70 b e)
    by₂ false e h = h

    by : (t : Bool) → between 48 57 b ≡ t → pick (between 65 70 b) (b - 55) (pick (between 97 102 b) (b - 87) 16) ≤ 16
        → pick t (b - 48) (pick (between 65 70 b) (b - 55) (pick (between 97 102 b) (b - 87) 16)) ≤ 16
    by true e h = omega (arith, between_in 48 57 b e)
    by false e h = h
