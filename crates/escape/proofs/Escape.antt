-- Laws of escapes.
-- Assumes nothing.
use Prim.Native.Nat.{ℕ, suc, ◌+◌, ◌≤◌}
use mathlib.Core.Path.{◌≡◌, refl, ap, ◌∙◌}
use mathlib.Core.Bool.{Bool, true, false, not}
use mathlib.Core.List.{List, [], ◌∷◌, ◌++◌}
use native.Mathlib.Omega.{arith}
use lib.Dec.{eqb}
use lib.ListN.{length}
use Rattle.byte.specs.Byte.{between}
use Rattle.byte.specs.Put.{written, after}
use Rattle.byte.proofs.Writing.{written-append, after-append}
use Rattle.decimal.specs.Decimal.{hex_digits}
use Rattle.decimal.proofs.Fixed.{hex-length}
use Rattle.escape.specs.Escape.{plain, escape}

-- the range first, and then `%`
pub plain_out : (b : ℕ) → between 0x21 0x7E b ≡ false → false ≡ plain b
plain_out b e = rw e

pub plain_in : (b : ℕ) → between 0x21 0x7E b ≡ true → not (eqb b 37) ≡ plain b
plain_in b e = rw e

-- a byte that stands as it is, and one that is escaped
pub escape-plain : (b : ℕ) → plain b ≡ true → escape b ≡ b ∷ []
unfolding escape
escape-plain b e = rw e

pub escape-other : (b : ℕ) → plain b ≡ false → escape b ≡ 37 ∷ hex_digits true 2 b
unfolding escape
escape-other b e = rw e

pub escape-long : (b : ℕ) → plain b ≡ false → length (escape b) ≡ 3
escape-long b e = ap length (escape-other b e) ∙ ap suc (hex-length true 2 b)

-- an escape written in two steps, with room for both
module _ (d : List ℕ) (at b : ℕ) (other : plain b ≡ false) (room : at + 3 ≤ length d) where
  fits : at + length ((37 ∷ []) ++ hex_digits true 2 b) ≤ length d
  fits = omega (arith, escape-long b other, ap length (escape-other b other))

  pub escape-written : (d' : List ℕ) (n : ℕ) → n ≡ after d at (37 ∷ []) → d' ≡ written d at (37 ∷ []) → written d' n (hex_digits true 2 b) ≡ written d at (escape b)
  escape-written d' n e f = rw (e, f, escape-other b other) (written-append d at (37 ∷ []) (hex_digits true 2 b) fits)

  pub escape-after : (d' : List ℕ) (n : ℕ) → n ≡ after d at (37 ∷ []) → d' ≡ written d at (37 ∷ []) → after d' n (hex_digits true 2 b) ≡ after d at (escape b)
  escape-after d' n e f = rw (e, f, escape-other b other) (after-append d at (37 ∷ []) (hex_digits true 2 b) fits)

-- a byte takes at most three
pub escape-most : (b : ℕ) → length (escape b) ≤ 3
escape-most b = by (plain b) refl
  where
    by : (t : Bool) → plain b ≡ t → length (escape b) ≤ 3
    by true e = omega (arith, ap length (escape-plain b e))
    by false e = omega (arith, escape-long b e)
