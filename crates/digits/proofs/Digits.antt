-- Laws of digits and of the number that they stand for.
-- Assumes nothing.
use mathlib.Core.Path.{◌≡◌, refl, sym, ap, ◌∙◌}
use mathlib.Core.Bool.{Bool, true, false, ◌&&◌, and_assoc}
use mathlib.Core.List.{List, [], ◌∷◌, ◌++◌}
use Prim.Native.Nat.{ℕ, zero, suc, ◌+◌, ◌-◌, ◌*◌, ◌^◌, ◌<◌, ◌≤◌}
use native.Mathlib.Nat.{le_refl, pow-zero, pow-suc, mul-le-mul_right, le-mul_of_pos_right}
use native.Mathlib.Omega.{arith}
use lib.Dec.{ltb}
use lib.ListN.{length, drop, replicate, drop_of_length-le}
use borrow.Author.Tests.{lt-ltb, le-ltb, ltb-true}
use Rattle.std.specs.List.{list_all}
use Rattle.byte.specs.Byte.{pick, between}
use Rattle.byte.specs.Digit.{digit_of}
use Rattle.byte.proofs.Laws.{and_left, and_right, between_in}
use Rattle.digits.specs.Digits.{all_digits, value_from, value_in}

-- the digits in base ten are the ASCII digits `0` to `9`
pub decimal_digit : (b : ℕ) → ltb (digit_of b) 10 ≡ between 48 57 b
unfolding digit_of
decimal_digit b = by (between 48 57 b) refl
  where
    lower : (t : Bool) → between 97 102 b ≡ t → ltb (pick t (b - 87) 16) 10 ≡ false
    lower true e = le-ltb (b - 87) 10 (omega (arith, between_in 97 102 b e))
    lower false e = refl

    upper : (t : Bool) → between 65 70 b ≡ t → ltb (pick t (b - 55) (pick (between 97 102 b) (b - 87) 16)) 10 ≡ false
    upper true e = le-ltb (b - 55) 10 (omega (arith, between_in 65 70 b e))
    upper false e = lower (between 97 102 b) refl

    by : (t : Bool) → between 48 57 b ≡ t → ltb (pick t (b - 48) (pick (between 65 70 b) (b - 55) (pick (between 97 102 b) (b - 87) 16))) 10 ≡ t
    by true e = lt-ltb (b - 48) 10 (omega (arith, between_in 48 57 b e))
    by false e = upper (between 65 70 b) refl

module _ (base : ℕ) where
  pub all-digits-nil : all_digits base [] ≡ true
  unfolding all_digits
  all-digits-nil = refl

  pub all-digits-cons : (a : ℕ) (s : List ℕ) → all_digits base (a ∷ s) ≡ ltb (digit_of a) base && all_digits base s
  unfolding all_digits
  all-digits-cons a s = refl

  -- past the end there is none, and the library's test of each is the same
  pub digits-end : (s : List ℕ) (i : ℕ) → length s ≤ i → all_digits base (drop i s) ≡ true
  unfolding all_digits
  digits-end s i h = rw (drop_of_length-le s h)

  pub digits-all : (s : List ℕ) → list_all (λ a. ltb (digit_of a) base) s ≡ all_digits base s
  unfolding all_digits
  digits-all [] = refl
  digits-all (a ∷ s) = rw (digits-all s)

  -- digits that follow never make a number less
  pub grows : 0 < base → (s : List ℕ) (v : ℕ) → v ≤ value_from base v s
  unfolding value_from
  grows p [] v = le_refl v
  grows p (a ∷ s) v = omega (arith, le-mul_of_pos_right v p, grows p s (v * base + digit_of a))

  -- a number with digits behind it: it moves up by a place for each
  shifted : (s : List ℕ) (v : ℕ) → value_from base v s ≡ v * base ^ length s + value_from base 0 s
  unfolding value_from
  shifted [] v = rw (pow-zero base) (omega arith)
  shifted (a ∷ s) v =
      rw (pow-suc base (length s)) (omega (arith, shifted s (v * base + digit_of a), shifted s (0 * base + digit_of a)))

  pub value-nil : value_in base [] ≡ 0
  unfolding value_in value_from
  value-nil = refl

  pub value-cons : (a : ℕ) (s : List ℕ) → value_in base (a ∷ s) ≡ digit_of a * base ^ length s + value_in base s
  unfolding value_in value_from
  value-cons a s = omega (arith, shifted s (0 * base + digit_of a))

  followed : (s t : List ℕ) (v : ℕ) → value_from base v (s ++ t) ≡ value_from base v s * base ^ length t + value_from base 0 t
  unfolding value_from
  followed [] t v = shifted t v
  followed (a ∷ s) t v = followed s t (v * base + digit_of a)

  pub value-append : (s t : List ℕ) → value_in base (s ++ t) ≡ value_in base s * base ^ length t + value_in base t
  unfolding value_in
  value-append s t = followed s t 0

  pub value-last : (s : List ℕ) (a : ℕ) → value_in base (s ++ (a ∷ [])) ≡ value_in base s * base + digit_of a
  unfolding value_in value_from
  value-last s a = followed s (a ∷ []) 0 ∙ rw (pow-suc base 0, pow-zero base) (omega arith)

  pub all-digits-append : (s t : List ℕ) → all_digits base (s ++ t) ≡ all_digits base s && all_digits base t
  unfolding all_digits
  all-digits-append [] t = refl
  all-digits-append (a ∷ s) t = rw (all-digits-append s t) (sym (and_assoc (ltb (digit_of a) base) (all_digits base s) (all_digits base t)))

  -- n digits stand for less than the base to the n
  pub value-below : (s : List ℕ) → all_digits base s ≡ true → value_in base s < base ^ length s
  unfolding all_digits value_in value_from
  value-below [] e = rw (pow-zero base) (omega arith)
  value-below (a ∷ s) e =
      let d : digit_of a < base = ltb-true _ _ (and_left _ _ e) in
      rw (pow-suc base (length s))
      (omega (arith, value-cons a s, mul-le-mul_right (base ^ length s) d, value-below s (and_right (ltb (digit_of a) base) _ e)))

  -- leading zeros (byte 48) are digits, and change nothing
  module _ (p : 0 < base) where
    pub value-zeros : (k : ℕ) (s : List ℕ) → value_in base (replicate k 48 ++ s) ≡ value_in base s
    unfolding value_in value_from digit_of between
    value-zeros zero s = refl
    value-zeros (suc k) s = let z : 0 * base + 0 ≡ 0 = omega arith in ap (λ (v : ℕ). value_from base v (replicate k 48 ++ s)) z ∙ value-zeros k s

    pub all-digits-zeros : (k : ℕ) (s : List ℕ) → all_digits base (replicate k 48 ++ s) ≡ all_digits base s
    unfolding all_digits digit_of between
    all-digits-zeros zero s = refl
    all-digits-zeros (suc k) s = rw (lt-ltb 0 base p) (all-digits-zeros k s)
