-- Laws of plain decimal: its length, its bytes, and that it reads back as the number.
-- Assumes nothing.
use mathlib.Core.Path.{◌≡◌, refl, sym, ap, ◌∙◌}
use mathlib.Core.Bool.{Bool, true, false}
use mathlib.Core.List.{List, [], ◌∷◌, ◌++◌}
use Prim.Native.Nat.{ℕ, zero, suc, ◌+◌, ◌/◌, ◌%◌, ◌^◌, ◌<◌, ◌≤◌}
use native.Mathlib.Nat.{pow-suc}
use native.Mathlib.Numerals.{add-one}
use native.Mathlib.Omega.{arith}
use lib.Dec.{ltb}
use lib.ListN.{length, get_or, length-append, get_or-append}
use borrow.Author.Tests.{lt-ltb, le-ltb, ltb-true, ltb-false}
use Rattle.byte.specs.Byte.{pick}
use Rattle.byte.proofs.Laws.{In}
use Rattle.std.specs.Prelude.{Ok}
use Rattle.number.specs.Digits.{all_digits, value_in}
use Rattle.number.specs.Number.{digits_in, unsigned_of}
use Rattle.digits.proofs.Digits.{value-nil, value-last}
use Rattle.number.proofs.Laws.{digits-is, unsigned-nothing, unsigned-bare}
use Rattle.decimal.specs.Decimal.{digit_byte, fixed_digits, decimal_by, decimal}
use Rattle.decimal.proofs.Each.{Each, each_append}
use Rattle.decimal.proofs.Fixed.{byte_small, small-back, fixed-digits}

-- one step of the definition
below-ten : (f n : ℕ) → n < 10 → decimal_by (suc f) n ≡ (48 + n) ∷ []
unfolding decimal_by
below-ten f n h = rw (lt-ltb n 10 h)

from-ten : (f n : ℕ) → 10 ≤ n → decimal_by (suc f) n ≡ decimal_by f (n / 10) ++ ((48 + n % 10) ∷ [])
unfolding decimal_by
from-ten f n h = rw (le-ltb n 10 h)

-- Of a number and its decimal holds what holds below ten, and goes on from the tens to the number.
module _ (P : ℕ → List ℕ → Type 0) (ones : (n : ℕ) → n < 10 → P n ((48 + n) ∷ []))
    (tens : (n : ℕ) (l : List ℕ) → 10 ≤ n → P (n / 10) l → P n (l ++ ((48 + n % 10) ∷ []))) where
  by_digits : (f n : ℕ) → n < 10 ^ suc f → P n (decimal_by (suc f) n)
  by_digits zero n h = let l : n < 10 = h in rw (below-ten zero n l) (ones n l)
  by_digits (suc f) n h = by (ltb n 10) refl (by_digits f (n / 10) (omega (arith, pow-suc 10 (suc f))))
    where
      by : (t : Bool) → ltb n 10 ≡ t → P (n / 10) (decimal_by (suc f) (n / 10)) → P n (decimal_by (suc (suc f)) n)
      by true e i = rw (below-ten (suc f) n (ltb-true n 10 e)) (ones n (ltb-true n 10 e))
      by false e i = rw (from-ten (suc f) n (ltb-false n 10 e)) (tens n _ (ltb-false n 10 e) i)

  pub decimal-by : (n : ℕ) → n < 10 ^ 20 → P n (decimal n)
  unfolding decimal
  decimal-by n h = by_digits 19 n h

-- digits enough for a number are enough
enough : (f n : ℕ) → n < 10 ^ suc f → decimal_by (suc f) n ≡ decimal_by (suc (suc f)) n
enough zero n h = let l : n < 10 = h in below-ten zero n l ∙ sym (below-ten 1 n l)
enough (suc f) n h = by (ltb n 10) refl (enough f (n / 10) (omega (arith, pow-suc 10 (suc f))))
  where
    by : (t : Bool) → ltb n 10 ≡ t → decimal_by (suc f) (n / 10) ≡ decimal_by (suc (suc f)) (n / 10) → decimal_by (suc (suc f)) n ≡ decimal_by (suc (suc (suc f))) n
    by true e i = below-ten (suc f) n (ltb-true n 10 e) ∙ sym (below-ten (suc (suc f)) n (ltb-true n 10 e))
    by false e i =
        from-ten (suc f) n (ltb-false n 10 e) ∙ ap (λ (l : List ℕ). l ++ ((48 + n % 10) ∷ [])) i ∙ sym (from-ten (suc (suc f)) n (ltb-false n 10 e))

-- the decimal of a number by its last digit
pub decimal-one : (n : ℕ) → n < 10 → decimal n ≡ (48 + n) ∷ []
unfolding decimal
decimal-one n h = below-ten 19 n h

pub decimal-more : (n : ℕ) → 10 ≤ n → n < 10 ^ 20 → decimal n ≡ decimal (n / 10) ++ ((48 + n % 10) ∷ [])
unfolding decimal
decimal-more n h k = from-ten 19 n h ∙ ap (λ (l : List ℕ). l ++ ((48 + n % 10) ∷ [])) (enough 18 (n / 10) (omega arith))

-- It is a fixed count of digits, as many as it has.
snoc-length : (l : List ℕ) (a : ℕ) → length (l ++ (a ∷ [])) ≡ suc (length l)
snoc-length l a = length-append l (a ∷ []) ∙ add-one (length l)

pub decimal-fixed : (upper : Bool) (n : ℕ) → n < 10 ^ 20 → decimal n ≡ fixed_digits 10 upper (length (decimal n)) n
unfolding fixed_digits
decimal-fixed upper = decimal-by (λ (n : ℕ) (l : List ℕ). l ≡ fixed_digits 10 upper (length l) n) ones tens
  where
    ones : (n : ℕ) → n < 10 → (48 + n) ∷ [] ≡ fixed_digits 10 upper 1 n
    ones n h =
        let m : n % 10 ≡ n = omega arith in
        sym (ap (λ (d : ℕ). digit_byte upper d ∷ []) m ∙ ap (λ (b : ℕ). b ∷ []) (byte_small upper n h))

    tens : (n : ℕ) (l : List ℕ) → 10 ≤ n → l ≡ fixed_digits 10 upper (length l) (n / 10) → l ++ ((48 + n % 10) ∷ []) ≡ fixed_digits 10 upper (length (l ++ ((48 + n % 10) ∷ []))) n
    tens n l h e = rw (snoc-length l (48 + n % 10), ← e, byte_small upper (n % 10) (omega arith))

-- how long it is
pub decimal-one-long : (n : ℕ) → n < 10 → length (decimal n) ≡ 1
decimal-one-long n h = ap length (decimal-one n h)

pub decimal-longer : (n : ℕ) → 10 ≤ n → n < 10 ^ 20 → length (decimal n) ≡ length (decimal (n / 10)) + 1
decimal-longer n h k = ap length (decimal-more n h k) ∙ length-append (decimal (n / 10)) ((48 + n % 10) ∷ [])

pub decimal-some : (n : ℕ) → n < 10 ^ 20 → 0 < length (decimal n)
decimal-some = decimal-by (λ (n : ℕ) (l : List ℕ). 0 < length l) (λ n h. omega arith) (λ n l h i. omega (arith, snoc-length l (48 + n % 10)))

by_most : (f n : ℕ) → length (decimal_by f n) ≤ f
unfolding decimal_by
by_most zero n = omega arith
by_most (suc f) n = by (ltb n 10) (by_most f (n / 10))
  where
    by : (t : Bool) → length (decimal_by f (n / 10)) ≤ f → length (pick t ((48 + n) ∷ []) (decimal_by f (n / 10) ++ ((48 + n % 10) ∷ []))) ≤ suc f
    by true i = omega arith
    by false i = omega (arith, snoc-length (decimal_by f (n / 10)) (48 + n % 10))

pub decimal-most : (n : ℕ) → length (decimal n) ≤ 20
unfolding decimal
decimal-most n = by_most 20 n

-- its bytes are `0` to `9`
pub decimal-each : (n : ℕ) → n < 10 ^ 20 → Each (In 48 57) (decimal n)
decimal-each = decimal-by (λ (n : ℕ) (l : List ℕ). Each (In 48 57) l) ones tens
  where
    ones : (n : ℕ) → n < 10 → Each (In 48 57) ((48 + n) ∷ [])
    ones n h = (record { low = omega arith; high = omega arith }, tt)

    tens : (n : ℕ) (l : List ℕ) → 10 ≤ n → Each (In 48 57) l → Each (In 48 57) (l ++ ((48 + n % 10) ∷ []))
    tens n l h i = each_append (In 48 57) l ((48 + n % 10) ∷ []) i (record { low = omega arith; high = omega arith }, tt)

-- and the first is `0` for no number but zero
pub decimal-head : (n : ℕ) → n < 10 ^ 20 → (0 < length (decimal n)) × (0 < n → 48 < get_or (decimal n) 0 0)
decimal-head = decimal-by (λ (n : ℕ) (l : List ℕ). (0 < length l) × (0 < n → 48 < get_or l 0 0)) (λ n h. (omega arith, λ p. omega arith)) tens
  where
    tens : (n : ℕ) (l : List ℕ) → 10 ≤ n → (0 < length l) × (0 < n / 10 → 48 < get_or l 0 0)
        → (0 < length (l ++ ((48 + n % 10) ∷ []))) × (0 < n → 48 < get_or (l ++ ((48 + n % 10) ∷ [])) 0 0)
    tens n l h i = (omega (arith, snoc-length l (48 + n % 10)), λ p. rw (get_or-append l ((48 + n % 10) ∷ []) 0 0 i.0) (i.1 (omega arith)))

-- Reading it back gives the number.
pub decimal-digits : (n : ℕ) → n < 10 ^ 20 → all_digits 10 (decimal n) ≡ true
decimal-digits n h = rw (decimal-fixed true n h) (fixed-digits 10 true (omega arith) (omega arith) (length (decimal n)) n)

pub decimal-value : (n : ℕ) → n < 10 ^ 20 → value_in 10 (decimal n) ≡ n
decimal-value = decimal-by (λ (n : ℕ) (l : List ℕ). value_in 10 l ≡ n) ones tens
  where
    ones : (n : ℕ) → n < 10 → value_in 10 ((48 + n) ∷ []) ≡ n
    ones n h = value-last 10 [] (48 + n) ∙ omega (arith, value-nil 10, small-back n h)

    tens : (n : ℕ) (l : List ℕ) → 10 ≤ n → value_in 10 l ≡ n / 10 → value_in 10 (l ++ ((48 + n % 10) ∷ [])) ≡ n
    tens n l h i = value-last 10 l (48 + n % 10) ∙ omega (arith, small-back (n % 10) (omega arith))

-- digits alone are read as a number with no sign is
no_sign : (max : ℕ) (l : List ℕ) → Each (In 48 57) l → unsigned_of max l ≡ digits_in 10 max l
no_sign max [] f = unsigned-nothing max
no_sign max (a ∷ l) f = unsigned-bare max l a (λ e. omega (arith, f.0.low))

module _ (max n : ℕ) (small : n < 10 ^ 20) (h : n ≤ max) where
  pub decimal-back : digits_in 10 max (decimal n) ≡ Ok n
  decimal-back =
      let v : value_in 10 (decimal n) ≤ max = omega (arith, decimal-value n small) in
      digits-is 10 max (decimal n) (decimal-some n small) (decimal-digits n small) v ∙ ap Ok (decimal-value n small)

  -- also where a sign may stand
  pub decimal-back-unsigned : unsigned_of max (decimal n) ≡ Ok n
  decimal-back-unsigned = no_sign max (decimal n) (decimal-each n small) ∙ decimal-back

-- so no two numbers have the same decimal
pub decimal-same : (m n : ℕ) → m < 10 ^ 20 → n < 10 ^ 20 → decimal m ≡ decimal n → m ≡ n
decimal-same m n h k e = sym (decimal-value m h) ∙ ap (value_in 10) e ∙ decimal-value n k
