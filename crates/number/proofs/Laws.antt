-- Laws of numbers read within a range, for callers.
-- Assumes nothing.
use mathlib.Core.Path.{◌≡◌, refl}
use mathlib.Core.Bool.{Bool, true, false, ◌&&◌}
use mathlib.Core.List.{List, [], ◌∷◌, ◌++◌}
use Prim.Native.Nat.{ℕ, ◌<◌, ◌≤◌}
use native.Mathlib.Omega.{arith}
use lib.Dec.{ltb, leb, eqb}
use lib.ListN.{length, get_or, drop, replicate, length-append}
use borrow.Author.Tests.{lt-ltb, le-leb, lt-leb, ltb-true, leb-true, ne_eqb}
use Rattle.byte.specs.Byte.{pick}
use Rattle.byte.proofs.Laws.{and_left, and_right, and-false}
use Rattle.std.specs.Prelude.{Ok, Err}
use Rattle.number.specs.declared.NumberError.{NumberError}
use Rattle.number.specs.Digits.{all_digits, value_in}
use Rattle.number.specs.Number.{digits_in, unsigned_of}
use Rattle.digits.proofs.Digits.{value-zeros, all-digits-zeros}

-- What digits read as, told by their form and their number.
module _ (base max : ℕ) (s : List ℕ) where
  pub digits-form : all_digits base s ≡ false → digits_in base max s ≡ Err NumberError.Form
  unfolding digits_in
  digits-form e = rw (e, and-false (ltb 0 (length s)))

  module _ (some : 0 < length s) (all : all_digits base s ≡ true) where
    pub digits-is : value_in base s ≤ max → digits_in base max s ≡ Ok (value_in base s)
    unfolding digits_in
    digits-is h = rw (lt-ltb 0 (length s) some, all, le-leb _ _ h)

    pub digits-range : max < value_in base s → digits_in base max s ≡ Err NumberError.Range
    unfolding digits_in
    digits-range h = rw (lt-ltb 0 (length s) some, all, lt-leb _ _ h)

-- A piece that was read as a number: its form, and the number it stands for.
pub record Told (base max : ℕ) (s : List ℕ) (n : ℕ) : Type 0 where
  pub some : 0 < length s
  pub all : all_digits base s ≡ true
  pub means : n ≡ value_in base s
  pub low : n ≤ max

pub digits-told : (base max : ℕ) (s : List ℕ) (n : ℕ) → digits_in base max s ≡ Ok n → Told base max s n
unfolding digits_in
digits-told base max s n = form (ltb 0 (length s) && all_digits base s) refl
  where
    range : (t : Bool) → leb (value_in base s) max ≡ t → ltb 0 (length s) && all_digits base s ≡ true
        → pick t (Ok (value_in base s)) (Err NumberError.Range) ≡ Ok n → Told base max s n
    range true e f i =
        let m : n ≡ value_in base s = cc in
        record {
          some = ltb-true 0 (length s) (and_left (ltb 0 (length s)) (all_digits base s) f);
          all = and_right (ltb 0 (length s)) (all_digits base s) f;
          means = m;
          low = omega (arith, leb-true (value_in base s) max e);
        }
    range false e f i = let z : ◌≡◌ {A = ℕ} 0 1 = cc in record { some = omega arith; all = cc; means = omega arith; low = omega arith }

    form : (t : Bool) → ltb 0 (length s) && all_digits base s ≡ t
        → pick t (pick (leb (value_in base s) max) (Ok (value_in base s)) (Err NumberError.Range)) (Err NumberError.Form) ≡ Ok n → Told base max s n
    form true f i = range (leb (value_in base s) max) refl f i
    form false f i = let z : ◌≡◌ {A = ℕ} 0 1 = cc in record { some = omega arith; all = cc; means = omega arith; low = omega arith }

-- A number read is at most max: with it a caller makes it an integer of that range.
pub unsigned-low : (max : ℕ) (s : List ℕ) (n : ℕ) → unsigned_of max s ≡ Ok n → n ≤ max
unfolding unsigned_of
unsigned-low max s n = either (eqb (get_or s 0 0) 43)
  where
    either : (t : Bool) → pick t (digits_in 10 max (drop 1 s)) (digits_in 10 max s) ≡ Ok n → n ≤ max
    either true e = (digits-told 10 max (drop 1 s) n e).low
    either false e = (digits-told 10 max s n e).low

-- Leading zeros (byte 48) do not matter, however many.
pub digits-zeros : (base max : ℕ) → 0 < base → (k : ℕ) (s : List ℕ) → 0 < length s → digits_in base max (replicate k 48 ++ s) ≡ digits_in base max s
unfolding digits_in
digits-zeros base max p k s h =
    let l : 0 < length (replicate k 48 ++ s) = omega (arith, length-append (replicate k 48) s) in
    rw (all-digits-zeros base p k s, value-zeros base p k s, lt-ltb _ _ l, lt-ltb _ _ h)

-- Signs: `+` (byte 43) in front, and any other byte.
pub unsigned-nothing : (max : ℕ) → unsigned_of max [] ≡ digits_in 10 max []
unfolding unsigned_of
unsigned-nothing max = refl

module _ (max : ℕ) (s : List ℕ) where
  pub unsigned-plus : unsigned_of max (43 ∷ s) ≡ digits_in 10 max s
  unfolding unsigned_of
  unsigned-plus = refl

  pub unsigned-bare : (a : ℕ) → (a ≡ 43 → ⊥) → unsigned_of max (a ∷ s) ≡ digits_in 10 max (a ∷ s)
  unfolding unsigned_of
  unsigned-bare a h = rw (ne_eqb a 43 h)
