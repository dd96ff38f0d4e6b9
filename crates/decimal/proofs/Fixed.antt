-- Laws of a fixed count of digits: their count, their bytes, and that they read back as the number.
-- Assumes nothing.
use mathlib.Core.Path.{◌≡◌, refl, sym, ap, ◌∙◌}
use mathlib.Core.Bool.{Bool, true, false}
use mathlib.Core.List.{[], ◌∷◌}
use mathlib.Core.Logic.{inl, inr}
use Prim.Native.Nat.{ℕ, zero, suc, ◌+◌, ◌/◌, ◌%◌, ◌^◌, ◌<◌, ◌≤◌}
use native.Mathlib.Nat.{pow-zero, pow-suc, mod-lt, div-add-mod', div-lt_iff_lt-mul}
use native.Mathlib.Numerals.{add-one}
use native.Mathlib.Omega.{arith}
use lib.Dec.{ltb}
use lib.ListN.{length, length-append}
use borrow.Author.Tests.{lt-ltb, le-ltb, ltb-true, ltb-false}
use Rattle.byte.specs.Byte.{pick}
use Rattle.byte.specs.Digit.{digit_of}
use Rattle.byte.proofs.Laws.{in_between, above-between}
use Rattle.number.specs.Digits.{all_digits, value_in}
use Rattle.digits.proofs.Digits.{value-nil, value-last, all-digits-nil, all-digits-cons, all-digits-append}
use Rattle.decimal.specs.Decimal.{digit_byte, fixed_digits, hex_digits}
use Rattle.decimal.proofs.Each.{Each, each_append, HexByte}

-- the byte of a digit: which bytes it can be, and that it is the digit's
pub byte_small : (upper : Bool) (d : ℕ) → d < 10 → digit_byte upper d ≡ 48 + d
unfolding digit_byte
byte_small upper d h = rw (lt-ltb d 10 h)

pub byte-large : (upper : Bool) (d : ℕ) → 10 ≤ d → digit_byte upper d ≡ pick upper (55 + d) (87 + d)
unfolding digit_byte
byte-large upper d h = rw (le-ltb d 10 h)

pub byte-hex : (upper : Bool) (d : ℕ) → d < 16 → HexByte upper (digit_byte upper d)
unfolding digit_byte
byte-hex upper d h = by upper (ltb d 10) refl
  where
    by : (u t : Bool) → ltb d 10 ≡ t → HexByte u (pick t (48 + d) (pick u (55 + d) (87 + d)))
    by u true e = inl (record { low = omega arith; high = omega (arith, ltb-true d 10 e) })
    by true false e = inr (record { low = omega (arith, ltb-false d 10 e); high = omega arith })
    by false false e = inr (record { low = omega (arith, ltb-false d 10 e); high = omega arith })

-- reading it back
pub small-back : (d : ℕ) → d < 10 → digit_of (48 + d) ≡ d
unfolding digit_of
small-back d h = rw (in_between 48 57 (48 + d) (omega arith) (omega arith)) (omega arith)

upper-back : (d : ℕ) → 10 ≤ d → d < 16 → digit_of (55 + d) ≡ d
unfolding digit_of
upper-back d l h = rw (above-between 48 57 (55 + d) (omega arith), in_between 65 70 (55 + d) (omega arith) (omega arith)) (omega arith)

lower-back : (d : ℕ) → 10 ≤ d → d < 16 → digit_of (87 + d) ≡ d
unfolding digit_of
lower-back d l h =
    rw (above-between 48 57 (87 + d) (omega arith), above-between 65 70 (87 + d) (omega arith), in_between 97 102 (87 + d) (omega arith) (omega arith)) (omega arith)

pub byte-back : (upper : Bool) (d : ℕ) → d < 16 → digit_of (digit_byte upper d) ≡ d
unfolding digit_byte
byte-back upper d h = by upper (ltb d 10) refl
  where
    by : (u t : Bool) → ltb d 10 ≡ t → digit_of (pick t (48 + d) (pick u (55 + d) (87 + d))) ≡ d
    by u true e = small-back d (ltb-true d 10 e)
    by true false e = upper-back d (ltb-false d 10 e) h
    by false false e = lower-back d (ltb-false d 10 e) h

module _ (base : ℕ) (upper : Bool) where
  pub fixed-length : (width n : ℕ) → length (fixed_digits base upper width n) ≡ width
  unfolding fixed_digits
  fixed-length zero n = refl
  fixed-length (suc width) n = length-append (fixed_digits base upper width (n / base)) _ ∙ add-one _ ∙ ap suc (fixed-length width (n / base))

  module _ (some : 0 < base) (few : base ≤ 16) where
    last : (n : ℕ) → n % base < 16
    last n = omega (arith, mod-lt n some)

    -- every byte is a digit's, in the case asked for
    pub fixed-each : (width n : ℕ) → Each (HexByte upper) (fixed_digits base upper width n)
    unfolding fixed_digits
    fixed-each zero n = tt
    fixed-each (suc width) n = each_append (HexByte upper) (fixed_digits base upper width (n / base)) (digit_byte upper (n % base) ∷ []) (fixed-each width (n / base)) (byte-hex upper (n % base) (last n), tt)

    pub fixed-digits : (width n : ℕ) → all_digits base (fixed_digits base upper width n) ≡ true
    unfolding fixed_digits
    fixed-digits zero n = all-digits-nil base
    fixed-digits (suc width) n =
        let h : digit_of (digit_byte upper (n % base)) < base = omega (arith, byte-back upper (n % base) (last n), mod-lt n some) in
        rw (all-digits-append base (fixed_digits base upper width (n / base)) (digit_byte upper (n % base) ∷ []), fixed-digits width (n / base), all-digits-cons base (digit_byte upper (n % base)) [], lt-ltb _ _ h, all-digits-nil base)

    -- the number that they stand for
    pub fixed-value : (width n : ℕ) → n < base ^ width → value_in base (fixed_digits base upper width n) ≡ n
    unfolding fixed_digits
    fixed-value zero n h = value-nil base ∙ omega (arith, pow-zero base)
    fixed-value (suc width) n h =
        let q : n / base < base ^ width = (div-lt_iff_lt-mul some).1 (rw (pow-suc base width) at h) in
        value-last base (fixed_digits base upper width (n / base)) (digit_byte upper (n % base))
        ∙ rw (fixed-value width (n / base) q, byte-back upper (n % base) (last n)) (div-add-mod' n base)

    -- so no two numbers have the same digits
    pub fixed_same : (width m n : ℕ) → m < base ^ width → n < base ^ width → fixed_digits base upper width m ≡ fixed_digits base upper width n → m ≡ n
    fixed_same width m n h k e = sym (fixed-value width m h) ∙ ap (value_in base) e ∙ fixed-value width n k

-- The same for hex, as callers cite them.
module _ (upper : Bool) (width : ℕ) where
  pub hex-length : (n : ℕ) → length (hex_digits upper width n) ≡ width
  hex-length = fixed-length 16 upper width

  pub hex-each : (n : ℕ) → Each (HexByte upper) (hex_digits upper width n)
  hex-each = fixed-each 16 upper (omega arith) (omega arith) width

  pub hex-digits : (n : ℕ) → all_digits 16 (hex_digits upper width n) ≡ true
  hex-digits = fixed-digits 16 upper (omega arith) (omega arith) width

  pub hex-value : (n : ℕ) → n < 16 ^ width → value_in 16 (hex_digits upper width n) ≡ n
  hex-value = fixed-value 16 upper (omega arith) (omega arith) width

  pub hex-same : (m n : ℕ) → m < 16 ^ width → n < 16 ^ width → hex_digits upper width m ≡ hex_digits upper width n → m ≡ n
  hex-same = fixed_same 16 upper (omega arith) (omega arith) width
