-- Laws of one parameter, as the code finds it out in turn.
-- Assumes nothing.
use Rattle.setting.specs.declared.Refusal.TheVariants.{NoSign, KeyAlone, EmptyValue, OpenQuote}
use mathlib.Core.Path.{◌≡◌, ◌∙◌}
use mathlib.Core.List.{List}
use Prim.Native.Nat.{ℕ, ◌+◌, ◌≤◌, ◌<◌}
use lib.ListN.{length, get_or}
use borrow.Author.Tests.{le-leb, lt-leb, eq-eqb, ne_eqb}
use Rattle.keyvalue.specs.declared.Key.{Key}
use Rattle.keyvalue.specs.Scan.{end_of, space_len, key_len, quoted_len, simple_len}
use Rattle.keyvalue.specs.KeyValue.{clean, broken, pair, key_of, raw_at, quoted_at, simple_at, value_at, sign_at, key_at, parameter_at}

-- a value by what stands at its start
module _ (s : List ℕ) (key : Key) (at : ℕ) where
  module _ (quote : get_or s at 0 ≡ 39) where
    quoted : value_at s key at ≡ quoted_at s key (at + 1)
    unfolding value_at
    quoted = rw (eq-eqb (get_or s at 0) 39 quote)

    pub open-quote : length s ≤ (raw_at quoted_len s (at + 1)).to → value_at s key at ≡ broken OpenQuote
    unfolding quoted_at
    open-quote h = quoted ∙ rw (le-leb _ _ h)

    pub closed-quote : (raw_at quoted_len s (at + 1)).to < length s
        → value_at s key at ≡ pair key (raw_at quoted_len s (at + 1)) ((raw_at quoted_len s (at + 1)).to + 1)
    unfolding quoted_at
    closed-quote h = quoted ∙ rw (lt-leb _ _ h)

  module _ (quote : get_or s at 0 ≡ 39 → ⊥) where
    simple : value_at s key at ≡ simple_at s key at
    unfolding value_at
    simple = rw (ne_eqb (get_or s at 0) 39 quote)

    pub empty-value : (raw_at simple_len s at).len ≡ 0 → value_at s key at ≡ broken EmptyValue
    unfolding simple_at
    empty-value h = simple ∙ rw (eq-eqb _ _ h)

    pub simple-value : ((raw_at simple_len s at).len ≡ 0 → ⊥)
        → value_at s key at ≡ pair key (raw_at simple_len s at) (raw_at simple_len s at).to
    unfolding simple_at
    simple-value h = simple ∙ rw (ne_eqb _ _ h)

-- a parameter by where its key stands, and what stands where `=` must
module _ (s : List ℕ) (at from to sign : ℕ) (start : from ≡ end_of space_len s at) (end : to ≡ end_of key_len s from) where
  pub no_key : to ≡ from → parameter_at s at ≡ clean
  unfolding parameter_at key_at
  no_key h = rw (← start, ← end, eq-eqb to from h)

  module _ (some : to ≡ from → ⊥) (after : sign ≡ end_of space_len s to) where
    keyed : parameter_at s at ≡ sign_at s (key_of s from to) sign
    unfolding parameter_at key_at
    keyed = rw (← start, ← end, ne_eqb to from some, ← after)

    pub cut_off : length s ≤ sign → parameter_at s at ≡ broken KeyAlone
    unfolding sign_at
    cut_off h = keyed ∙ rw (le-leb (length s) sign h)

    module _ (h : sign < length s) where
      pub no_sign : (get_or s sign 0 ≡ 61 → ⊥) → parameter_at s at ≡ broken NoSign
      unfolding sign_at
      no_sign n = keyed ∙ rw (lt-leb (length s) sign h, ne_eqb (get_or s sign 0) 61 n)

      pub signed : get_or s sign 0 ≡ 61 → parameter_at s at ≡ value_at s (key_of s from to) (end_of space_len s (sign + 1))
      unfolding sign_at
      signed e = keyed ∙ rw (lt-leb (length s) sign h, eq-eqb (get_or s sign 0) 61 e)
