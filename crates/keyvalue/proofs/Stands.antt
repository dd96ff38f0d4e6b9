-- Where a parameter that was found stands: laws on places, for the loop that reads on behind it.
-- Assumes nothing.
use Rattle.setting.specs.declared.Refusal.TheVariants.{NoSign, KeyAlone, EmptyValue, OpenQuote}
use Rattle.setting.specs.declared.Refusal.{Refusal}
use Rattle.setting.specs.Refusal.{refusal_number}
use mathlib.Core.Path.{◌≡◌, refl}
use mathlib.Core.Bool.{Bool, true, false}
use mathlib.Core.List.{List}
use Prim.Native.Nat.{ℕ, ◌+◌, ◌-◌, ◌≤◌, ◌<◌}
use native.Mathlib.Omega.{arith}
use lib.Dec.{leb, eqb}
use lib.ListN.{length, drop, get_or, length-drop}
use lib.Seq.{length-take-le}
use borrow.Author.Tests.{leb-false, eqb-false}
use Rattle.byte.specs.Byte.{pick}
use Rattle.byte.proofs.Laws.{past}
use Rattle.names.specs.Find.{key_number}
use Rattle.keyvalue.specs.declared.Key.{Key}
use Rattle.keyvalue.specs.declared.Raw.{Raw}
use Rattle.keyvalue.specs.Scan.{end_of, part, space_len, key_len, quoted_len, simple_len}
use Rattle.keyvalue.specs.KeyValue.{Step, clean, broken, pair, unescaped, key_of, raw_at, quoted_at, simple_at, value_at, sign_at, key_at, parameter_at}
use Rattle.scan.proofs.Runs.{end-within}
use Rattle.backslash.proofs.Pieces.{shorter}

-- a value from a place on
record Valued (s : List ℕ) (at : ℕ) (value : Raw) (next : ℕ) : Type 0 where
  after : at ≤ value.from
  order : value.from ≤ value.to
  behind : value.to ≤ next
  grows : at < next
  within : next ≤ length s
  len_is : value.len ≡ length (unescaped (part s value.from value.to))
  len-most : value.len ≤ value.to - value.from

-- a parameter from a place on: its key, `=`, its value and the place behind it stand in this order
pub record Stands (s : List ℕ) (at : ℕ) (key : Key) (value : Raw) (next : ℕ) : Type 0 where
  pub start : at ≤ key.from
  pub key-some : key.from < key.to
  pub key-before : key.to < value.from
  pub order : value.from ≤ value.to
  pub behind : value.to ≤ next
  pub within : next ≤ length s
  -- a key, `=` and a value or its quotes: three bytes at least
  pub grows : at + 3 ≤ next
  pub number_is : key.number ≡ key_number (part s key.from key.to)
  pub len_is : value.len ≡ length (unescaped (part s value.from value.to))
  pub len-most : value.len ≤ value.to - value.from

-- what a step may be: an end whose number is one of 6 to 9, or a parameter that stands so
data ValueStep (s : List ℕ) (key : Key) (at : ℕ) : Step → Type 0 where
  refused : (r : Refusal) → 6 ≤ refusal_number r → refusal_number r ≤ 9 → ValueStep s key at (broken r)
  found : (value : Raw) (next : ℕ) → Valued s at value next → ValueStep s key at (pair key value next)

data AnyStep (s : List ℕ) (at : ℕ) : Step → Type 0 where
  done : AnyStep s at clean
  refused : (r : Refusal) → 6 ≤ refusal_number r → refusal_number r ≤ 9 → AnyStep s at (broken r)
  found : (key : Key) (value : Raw) (next : ℕ) → Stands s at key value next → AnyStep s at (pair key value next)

-- a decoded value is no longer than the part of the text that it stands in
part-most : (s : List ℕ) (from to : ℕ) → from ≤ to → to ≤ length s → length (unescaped (part s from to)) ≤ to - from
part-most s from to h l =
    let n : to - from ≤ length (drop from s) = rw length-drop (omega arith) in
    omega (arith, shorter (part s from to), length-take-le (to - from) (drop from s) n)

module _ (s : List ℕ) (key : Key) (at : ℕ) (h : at ≤ length s) where
  raw-most : (rule : List ℕ → ℕ) → (raw_at rule s at).len ≤ (raw_at rule s at).to - at
  raw-most rule = part-most s at (end_of rule s at) (omega arith) (end-within rule s at h)

  quoted-step : ValueStep s key at (quoted_at s key at)
  unfolding quoted_at
  quoted-step = by (leb (length s) (raw_at quoted_len s at).to) refl
    where
      by : (t : Bool) → leb (length s) (raw_at quoted_len s at).to ≡ t
          → ValueStep s key at (pick t (broken OpenQuote) (pair key (raw_at quoted_len s at) ((raw_at quoted_len s at).to + 1)))
      by true e = refused OpenQuote (omega arith) (omega arith)
      by false e =
          let l : end_of quoted_len s at < length s = leb-false _ _ e in
          found (raw_at quoted_len s at) (end_of quoted_len s at + 1) (record {
            after = omega arith;
            order = omega arith;
            behind = omega arith;
            grows = omega arith;
            within = omega arith;
            len_is = refl;
            len-most = raw-most quoted_len;
          })

  simple-step : ValueStep s key at (simple_at s key at)
  unfolding simple_at
  simple-step = by (eqb (raw_at simple_len s at).len 0) refl
    where
      by : (t : Bool) → eqb (raw_at simple_len s at).len 0 ≡ t
          → ValueStep s key at (pick t (broken EmptyValue) (pair key (raw_at simple_len s at) (raw_at simple_len s at).to))
      by true e = refused EmptyValue (omega arith) (omega arith)
      by false e =
          found (raw_at simple_len s at) (end_of simple_len s at) (record {
            after = omega arith;
            order = omega arith;
            behind = omega arith;
            grows = omega (arith, raw-most simple_len, eqb-false (raw_at simple_len s at).len 0 e);
            within = end-within simple_len s at h;
            len_is = refl;
            len-most = raw-most simple_len;
          })

-- a value that starts behind a quote starts behind the place, too
later : (s : List ℕ) (key : Key) (at : ℕ) (step : Step) → ValueStep s key (at + 1) step → ValueStep s key at step
later s key at step (refused n l m) = refused n l m
later s key at step (found value next v) =
    found value next (record {
      after = omega (arith, v.after);
      order = v.order;
      behind = v.behind;
      grows = omega (arith, v.grows);
      within = v.within;
      len_is = v.len_is;
      len-most = v.len-most;
    })

value-step : (s : List ℕ) (key : Key) (at : ℕ) → at ≤ length s → ValueStep s key at (value_at s key at)
unfolding value_at
value-step s key at h = by (eqb (get_or s at 0) 39) refl
  where
    by : (t : Bool) → eqb (get_or s at 0) 39 ≡ t → ValueStep s key at (pick t (quoted_at s key (at + 1)) (simple_at s key at))
    by true e = later s key at (quoted_at s key (at + 1)) (quoted-step s key (at + 1) (omega (arith, past (λ (b : ℕ). eqb b 39) refl s at e)))
    by false e = simple-step s key at h

-- the key in front of the value
keyed : (s : List ℕ) (at from to start : ℕ) (step : Step) → at ≤ from → from < to → to < start → ValueStep s (key_of s from to) start step → AnyStep s at step
keyed s at from to start step a b c (refused n l m) = refused n l m
keyed s at from to start step a b c (found value next v) =
    found (key_of s from to) value next (record {
      start = a;
      key-some = b;
      key-before = omega (arith, v.after);
      order = v.order;
      behind = v.behind;
      within = v.within;
      grows = omega (arith, v.grows);
      number_is = refl;
      len_is = v.len_is;
      len-most = v.len-most;
    })

sign-step : (s : List ℕ) (at from to sign : ℕ) → at ≤ from → from < to → to ≤ sign → AnyStep s at (sign_at s (key_of s from to) sign)
unfolding sign_at
sign-step s at from to sign a b c = by (leb (length s) sign) refl (eqb (get_or s sign 0) 61)
  where
    by : (t : Bool) → leb (length s) sign ≡ t → (u : Bool) → AnyStep s at (pick t (broken KeyAlone) (pick u (value_at s (key_of s from to) (end_of space_len s (sign + 1))) (broken NoSign)))
    by true e u = refused KeyAlone (omega arith) (omega arith)
    by false e true =
        let l : sign < length s = leb-false _ _ e in
        let start : ℕ = end_of space_len s (sign + 1) in
        keyed s at from to start (value_at s (key_of s from to) start) a b (omega arith) (value-step s (key_of s from to) start (end-within space_len s (sign + 1) (omega arith)))
    by false e false = refused NoSign (omega arith) (omega arith)

any_step : (s : List ℕ) (at : ℕ) → AnyStep s at (parameter_at s at)
unfolding parameter_at key_at
any_step s at = by (eqb to from) refl
  where
    from : ℕ
    from = end_of space_len s at

    to : ℕ
    to = end_of key_len s from

    by : (t : Bool) → eqb to from ≡ t → AnyStep s at (pick t clean (sign_at s (key_of s from to) (end_of space_len s to)))
    by true e = done
    by false e = sign-step s at from to (end_of space_len s to) (omega arith) (omega (arith, eqb-false to from e)) (omega arith)

stands-in : (s : List ℕ) (at : ℕ) (key : Key) (value : Raw) (next : ℕ) → AnyStep s at (pair key value next) → Stands s at key value next
stands-in s at key value next (found k v n h) = h

-- a parameter that was found stands in order, within the text and behind the place
pub stands : (s : List ℕ) (at : ℕ) (key : Key) (value : Raw) (next : ℕ) → parameter_at s at ≡ pair key value next → Stands s at key value next
stands s at key value next e = stands-in s at key value next (rw e at (any_step s at))

-- a refusal is one of 6 to 9
pub record Number (n : ℕ) : Type 0 where
  pub low : 6 ≤ n
  pub high : n ≤ 9

number_in : (s : List ℕ) (at : ℕ) (r : Refusal) → AnyStep s at (broken r) → Number (refusal_number r)
number_in s at r (refused m l h) = record { low = l; high = h }

pub number : (s : List ℕ) (at : ℕ) (r : Refusal) → parameter_at s at ≡ broken r → Number (refusal_number r)
number s at r e = number_in s at r (rw e at (any_step s at))
