-- The reading from a place on is what the step there says, and then the reading from the next place on.
-- Assumes nothing.
use Rattle.setting.specs.declared.Refusal.TheVariants.{NoSign, KeyAlone, EmptyValue, OpenQuote}
use Rattle.setting.specs.declared.Refusal.{Refusal}
use Rattle.setting.specs.Refusal.{refusal_number}
use Rattle.std.proofs.Common.{Ok, Err, Some, None}
use mathlib.Core.Path.{◌≡◌, refl, sym, ap, ◌∙◌}
use mathlib.Core.Bool.{Bool, true, false}
use mathlib.Core.List.{List, [], ◌∷◌}
use Prim.Native.Nat.{ℕ, zero, suc, ◌+◌, ◌-◌, ◌≤◌, ◌<◌}
use native.Mathlib.Nat.{add-zero, add_assoc}
use native.Mathlib.Omega.{arith}
use lib.Dec.{leb, eqb}
use lib.ListN.{length, drop, get_or, length-drop, drop_of_length-le}
use lib.Seq.{drop-drop, get_or-drop}
use borrow.Author.Tests.{leb-true, leb-false, le-leb, lt-leb, eqb-true, eqb-false, eq-eqb, ne_eqb}
use Rattle.byte.specs.Byte.{pick}
use Rattle.names.specs.Find.{key_number}
use Rattle.setting.specs.Setting.{Setting, keyed, kind_of, value_of, Reading, ends, follows}
use Rattle.keyvalue.specs.declared.Key.{Key}
use Rattle.keyvalue.specs.declared.Raw.{Raw}
use Rattle.keyvalue.specs.Scan.{run_from, end_of, part, space_len, key_len, quoted_len, simple_len}
use Rattle.keyvalue.specs.KeyValue.{Step, clean, broken, pair, unescaped, key_of, raw_at, quoted_at, simple_at, value_at, sign_at, key_at, parameter_at, reads, key_value_from, key_value}
use Rattle.scan.proofs.Runs.{end-shift}
use Rattle.keyvalue.proofs.Stands.{stands}

-- places counted from a place on
abbrev moved_key : ℕ → Key → Key
moved_key at key = record { number = key.number; from = at + key.from; to = at + key.to }

abbrev moved_raw : ℕ → Raw → Raw
moved_raw at v = record { from = at + v.from; to = at + v.to; len = v.len }

moved : ℕ → Step → Step
moved at (Err None) = clean
moved at (Err (Some r)) = broken r
moved at (Ok p) = pair (moved_key at p.key) (moved_raw at p.value) (at + p.next)

moved-pick : (at : ℕ) (t : Bool) (p q : Step) → moved at (pick t p q) ≡ pick t (moved at p) (moved at q)
moved-pick at true p q = refl
moved-pick at false p q = refl

-- tests on places that are counted so
least-moved : (n at x : ℕ) → leb n (at + x) ≡ leb (n - at) x
least-moved n at x = by (leb (n - at) x) refl
  where
    by : (t : Bool) → leb (n - at) x ≡ t → leb n (at + x) ≡ t
    by true e = le-leb n (at + x) (omega (arith, leb-true (n - at) x e))
    by false e = lt-leb n (at + x) (omega (arith, leb-false (n - at) x e))

equal-moved : (at x y : ℕ) → eqb (at + x) (at + y) ≡ eqb x y
equal-moved at x y = by (eqb x y) refl
  where
    by : (t : Bool) → eqb x y ≡ t → eqb (at + x) (at + y) ≡ t
    by true e = eq-eqb (at + x) (at + y) (omega (arith, eqb-true x y e))
    by false e = ne_eqb (at + x) (at + y) (λ h. eqb-false x y e (omega arith))

module _ (s : List ℕ) (at : ℕ) where
  part_moved : (x y : ℕ) → part s (at + x) (at + y) ≡ part (drop at s) x y
  part_moved x y = let n : at + y - (at + x) ≡ y - x = omega arith in rw (n, drop-drop x at s)

  past-moved : (x : ℕ) → leb (length s) (at + x) ≡ leb (length (drop at s)) x
  past-moved x = rw (length-drop at s) (least-moved (length s) at x)

  raw-moved : (rule : List ℕ → ℕ) (x : ℕ) → raw_at rule s (at + x) ≡ moved_raw at (raw_at rule (drop at s) x)
  raw-moved rule x =
      ap (λ (to : ℕ). record { from = at + x; to = to; len = length (unescaped (part s (at + x) to)) }) (end-shift rule s at x)
      ∙ ap (λ (l : List ℕ). record { from = at + x; to = at + end_of rule (drop at s) x; len = length (unescaped l) }) (part_moved x (end_of rule (drop at s) x))

  quoted-moved : (key : Key) (x : ℕ) → quoted_at s (moved_key at key) (at + x) ≡ moved at (quoted_at (drop at s) key x)
  unfolding quoted_at moved
  quoted-moved key x =
      let v : Raw = raw_at quoted_len (drop at s) x in
      ap (λ (r : Raw). pick (leb (length s) r.to) (broken OpenQuote) (pair (moved_key at key) r (r.to + 1))) (raw-moved quoted_len x)
      ∙ ap (λ (t : Bool). pick t (broken OpenQuote) (pair (moved_key at key) (moved_raw at v) (at + v.to + 1))) (past-moved v.to)
      ∙ ap (λ (n : ℕ). pick (leb (length (drop at s)) v.to) (broken OpenQuote) (pair (moved_key at key) (moved_raw at v) n)) (add_assoc at v.to 1)
      ∙ sym (moved-pick at (leb (length (drop at s)) v.to) (broken OpenQuote) (pair key v (v.to + 1)))

  simple-moved : (key : Key) (x : ℕ) → simple_at s (moved_key at key) (at + x) ≡ moved at (simple_at (drop at s) key x)
  unfolding simple_at moved
  simple-moved key x =
      let v : Raw = raw_at simple_len (drop at s) x in
      ap (λ (r : Raw). pick (eqb r.len 0) (broken EmptyValue) (pair (moved_key at key) r r.to)) (raw-moved simple_len x)
      ∙ sym (moved-pick at (eqb v.len 0) (broken EmptyValue) (pair key v v.to))

  value-moved : (key : Key) (x : ℕ) → value_at s (moved_key at key) (at + x) ≡ moved at (value_at (drop at s) key x)
  unfolding value_at
  value-moved key x =
      rw (← (get_or-drop at s x 0), add_assoc at x 1, quoted-moved key (x + 1), simple-moved key x)
      (sym (moved-pick at (eqb (get_or (drop at s) x 0) 39) (quoted_at (drop at s) key (x + 1)) (simple_at (drop at s) key x)))

  sign-moved : (key : Key) (x : ℕ) → sign_at s (moved_key at key) (at + x) ≡ moved at (sign_at (drop at s) key x)
  unfolding sign_at moved
  sign-moved key x =
      let t = drop at s in
      let v : Step = value_at t key (end_of space_len t (x + 1)) in
      ap (λ (b : Bool). pick b (broken KeyAlone) (pick (eqb (get_or s (at + x) 0) 61) (value_at s (moved_key at key) (end_of space_len s (at + x + 1))) (broken NoSign))) (past-moved x)
      ∙ ap (λ (b : ℕ). pick (leb (length t) x) (broken KeyAlone) (pick (eqb b 61) (value_at s (moved_key at key) (end_of space_len s (at + x + 1))) (broken NoSign))) (sym (get_or-drop at s x 0))
      ∙ ap (λ (n : ℕ). pick (leb (length t) x) (broken KeyAlone) (pick (eqb (get_or t x 0) 61) (value_at s (moved_key at key) (end_of space_len s n)) (broken NoSign))) (add_assoc at x 1)
      ∙ ap (λ (n : ℕ). pick (leb (length t) x) (broken KeyAlone) (pick (eqb (get_or t x 0) 61) (value_at s (moved_key at key) n) (broken NoSign))) (end-shift space_len s at (x + 1))
      ∙ ap (λ (p : Step). pick (leb (length t) x) (broken KeyAlone) (pick (eqb (get_or t x 0) 61) p (broken NoSign))) (value-moved key (end_of space_len t (x + 1)))
      ∙ ap (λ (p : Step). pick (leb (length t) x) (broken KeyAlone) p) (sym (moved-pick at (eqb (get_or t x 0) 61) v (broken NoSign)))
      ∙ sym (moved-pick at (leb (length t) x) (broken KeyAlone) (pick (eqb (get_or t x 0) 61) v (broken NoSign)))

  key-of-moved : (x y : ℕ) → key_of s (at + x) (at + y) ≡ moved_key at (key_of (drop at s) x y)
  key-of-moved x y = ap (λ (l : List ℕ). record { number = key_number l; from = at + x; to = at + y }) (part_moved x y)

  key-moved : (x : ℕ) → key_at s (at + x) ≡ moved at (key_at (drop at s) x)
  unfolding key_at moved
  key-moved x =
      let t = drop at s in
      let to : ℕ = end_of key_len t x in
      let sign : ℕ = end_of space_len t to in
      ap (λ (n : ℕ). pick (eqb n (at + x)) clean (sign_at s (key_of s (at + x) n) (end_of space_len s n))) (end-shift key_len s at x)
      ∙ ap (λ (b : Bool). pick b clean (sign_at s (key_of s (at + x) (at + to)) (end_of space_len s (at + to)))) (equal-moved at to x)
      ∙ ap (λ (k : Key). pick (eqb to x) clean (sign_at s k (end_of space_len s (at + to)))) (key-of-moved x to)
      ∙ ap (λ (n : ℕ). pick (eqb to x) clean (sign_at s (moved_key at (key_of t x to)) n)) (end-shift space_len s at to)
      ∙ ap (λ (p : Step). pick (eqb to x) clean p) (sign-moved (key_of t x to) sign)
      ∙ sym (moved-pick at (eqb to x) clean (sign_at t (key_of t x to) sign))

  -- the step at a place of a text is the first step of what stands from there on
  parameter-moved : parameter_at s at ≡ moved at (parameter_at (drop at s) 0)
  unfolding parameter_at
  parameter-moved =
      ap (λ (n : ℕ). key_at s (end_of space_len s n)) (sym (add-zero at))
      ∙ ap (key_at s) (end-shift space_len s at 0)
      ∙ key-moved (end_of space_len (drop at s) 0)

  reads-moved : (step : Step) (on : ℕ → Reading) → reads s (moved at step) on ≡ reads (drop at s) step (λ n. on (at + n))
  unfolding reads moved
  reads-moved (Err None) on = refl
  reads-moved (Err (Some r)) on = refl
  reads-moved (Ok p) on = rw (part_moved p.key.from p.key.to, part_moved p.value.from p.value.to)

-- to leave bytes out is to read what is left
skip : (k : ℕ) (s : List ℕ) → key_value_from k s ≡ key_value (drop k s)
unfolding key_value_from key_value
skip zero [] = refl
skip zero (a ∷ s) = refl
skip (suc k) [] = refl
skip (suc k) (a ∷ s) = skip k s

-- two readings that go on alike
reads-alike : (s : List ℕ) (step : Step) (on other : ℕ → Reading) → ((key : Key) (value : Raw) (next : ℕ) → step ≡ pair key value next → on next ≡ other next) → reads s step on ≡ reads s step other
unfolding reads
reads-alike s (Err None) on other h = refl
reads-alike s (Err (Some r)) on other h = refl
reads-alike s (Ok p) on other h = ap (λ (r : Reading). follows (keyed (part s p.key.from p.key.to) (unescaped (part s p.value.from p.value.to))) r) (h p.key p.value p.next refl)

nothing : ends 0 ≡ reads [] (parameter_at [] 0) (λ n. key_value (drop n []))
unfolding reads parameter_at key_at run_from
nothing = refl

first : (t : List ℕ) → key_value t ≡ reads t (parameter_at t 0) (λ n. key_value (drop n t))
unfolding key_value key_value_from
first [] = nothing
first (a ∷ s) =
    reads-alike (a ∷ s) (parameter_at (a ∷ s) 0) (λ n. key_value_from (n - 1) s) (λ n. key_value (drop n (a ∷ s)))
    (λ key value next e. skip (next - 1) s ∙ ap key_value (tail next (omega (arith, (stands (a ∷ s) 0 key value next e).grows))))
  where
    tail : (n : ℕ) → 0 < n → drop (n - 1) s ≡ drop n (a ∷ s)
    tail zero h = absurd (omega arith)
    tail (suc n) h = let e : suc n - 1 ≡ n = omega arith in ap (λ (k : ℕ). drop k s) e

-- so a loop that reads on has the invariant: the whole is what was read, and then the reading from here
pub reading_step : (s : List ℕ) (at : ℕ) → key_value (drop at s) ≡ reads s (parameter_at s at) (λ n. key_value (drop n s))
reading_step s at =
    let t = drop at s in
    first t
    ∙ reads-alike t (parameter_at t 0) (λ n. key_value (drop n t)) (λ n. key_value (drop (at + n) s)) (λ key value next e. ap key_value (drop-drop next at s))
    ∙ sym (reads-moved s at (parameter_at t 0) (λ n. key_value (drop n s)))
    ∙ ap (λ (p : Step). reads s p (λ n. key_value (drop n s))) (sym (parameter-moved s at))

-- the same by cases of the step
pub reading-done : (s : List ℕ) (at : ℕ) → parameter_at s at ≡ clean → key_value (drop at s) ≡ ends 0
unfolding reads
reading-done s at e = reading_step s at ∙ rw e

pub reading-refused : (s : List ℕ) (at : ℕ) (r : Refusal) → parameter_at s at ≡ broken r → key_value (drop at s) ≡ ends (refusal_number r)
unfolding reads
reading-refused s at r e = reading_step s at ∙ rw e

-- the setting that a parameter gives
abbrev pub setting_of : List ℕ → Key → Raw → Setting
setting_of s key value = keyed (part s key.from key.to) (unescaped (part s value.from value.to))

module _ (s : List ℕ) (at : ℕ) (key : Key) (value : Raw) (next : ℕ) (step : parameter_at s at ≡ pair key value next) where
  pub reading-found : key_value (drop at s) ≡ follows (setting_of s key value) (key_value (drop next s))
  unfolding reads
  reading-found = reading_step s at ∙ rw step

  pub kind-is : kind_of (setting_of s key value) ≡ key.number
  unfolding kind_of
  kind-is = sym (stands s at key value next step).number_is

  pub value-is : value_of (setting_of s key value) ≡ unescaped (part s value.from value.to)
  unfolding value_of
  value-is = refl

-- a text is read from its first byte, and nothing is read behind its last
pub reading-past : (s : List ℕ) (at : ℕ) → length s ≤ at → key_value (drop at s) ≡ ends 0
unfolding key_value key_value_from
reading-past s at h = rw (drop_of_length-le s h)
