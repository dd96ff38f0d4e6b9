-- The definition of a well formed text and the grammar of RFC 3629 accept the same texts.
-- Assumes nothing.
use mathlib.Core.Path.{◌≡◌, refl, ◌∙◌}
use mathlib.Core.Bool.{Bool, true, false, ◌&&◌}
use mathlib.Core.List.{List, [], ◌∷◌, ◌++◌}
use Prim.Native.Nat.{ℕ, zero, suc, ◌+◌, ◌-◌, ◌*◌, ◌%◌, ◌<◌, ◌≤◌}
use native.Mathlib.Omega.{arith}
use lib.Dec.{ltb, eqb}
use lib.ListN.{length, drop, take, get_or, take-append-drop}
use borrow.Author.Tests.{ltb-true, ltb-false, eqb-true, eqb-false, lt-ltb, le-ltb, ne_eqb}
use Rattle.byte.specs.Byte.{pick, between}
use Rattle.byte.proofs.Laws.{between_in, in_between, above-between, and_left, and_right}
use Rattle.utf8.specs.declared.Char.{Char}
use Rattle.utf8.specs.Utf8.{char, none, tail, second, least, greatest, longer, char_of, char_at, well_from, well_formed}
use Rattle.utf8.specs.Utf8 as def
use Rattle.utf8_tail.proofs.Laws.{least-tail, greatest-tail}
use Rattle.utf8.proofs.Laws.{inside, take-one, take-two, take-three}
use Rattle.utf8.specs.Grammar.{Range, UTF8-tail, UTF8-1, UTF8-2, UTF8-3, UTF8-4, UTF8-char, UTF8-octets}

-- a test of a range, from the grammar's range
in-range : (lo hi b : ℕ) → Range lo hi b → between lo hi b ≡ true
in-range lo hi b r = in_between lo hi b r.low r.high

-- a second byte is a tail, and behind most first bytes any tail will do
module _ (a b : ℕ) (p : a ≡ 0xe0 → ⊥) (q : a ≡ 0xed → ⊥) (u : a ≡ 0xf0 → ⊥) (v : a ≡ 0xf4 → ⊥) where
  pub any-tail : UTF8-tail b → Range (least a) (greatest a) b
  unfolding least greatest
  any-tail r = rw (ne_eqb a 0xe0 p, ne_eqb a 0xed q, ne_eqb a 0xf0 u, ne_eqb a 0xf4 v) r

pub second-tail : (a b : ℕ) → Range (least a) (greatest a) b → UTF8-tail b
second-tail a b r = omega (arith, least-tail a, greatest-tail a)

-- what the definition reads, by the ranges that its bytes lie in
pub of_one : (a b c d : ℕ) → Range 0 0x7f a → char_of a b c d ≡ char a 1
unfolding char_of
of_one a b c d r = rw (lt-ltb a 0x80 (omega arith))

pub of_two : (a b c d : ℕ) → Range 0xc2 0xdf a → UTF8-tail b → char_of a b c d ≡ char (a % 32 * 64 + b % 64) 2
unfolding char_of longer def.two
of_two a b c d r t = rw (le-ltb a 0x80 (omega arith), in-range 0xc2 0xdf a r, in-range 0x80 0xbf b t)

pub of_three : (a b c d : ℕ) → Range 0xe0 0xef a → Range (least a) (greatest a) b → UTF8-tail c → char_of a b c d ≡ char (a % 16 * 4096 + b % 64 * 64 + c % 64) 3
unfolding char_of longer def.three
of_three a b c d r u t =
    rw (
      le-ltb a 0x80 (omega arith),
      above-between 0xc2 0xdf a (omega arith),
      in-range 0xe0 0xef a r,
      in-range (least a) (greatest a) b u,
      in-range 0x80 0xbf c t,
    )

pub of_four : (a b c d : ℕ) → Range 0xf0 0xf4 a → Range (least a) (greatest a) b → UTF8-tail c → UTF8-tail d → char_of a b c d ≡ char (a % 8 * 262144 + b % 64 * 4096 + c % 64 * 64 + d % 64) 4
unfolding char_of longer def.four
of_four a b c d r u t v =
    rw (
      le-ltb a 0x80 (omega arith),
      above-between 0xc2 0xdf a (omega arith),
      above-between 0xe0 0xef a (omega arith),
      in-range 0xf0 0xf4 a r,
      in-range (least a) (greatest a) b u,
      in-range 0x80 0xbf c t,
      in-range 0x80 0xbf d v,
    )

-- and the other way round: whatever it reads comes from such bytes
pub data Reading (a b c d : ℕ) : Char → Type 0 where
  one : Range 0 0x7f a → Reading a b c d (char a 1)
  two : Range 0xc2 0xdf a → UTF8-tail b → Reading a b c d (char (a % 32 * 64 + b % 64) 2)
  three : Range 0xe0 0xef a → Range (least a) (greatest a) b → UTF8-tail c → Reading a b c d (char (a % 16 * 4096 + b % 64 * 64 + c % 64) 3)
  four : Range 0xf0 0xf4 a → Range (least a) (greatest a) b → UTF8-tail c → UTF8-tail d → Reading a b c d (char (a % 8 * 262144 + b % 64 * 4096 + c % 64 * 64 + d % 64) 4)
  nothing : Reading a b c d none

range-of : (lo hi b : ℕ) → between lo hi b ≡ true → Range lo hi b
range-of lo hi b e = let i = between_in lo hi b e in record { low = i.low; high = i.high }

module _ (a b c d : ℕ) where
  by_two : (q : Bool) → tail b ≡ q → Range 0xc2 0xdf a → Reading a b c d (pick q (char (a % 32 * 64 + b % 64) 2) none)
  by_two true e r = Reading.two r (range-of 0x80 0xbf b e)
  by_two false e r = Reading.nothing

  by_three : (q r : Bool) → second a b ≡ q → tail c ≡ r → Range 0xe0 0xef a → Reading a b c d (pick (q && r) (char (a % 16 * 4096 + b % 64 * 64 + c % 64) 3) none)
  by_three true true e f r = Reading.three r (range-of (least a) (greatest a) b e) (range-of 0x80 0xbf c f)
  by_three true false e f r = Reading.nothing
  by_three false q e f r = Reading.nothing

  by-four : (q r t : Bool) → second a b ≡ q → tail c ≡ r → tail d ≡ t → Range 0xf0 0xf4 a → Reading a b c d (pick (q && (r && t)) (char (a % 8 * 262144 + b % 64 * 4096 + c % 64 * 64 + d % 64) 4) none)
  by-four true true true e f g r = Reading.four r (range-of (least a) (greatest a) b e) (range-of 0x80 0xbf c f) (range-of 0x80 0xbf d g)
  by-four true true false e f g r = Reading.nothing
  by-four true false t e f g r = Reading.nothing
  by-four false q t e f g r = Reading.nothing

  pub reading : Reading a b c d (char_of a b c d)
  unfolding char_of longer def.two def.three def.four
  reading = by (ltb a 0x80) (between 0xc2 0xdf a) (between 0xe0 0xef a) (between 0xf0 0xf4 a) refl refl refl refl
    where
      by : (p q r t : Bool) → ltb a 0x80 ≡ p → between 0xc2 0xdf a ≡ q → between 0xe0 0xef a ≡ r → between 0xf0 0xf4 a ≡ t
          → Reading a b c d (pick p (char a 1) (pick q (def.two a b) (pick r (def.three a b c) (pick t (def.four a b c d) none))))
      by true q r t e f g h = Reading.one (omega (arith, ltb-true a 0x80 e))
      by false true r t e f g h = by_two (tail b) refl (range-of 0xc2 0xdf a f)
      by false false true t e f g h = by_three (second a b) (tail c) refl refl (range-of 0xe0 0xef a g)
      by false false false true e f g h = by-four (second a b) (tail c) (tail d) refl refl refl (range-of 0xf0 0xf4 a h)
      by false false false false e f g h = Reading.nothing

-- each of the grammar's forms in front of a text is read whole
step : {x : List ℕ} → UTF8-char x → (s : List ℕ) → well_formed (x ++ s) ≡ well_formed s
unfolding well_from char_at least greatest
step (UTF8-char.one (UTF8-1.ascii {a} r)) s = rw (of_one a _ _ _ r)
step (UTF8-char.two (UTF8-2.from-c2 {a} {b} r t)) s = rw (of_two a b _ _ r t)
step (UTF8-char.three (UTF8-3.at-e0 {b} {c} u t)) s = rw (of_three 0xe0 b c _ (omega arith) u t)
step (UTF8-char.three (UTF8-3.from-e1 {a} {b} {c} r u t)) s =
    rw (of_three a b c _ (omega arith) (any-tail a b (omega arith) (omega arith) (omega arith) (omega arith) u) t)
step (UTF8-char.three (UTF8-3.at-ed {b} {c} u t)) s = rw (of_three 0xed b c _ (omega arith) u t)
step (UTF8-char.three (UTF8-3.from-ee {a} {b} {c} r u t)) s =
    rw (of_three a b c _ (omega arith) (any-tail a b (omega arith) (omega arith) (omega arith) (omega arith) u) t)
step (UTF8-char.four (UTF8-4.at-f0 {b} {c} {d} u t v)) s = rw (of_four 0xf0 b c d (omega arith) u t v)
step (UTF8-char.four (UTF8-4.from-f1 {a} {b} {c} {d} r u t v)) s =
    rw (of_four a b c d (omega arith) (any-tail a b (omega arith) (omega arith) (omega arith) (omega arith) u) t v)
step (UTF8-char.four (UTF8-4.at-f4 {b} {c} {d} u t v)) s = rw (of_four 0xf4 b c d (omega arith) u t v)

-- what is read is one of the grammar's forms
pub form-three : (a b c : ℕ) → Range 0xe0 0xef a → Range (least a) (greatest a) b → UTF8-tail c → UTF8-3 (a ∷ b ∷ c ∷ [])
unfolding least greatest
form-three a b c r u t = by (eqb a 0xe0) refl (eqb a 0xed) refl (ltb a 0xed) refl
  where
    by : (p : Bool) → eqb a 0xe0 ≡ p → (q : Bool) → eqb a 0xed ≡ q → (w : Bool) → ltb a 0xed ≡ w → UTF8-3 (a ∷ b ∷ c ∷ [])
    by true e q f w g = rw (eqb-true a 0xe0 e) (UTF8-3.at-e0 (rw (eqb-true a 0xe0 e) at u) t)
    by false e true f w g = rw (eqb-true a 0xed f) (UTF8-3.at-ed (rw (eqb-true a 0xed f) at u) t)
    by false e false f true g =
        let p = eqb-false a 0xe0 e in
        let q = eqb-false a 0xed f in
        let l : a < 0xed = ltb-true a 0xed g in
        UTF8-3.from-e1 {a = a} (omega arith) (second-tail a b u) t
    by false e false f false g =
        let p = eqb-false a 0xe0 e in
        let q = eqb-false a 0xed f in
        let l : 0xed ≤ a = ltb-false a 0xed g in
        UTF8-3.from-ee {a = a} (omega arith) (second-tail a b u) t

pub form-four : (a b c d : ℕ) → Range 0xf0 0xf4 a → Range (least a) (greatest a) b → UTF8-tail c → UTF8-tail d → UTF8-4 (a ∷ b ∷ c ∷ d ∷ [])
unfolding least greatest
form-four a b c d r u t v = by (eqb a 0xf0) refl (eqb a 0xf4) refl
  where
    by : (p : Bool) → eqb a 0xf0 ≡ p → (q : Bool) → eqb a 0xf4 ≡ q → UTF8-4 (a ∷ b ∷ c ∷ d ∷ [])
    by true e q f = rw (eqb-true a 0xf0 e) (UTF8-4.at-f0 (rw (eqb-true a 0xf0 e) at u) t v)
    by false e true f = rw (eqb-true a 0xf4 f) (UTF8-4.at-f4 (rw (eqb-true a 0xf4 f) at u) t v)
    by false e false f =
        let p = eqb-false a 0xf0 e in
        let q = eqb-false a 0xf4 f in
        UTF8-4.from-f1 {a = a} (omega arith) (second-tail a b u) t v

front-form : (a : ℕ) (s : List ℕ) → 0 < (char_at (a ∷ s)).len → UTF8-char (a ∷ take ((char_at (a ∷ s)).len - 1) s)
unfolding char_at
front-form a s h = by (char_at (a ∷ s)) (reading a (get_or s 0 0) (get_or s 1 0) (get_or s 2 0)) h (inside (a ∷ s))
  where
    by : (x : Char) → Reading a (get_or s 0 0) (get_or s 1 0) (get_or s 2 0) x → 0 < x.len → x.len ≤ suc (length s) → UTF8-char (a ∷ take (x.len - 1) s)
    by x (Reading.one r) h l = UTF8-char.one (UTF8-1.ascii r)
    by x (Reading.two r t) h l = rw (take-one s (omega arith)) (UTF8-char.two (UTF8-2.from-c2 r t))
    by x (Reading.three r u t) h l = rw (take-two s (omega arith)) (UTF8-char.three (form-three a _ _ r u t))
    by x (Reading.four r u t v) h l = rw (take-three s (omega arith)) (UTF8-char.four (form-four a _ _ _ r u t v))
    by x Reading.nothing h l = absurd (omega arith)

octets-from : (s : List ℕ) (k : ℕ) → well_from k s ≡ true → UTF8-octets (drop k s)
unfolding well_from
octets-from [] zero e = UTF8-octets.done
octets-from [] (suc k) e = UTF8-octets.done
octets-from (a ∷ s) (suc k) e = octets-from s k e
octets-from (a ∷ s) zero e =
    let n = (char_at (a ∷ s)).len - 1 in
    rw (take-append-drop n s) at (UTF8-octets.more (front-form a s (ltb-true 0 _ (and_left _ _ e))) (octets-from s n (and_right (ltb 0 (char_at (a ∷ s)).len) _ e)))

-- a well formed text is a sequence of the grammar's forms, and any such sequence is well formed
pub well-octets : (s : List ℕ) → well_formed s ≡ true → UTF8-octets s
well-octets s e = octets-from s 0 e

pub octets-well : {s : List ℕ} → UTF8-octets s → well_formed s ≡ true
unfolding well_from
octets-well UTF8-octets.done = refl
octets-well (UTF8-octets.more {x} {s} f o) = step f s ∙ octets-well o
