-- No surrogate, no overlong form and nothing above 10FFFF is read as a character, and every other code point is.
-- Assumes nothing.
use mathlib.Core.Path.{◌≡◌, refl, ap, ◌∙◌}
use mathlib.Core.Bool.{Bool, true, false}
use mathlib.Core.List.{List, [], ◌∷◌, ◌++◌}
use Prim.Native.Nat.{ℕ, zero, suc, ◌+◌, ◌-◌, ◌*◌, ◌/◌, ◌%◌, ◌<◌, ◌≤◌}
use native.Mathlib.Omega.{arith}
use lib.Dec.{leb, ltb, eqb}
use lib.ListN.{length, drop, take, get_or, take-append-drop}
use lib.Seq.{drop_at}
use borrow.Author.Tests.{leb-true, leb-false, le-leb, lt-leb, eqb-true, eqb-false, lt-ltb, ltb-true}
use Rattle.byte.specs.Byte.{pick}
use Rattle.byte.proofs.Laws.{and_left, and_right}
use Rattle.utf8.specs.declared.Char.{Char}
use Rattle.utf8.specs.Utf8.{char, least, greatest, char_at, well_from, well_formed}
use Rattle.utf8.specs.Grammar.{Range, UTF8-tail, UTF8-3, UTF8-4}
use Rattle.utf8.specs.Scalar.{Scalar, Scalars, Shortest, encoded, encoded_all, codes, codes_from}
use Rattle.utf8.proofs.Laws.{skip, inside, take-one, take-two, take-three}
use Rattle.utf8.proofs.Grammar.{Reading, reading, form-three, form-four, any-tail, second-tail, of_one, of_two, of_three, of_four}

-- three bytes and four, by the grammar's forms
shortest-three : (a b c : ℕ) → UTF8-3 (a ∷ b ∷ c ∷ []) → Shortest (char (a % 16 * 4096 + b % 64 * 64 + c % 64) 3)
shortest-three a b c (UTF8-3.at-e0 u t) = omega arith
shortest-three a b c (UTF8-3.from-e1 r u t) = omega arith
shortest-three a b c (UTF8-3.at-ed u t) = omega arith
shortest-three a b c (UTF8-3.from-ee r u t) = omega arith

shortest-four : (a b c d : ℕ) → UTF8-4 (a ∷ b ∷ c ∷ d ∷ []) → Shortest (char (a % 8 * 262144 + b % 64 * 4096 + c % 64 * 64 + d % 64) 4)
shortest-four a b c d (UTF8-4.at-f0 u t v) = omega arith
shortest-four a b c d (UTF8-4.from-f1 r u t v) = omega arith
shortest-four a b c d (UTF8-4.at-f4 u t v) = omega arith

shortest-of : (a b c d : ℕ) (x : Char) → Reading a b c d x → Shortest x
shortest-of a b c d x (Reading.one r) = omega arith
shortest-of a b c d x (Reading.two r t) = omega arith
shortest-of a b c d x (Reading.three r u t) = shortest-three a b c (form-three a b c r u t)
shortest-of a b c d x (Reading.four r u t v) = shortest-four a b c d (form-four a b c d r u t v)
shortest-of a b c d x Reading.nothing = omega arith

-- no character that is read is overlong, a surrogate or above 10FFFF
pub shortest : (s : List ℕ) → Shortest (char_at s)
unfolding char_at
shortest [] = omega arith
shortest (a ∷ s) = shortest-of a (get_or s 0 0) (get_or s 1 0) (get_or s 2 0) _ (reading a (get_or s 0 0) (get_or s 1 0) (get_or s 2 0))

-- a code point of ASCII is read from that one byte alone
pub ascii-code : (s : List ℕ) → 0 < (char_at s).len → (char_at s).code < 0x80 → char_at s ≡ char (get_or s 0 0) 1
unfolding char_at
ascii-code [] h l = absurd (omega arith)
ascii-code (a ∷ s) h l = by (char_at (a ∷ s)) (reading a (get_or s 0 0) (get_or s 1 0) (get_or s 2 0)) h l
  where
    by : (x : Char) → Reading a (get_or s 0 0) (get_or s 1 0) (get_or s 2 0) x → 0 < x.len → x.code < 0x80 → x ≡ char a 1
    by x (Reading.one r) h l = refl
    by x (Reading.two r t) h l = absurd (omega arith)
    by x (Reading.three r u t) h l = absurd (omega (arith, (shortest-three a _ _ (form-three a _ _ r u t)).three refl))
    by x (Reading.four r u t v) h l = absurd (omega (arith, (shortest-four a _ _ _ (form-four a _ _ _ r u t v)).four refl))
    by x Reading.nothing h l = absurd (omega arith)

-- the row of the table, by the code point's range
encoded-one : (c : ℕ) → c ≤ 0x7f → encoded c ≡ c ∷ []
unfolding encoded
encoded-one c h = rw (le-leb c 0x7f h)

encoded-two : (c : ℕ) → 0x7f < c → c ≤ 0x7ff → encoded c ≡ (0xc0 + c / 64) ∷ (0x80 + c % 64) ∷ []
unfolding encoded
encoded-two c g h = rw (lt-leb c 0x7f g, le-leb c 0x7ff h)

encoded-three : (c : ℕ) → 0x7ff < c → c ≤ 0xffff → encoded c ≡ (0xe0 + c / 4096) ∷ (0x80 + c / 64 % 64) ∷ (0x80 + c % 64) ∷ []
unfolding encoded
encoded-three c g h = rw (lt-leb c 0x7f (omega arith), lt-leb c 0x7ff g, le-leb c 0xffff h)

encoded-four : (c : ℕ) → 0xffff < c → encoded c ≡ (0xf0 + c / 262144) ∷ (0x80 + c / 4096 % 64) ∷ (0x80 + c / 64 % 64) ∷ (0x80 + c % 64) ∷ []
unfolding encoded
encoded-four c g = rw (lt-leb c 0x7f (omega arith), lt-leb c 0x7ff (omega arith), lt-leb c 0xffff g)

-- a scalar value's second byte suits its first
second-three : (c : ℕ) → Scalar c → 0x7ff < c → c ≤ 0xffff → Range (least (0xe0 + c / 4096)) (greatest (0xe0 + c / 4096)) (0x80 + c / 64 % 64)
unfolding least greatest
second-three c v g h = by (eqb (0xe0 + c / 4096) 0xe0) refl (eqb (0xe0 + c / 4096) 0xed) refl
  where
    by : (p : Bool) → eqb (0xe0 + c / 4096) 0xe0 ≡ p → (q : Bool) → eqb (0xe0 + c / 4096) 0xed ≡ q → Range (least (0xe0 + c / 4096)) (greatest (0xe0 + c / 4096)) (0x80 + c / 64 % 64)
    by true e q f = let k = eqb-true (0xe0 + c / 4096) 0xe0 e in rw k (omega arith)
    by false e true f =
        let k = eqb-true (0xe0 + c / 4096) 0xed f in
        let n : 0xd800 ≤ c → ⊥ = λ l. let m = v.no_surrogate l in omega arith in
        rw k (omega arith)
    by false e false f = any-tail (0xe0 + c / 4096) (0x80 + c / 64 % 64) (eqb-false (0xe0 + c / 4096) 0xe0 e) (eqb-false (0xe0 + c / 4096) 0xed f) (omega arith) (omega arith) (omega arith)

second-four : (c : ℕ) → Scalar c → 0xffff < c → Range (least (0xf0 + c / 262144)) (greatest (0xf0 + c / 262144)) (0x80 + c / 4096 % 64)
unfolding least greatest
second-four c v g = by (eqb (0xf0 + c / 262144) 0xf0) refl (eqb (0xf0 + c / 262144) 0xf4) refl
  where
    by : (p : Bool) → eqb (0xf0 + c / 262144) 0xf0 ≡ p → (q : Bool) → eqb (0xf0 + c / 262144) 0xf4 ≡ q → Range (least (0xf0 + c / 262144)) (greatest (0xf0 + c / 262144)) (0x80 + c / 4096 % 64)
    by true e q f = let k = eqb-true (0xf0 + c / 262144) 0xf0 e in rw k (omega arith)
    by false e true f = let k = eqb-true (0xf0 + c / 262144) 0xf4 f in rw k (omega (arith, v.most))
    by false e false f = any-tail (0xf0 + c / 262144) (0x80 + c / 4096 % 64) (omega arith) (omega arith) (eqb-false (0xf0 + c / 262144) 0xf0 e) (eqb-false (0xf0 + c / 262144) 0xf4 f) (omega arith)

-- a code point from its pieces of six bits
tail-bits : (x : ℕ) → (0x80 + x % 64) % 64 ≡ x % 64
tail-bits x = omega arith

joined : (c : ℕ) → c / 4096 * 4096 + c / 64 % 64 * 64 + c % 64 ≡ c
joined c = omega arith

joined-high : (c : ℕ) → c / 262144 * 64 + c / 4096 % 64 ≡ c / 4096
joined-high c = omega arith

joined-four : (c : ℕ) → c / 262144 * 262144 + c / 4096 % 64 * 4096 + c / 64 % 64 * 64 + c % 64 ≡ c
joined-four c = by (c / 262144) (c / 4096 % 64) (c / 4096) (c / 64 % 64) (c % 64) (joined-high c) (joined c)
  where
    by : (h x k y z : ℕ) → h * 64 + x ≡ k → k * 4096 + y * 64 + z ≡ c → h * 262144 + x * 4096 + y * 64 + z ≡ c
    by h x k y z p q = omega arith

-- every scalar value's bytes are read as that code point, whatever follows
pub read-encoded : (c : ℕ) → Scalar c → (s : List ℕ) → char_at (encoded c ++ s) ≡ char c (length (encoded c))
unfolding char_at
read-encoded c v s = by (leb c 0x7f) refl (leb c 0x7ff) refl (leb c 0xffff) refl
  where
    by : (p : Bool) → leb c 0x7f ≡ p → (q : Bool) → leb c 0x7ff ≡ q → (r : Bool) → leb c 0xffff ≡ r → char_at (encoded c ++ s) ≡ char c (length (encoded c))
    by true e q f r g = let h = leb-true c 0x7f e in rw (encoded-one c h) (of_one c _ _ _ (omega arith))
    by false e true f r g =
        let h : 0x7f < c = leb-false c 0x7f e in
        let k : c ≤ 0x7ff = leb-true c 0x7ff f in
        let same : (0xc0 + c / 64) % 32 * 64 + (0x80 + c % 64) % 64 ≡ c = omega arith in
        rw (encoded-two c h k) (of_two (0xc0 + c / 64) (0x80 + c % 64) _ _ (omega arith) (omega arith) ∙ rw same)
    by false e false f true g =
        let h : 0x7ff < c = leb-false c 0x7ff f in
        let k : c ≤ 0xffff = leb-true c 0xffff g in
        let high : (0xe0 + c / 4096) % 16 ≡ c / 4096 = omega arith in
        let same : (0xe0 + c / 4096) % 16 * 4096 + (0x80 + c / 64 % 64) % 64 * 64 + (0x80 + c % 64) % 64 ≡ c = rw (high, tail-bits (c / 64), tail-bits c) (joined c) in
        rw (encoded-three c h k) (of_three (0xe0 + c / 4096) (0x80 + c / 64 % 64) (0x80 + c % 64) _ (omega arith) (second-three c v h k) (omega arith) ∙ rw same)
    by false e false f false g =
        let h : 0xffff < c = leb-false c 0xffff g in
        let most = v.most in
        let high : (0xf0 + c / 262144) % 8 ≡ c / 262144 = omega arith in
        let same : (0xf0 + c / 262144) % 8 * 262144 + (0x80 + c / 4096 % 64) % 64 * 4096 + (0x80 + c / 64 % 64) % 64 * 64 + (0x80 + c % 64) % 64 ≡ c = rw (high, tail-bits (c / 4096), tail-bits (c / 64), tail-bits c) (joined-four c) in
        rw (encoded-four c h) (of_four (0xf0 + c / 262144) (0x80 + c / 4096 % 64) (0x80 + c / 64 % 64) (0x80 + c % 64) (omega arith) (second-four c v h) (omega arith) (omega arith) ∙ rw same)

-- and its pieces from a code point
module _ (k y z : ℕ) (h : y < 64) (l : z < 64) where
  first-of-three : (k * 4096 + y * 64 + z) / 4096 ≡ k
  first-of-three = omega arith

  second-of-three : (k * 4096 + y * 64 + z) / 64 % 64 ≡ y
  second-of-three = omega arith

  third-of-three : (k * 4096 + y * 64 + z) % 64 ≡ z
  third-of-three = omega arith

  module _ (x : ℕ) (g : x < 64) where
    first-of-four : (k * 262144 + x * 4096 + y * 64 + z) / 262144 ≡ k
    first-of-four = omega arith

    second-of-four : (k * 262144 + x * 4096 + y * 64 + z) / 4096 % 64 ≡ x
    second-of-four = omega arith

    third-of-four : (k * 262144 + x * 4096 + y * 64 + z) / 64 % 64 ≡ y
    third-of-four = omega arith

    fourth-of-four : (k * 262144 + x * 4096 + y * 64 + z) % 64 ≡ z
    fourth-of-four = omega arith

-- a tail is its six bits
tail-is : (b : ℕ) → UTF8-tail b → 0x80 + b % 64 ≡ b
tail-is b t = omega arith

bits : (b : ℕ) → b % 64 < 64
bits b = omega arith

bytes-two : (a b : ℕ) → Range 0xc2 0xdf a → UTF8-tail b → encoded (a % 32 * 64 + b % 64) ≡ a ∷ b ∷ []
bytes-two a b r t =
    let p : 0xc0 + (a % 32 * 64 + b % 64) / 64 ≡ a = omega arith in
    let q : 0x80 + (a % 32 * 64 + b % 64) % 64 ≡ b = omega arith in
    encoded-two (a % 32 * 64 + b % 64) (omega arith) (omega arith) ∙ rw (p, q)

bytes-three : (a b c : ℕ) → Range 0xe0 0xef a → Range (least a) (greatest a) b → UTF8-tail c → encoded (a % 16 * 4096 + b % 64 * 64 + c % 64) ≡ a ∷ b ∷ c ∷ []
bytes-three a b c r u t =
    let v = (shortest-three a b c (form-three a b c r u t)).three refl in
    let high : 0xe0 + a % 16 ≡ a = omega arith in
    encoded-three (a % 16 * 4096 + b % 64 * 64 + c % 64) v.0 v.1
    ∙ rw (
      first-of-three (a % 16) (b % 64) (c % 64) (bits b) (bits c),
      second-of-three (a % 16) (b % 64) (c % 64) (bits b) (bits c),
      third-of-three (a % 16) (b % 64) (c % 64) (bits b) (bits c),
      high,
      tail-is b (second-tail a b u),
      tail-is c t,
    )

bytes-four : (a b c d : ℕ) → Range 0xf0 0xf4 a → Range (least a) (greatest a) b → UTF8-tail c → UTF8-tail d → encoded (a % 8 * 262144 + b % 64 * 4096 + c % 64 * 64 + d % 64) ≡ a ∷ b ∷ c ∷ d ∷ []
bytes-four a b c d r u t w =
    let v = (shortest-four a b c d (form-four a b c d r u t w)).four refl in
    let high : 0xf0 + a % 8 ≡ a = omega arith in
    encoded-four (a % 8 * 262144 + b % 64 * 4096 + c % 64 * 64 + d % 64) v.0
    ∙ rw (
      first-of-four (a % 8) (c % 64) (d % 64) (bits c) (bits d) (b % 64) (bits b),
      second-of-four (a % 8) (c % 64) (d % 64) (bits c) (bits d) (b % 64) (bits b),
      third-of-four (a % 8) (c % 64) (d % 64) (bits c) (bits d) (b % 64) (bits b),
      fourth-of-four (a % 8) (c % 64) (d % 64) (bits c) (bits d) (b % 64) (bits b),
      high,
      tail-is b (second-tail a b u),
      tail-is c t,
      tail-is d w,
    )

-- whatever is read as a character is what the table has for its code point
pub encoded-read : (s : List ℕ) → 0 < (char_at s).len → encoded (char_at s).code ≡ take (char_at s).len s
unfolding char_at
encoded-read [] h = absurd (omega arith)
encoded-read (a ∷ s) h = by (char_at (a ∷ s)) (reading a (get_or s 0 0) (get_or s 1 0) (get_or s 2 0)) h (inside (a ∷ s))
  where
    by : (x : Char) → Reading a (get_or s 0 0) (get_or s 1 0) (get_or s 2 0) x → 0 < x.len → x.len ≤ suc (length s) → encoded x.code ≡ take x.len (a ∷ s)
    by x (Reading.one r) h l = encoded-one a (omega arith)
    by x (Reading.two r t) h l = rw (take-one s (omega arith)) (bytes-two a _ r t)
    by x (Reading.three r u t) h l = rw (take-two s (omega arith)) (bytes-three a _ _ r u t)
    by x (Reading.four r u t v) h l = rw (take-three s (omega arith)) (bytes-four a _ _ _ r u t v)
    by x Reading.nothing h l = absurd (omega arith)

-- the same of whole texts
codes-skip : (s : List ℕ) (k : ℕ) → codes_from k s ≡ codes (drop k s)
unfolding codes_from
codes-skip [] zero = refl
codes-skip [] (suc k) = refl
codes-skip (a ∷ s) zero = refl
codes-skip (a ∷ s) (suc k) = codes-skip s k

-- a character in front of a text
module _ (s : List ℕ) (c : ℕ) where
  behind : (x : List ℕ) → drop (suc (length x) - 1) (x ++ s) ≡ s
  behind x = drop_at x s (suc (length x) - 1) (omega arith)

  front-codes : (x : List ℕ) → char_at (x ++ s) ≡ char c (length x) → 0 < length x → codes (x ++ s) ≡ c ∷ codes s
  unfolding codes_from
  front-codes [] e h = absurd (omega arith)
  front-codes (a ∷ x) e h = rw (e, codes-skip (x ++ s) (suc (length x) - 1), behind x)

  front-well : (x : List ℕ) → char_at (x ++ s) ≡ char c (length x) → 0 < length x → well_formed (x ++ s) ≡ well_formed s
  unfolding well_from
  front-well [] e h = absurd (omega arith)
  front-well (a ∷ x) e h = rw (e, lt-ltb 0 (suc (length x)) (omega arith), skip (suc (length x) - 1) (x ++ s), behind x)

encoded-some : (c : ℕ) → 0 < length (encoded c)
unfolding encoded
encoded-some c = by (leb c 0x7f) (leb c 0x7ff) (leb c 0xffff)
  where
    by : (p q r : Bool) → 0 < length (pick p (c ∷ []) (pick q ((0xc0 + c / 64) ∷ (0x80 + c % 64) ∷ []) (pick r ((0xe0 + c / 4096) ∷ (0x80 + c / 64 % 64) ∷ (0x80 + c % 64) ∷ []) ((0xf0 + c / 262144) ∷ (0x80 + c / 4096 % 64) ∷ (0x80 + c / 64 % 64) ∷ (0x80 + c % 64) ∷ []))))
    by true q r = omega arith
    by false true r = omega arith
    by false false true = omega arith
    by false false false = omega arith

-- a text written from scalar values is well formed, and they are read back
pub scalars-well : {cs : List ℕ} → Scalars cs → well_formed (encoded_all cs) ≡ true
unfolding well_from encoded_all
scalars-well Scalars.none = refl
scalars-well (Scalars.more {c} {cs} v r) = front-well (encoded_all cs) c (encoded c) (read-encoded c v (encoded_all cs)) (encoded-some c) ∙ scalars-well r

pub scalars-codes : {cs : List ℕ} → Scalars cs → codes (encoded_all cs) ≡ cs
unfolding codes_from encoded_all
scalars-codes Scalars.none = refl
scalars-codes (Scalars.more {c} {cs} v r) = front-codes (encoded_all cs) c (encoded c) (read-encoded c v (encoded_all cs)) (encoded-some c) ∙ ap (λ (l : List ℕ). c ∷ l) (scalars-codes r)

-- and a well formed text is written from the scalar values that are read
codes-from : (s : List ℕ) (k : ℕ) → well_from k s ≡ true → encoded_all (codes_from k s) ≡ drop k s
unfolding well_from codes_from encoded_all
codes-from [] zero e = refl
codes-from [] (suc k) e = refl
codes-from (a ∷ s) (suc k) e = codes-from s k e
codes-from (a ∷ s) zero e =
    let some : 0 < (char_at (a ∷ s)).len = ltb-true 0 _ (and_left _ _ e) in
    let n = (char_at (a ∷ s)).len - 1 in
    let l : (char_at (a ∷ s)).len ≡ suc n = omega arith in
    let front : encoded (char_at (a ∷ s)).code ≡ a ∷ take n s = encoded-read (a ∷ s) some ∙ ap (λ (m : ℕ). take m (a ∷ s)) l in
    let rest : encoded_all (codes_from n s) ≡ drop n s = codes-from s n (and_right (ltb 0 (char_at (a ∷ s)).len) _ e) in
    rw (front, rest, take-append-drop n s)

pub well-codes : (s : List ℕ) → well_formed s ≡ true → encoded_all (codes s) ≡ s
well-codes s e = codes-from s 0 e

scalars-from : (s : List ℕ) (k : ℕ) → Scalars (codes_from k s)
unfolding codes_from
scalars-from [] zero = Scalars.none
scalars-from [] (suc k) = Scalars.none
scalars-from (a ∷ s) (suc k) = scalars-from s k
scalars-from (a ∷ s) zero = Scalars.more (shortest (a ∷ s)).scalar (scalars-from s ((char_at (a ∷ s)).len - 1))

pub well-scalars : (s : List ℕ) → Scalars (codes s)
well-scalars s = scalars-from s 0
