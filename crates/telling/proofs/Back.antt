-- The bytes of a value of each kind, read back.
-- Assumes nothing.
use Prim.Native.Nat.{ℕ, ◌+◌, ◌*◌, ◌/◌, ◌%◌, ◌^◌, ◌<◌}
use mathlib.Core.Path.{◌≡◌, refl, sym, ap, ◌∙◌}
use mathlib.Core.Bool.{Bool, true, false, ◌&&◌}
use mathlib.Core.List.{List, [], ◌∷◌, ◌++◌, map, append_assoc}
use mathlib.Core.Logic.{inl, inr}
use native.Mathlib.Omega.{arith}
use lib.Dec.{ltb}
use lib.ListN.{length, take, drop, length-take, length-append}
use borrow.Author.Tests.{eq-eqb, ne_eqb, eqb-false, not-true}
use Rattle.byte.specs.Byte.{between}
use Rattle.byte.specs.Digit.{digit_of}
use Rattle.byte.proofs.Laws.{and_left, and_right}
use Rattle.names.specs.Names.{words_of}
use Rattle.names.specs.Find.{word_number}
use Rattle.name_table.proofs.Examples.{word-own}
use Rattle.number.specs.Digits.{all_digits, value_in}
use Rattle.digits.proofs.Digits.{value-nil, value-last, all-digits-cons}
use Rattle.split.specs.Split.{first_at, split}
use Rattle.split.proofs.Split.{Free, split-first, split-free, split-behind, first-most, behind}
use Rattle.percent.specs.Percent.{is_hex, decoded}
use Rattle.percent.proofs.Rules.{nothing, gives-byte, other-stays}
use Rattle.decimal.specs.Decimal.{decimal, hex_digits}
use Rattle.decimal.proofs.Fixed.{hex-length, hex-digits, hex-value}
use Rattle.decimal.proofs.Laws.{decimal-value}
use Rattle.address.specs.declared.Kind.{Kind}
use Rattle.draw.specs.Parts.{joined}
use Rattle.escape.specs.Escape.{plain, escape, text_value}
use Rattle.escape.proofs.Escape.{escape-plain, escape-other}
use Rattle.draw.proofs.Escape.{text-none, text-cons}
use Rattle.line.specs.Line.{word_value, number_value, quad_value, kind_value}
use Rattle.line.proofs.Values.{word-joined, number-joined, host-joined, four-joined, quad-joined, v4-joined, v6-joined, quad-size}
use Rattle.config.specs.Values.{HostValue, tcp, unix}
use Rattle.field.specs.Field.{named_host}
use Rattle.telling.specs.Ranged.{Bytes, Small, NamedBytes, SmallKind}
use Rattle.telling.specs.ReadBack.{host_back, weigh, kind_back}
use Rattle.telling.proofs.Free.{decimal-free, colon-hex-free, four-free}

-- two hex digits
record Two (s : List ℕ) : Type 0 where
  high : ℕ
  low : ℕ
  is : s ≡ high ∷ low ∷ []
  hex-high : is_hex high ≡ true
  hex-low : is_hex low ≡ true

two : (s : List ℕ) → length s ≡ 2 → all_digits 16 s ≡ true → Two s
two [] l d = absurd (omega arith)
two (a ∷ []) l d = absurd (omega arith)
two (a ∷ b ∷ []) l d =
    let e : ltb (digit_of a) 16 && all_digits 16 (b ∷ []) ≡ true = sym (all-digits-cons 16 a (b ∷ [])) ∙ d in
    let f : ltb (digit_of b) 16 && all_digits 16 [] ≡ true = sym (all-digits-cons 16 b []) ∙ and_right (ltb (digit_of a) 16) _ e in
    record { high = a; low = b; is = refl; hex-high = and_left _ _ e; hex-low = and_left _ _ f }
two (a ∷ b ∷ c ∷ s) l d = absurd (omega arith)

two-value : (h l : ℕ) → value_in 16 (h ∷ l ∷ []) ≡ digit_of h * 16 + digit_of l
two-value h l = value-last 16 (h ∷ []) l ∙ omega (arith, value-last 16 [] h, value-nil 16)

-- a text: document 01's percent decoding undoes the escapes
escape-back : (a : ℕ) (s : List ℕ) → a < 256 → decoded (escape a ++ s) ≡ a ∷ decoded s
escape-back a s h = by (plain a) refl
  where
    by : (t : Bool) → plain a ≡ t → decoded (escape a ++ s) ≡ a ∷ decoded s
    by true e =
        let n : a ≡ 37 → ⊥ = eqb-false a 37 (not-true _ (and_right (between 0x21 0x7E a) _ e)) in
        rw (escape-plain a e) (other-stays a s n)
    by false e =
        let t = two (hex_digits true 2 a) (hex-length true 2 a) (hex-digits true 2 a) in
        let v : digit_of t.high * 16 + digit_of t.low ≡ a = sym (two-value t.high t.low) ∙ ap (value_in 16) (sym t.is) ∙ hex-value true 2 a (omega arith) in
        rw (escape-other a e, t.is) (gives-byte t.high t.low s t.hex-high t.hex-low ∙ ap (λ (x : ℕ). x ∷ decoded s) v)

pub text-back : (x : List ℕ) → Bytes x → decoded (joined (text_value x)) ≡ x
text-back [] h = ap decoded text-none ∙ nothing
text-back (a ∷ x) h = ap decoded (text-cons a x) ∙ escape-back a (joined (text_value x)) h.0 ∙ ap (λ (l : List ℕ). a ∷ l) (text-back x h.1)

pub host-back : (h : HostValue) → NamedBytes h → host_back (joined (named_host h)) ≡ h
unfolding host_back
host-back (tcp x) b = rw (host-joined false x) (ap tcp (text-back x b))
host-back (unix x) b = rw (host-joined true x) (ap unix (text-back x b))

pub number-back : (n : ℕ) → Small n → value_in 10 (joined (number_value n)) ≡ n
number-back n h = ap (value_in 10) (number-joined n) ∙ decimal-value n (omega arith)

pub word_back : (k w : ℕ) → k < 20 → w < length (words_of k) → word_number k (joined (word_value k (w + 1))) ≡ w + 1
word_back k w h l = ap (word_number k) (word-joined k (w + 1)) ∙ word-own k w h l

-- four texts with a byte between each two, alone and before others
module _ (b : ℕ) (p q r s : List ℕ) (fp : Free b p) (fq : Free b q) (fr : Free b r) (fs : Free b s) where
  split-four : split b (p ++ b ∷ (q ++ b ∷ (r ++ b ∷ s))) ≡ p ∷ q ∷ r ∷ s ∷ []
  split-four = rw (split-behind b p fp (q ++ b ∷ (r ++ b ∷ s)), split-behind b q fq (r ++ b ∷ s), split-behind b r fr s, split-free b s fs)

  split-four-more : (t : List ℕ) → split b ((p ++ b ∷ (q ++ b ∷ (r ++ b ∷ s))) ++ b ∷ t) ≡ p ∷ q ∷ r ∷ s ∷ split b t
  split-four-more t =
      simp append_assoc
      (rw (split-behind b p fp (q ++ b ∷ (r ++ b ∷ (s ++ b ∷ t))), split-behind b q fq (r ++ b ∷ (s ++ b ∷ t)), split-behind b r fr (s ++ b ∷ t), split-behind b s fs t))

  first-four : (t : List ℕ) → first_at b ((p ++ b ∷ (q ++ b ∷ (r ++ b ∷ s))) ++ b ∷ t) ≡ length p
  first-four t =
      let x : List ℕ = (p ++ b ∷ (q ++ b ∷ (r ++ b ∷ s))) ++ b ∷ t in
      let e : take (first_at b x) x ∷ behind b (drop (first_at b x) x) ≡ p ∷ q ∷ r ∷ s ∷ split b t = sym (split-first b x) ∙ split-four-more t in
      let f : take (first_at b x) x ≡ p = cc in
      omega (arith, ap length f, length-take (first_at b x) x, first-most b x)

-- IPv4
four-back : (n : ℕ) → n < 2 ^ 32 → kind_back (joined (kind_value (Kind.V4 n))) ≡ Kind.V4 n
unfolding kind_back weigh
four-back n h =
    let p = n / 2 ^ 24 in
    let q = n / 2 ^ 16 % 256 in
    let r = n / 2 ^ 8 % 256 in
    let s = n % 256 in
    let dot : (m : ℕ) → m < 10 ^ 20 → Free 46 (decimal m) = decimal-free 46 (inl (omega arith)) in
    let colon : (m : ℕ) → m < 10 ^ 20 → Free 58 (decimal m) = decimal-free 58 (inr (omega arith)) in
    let e : joined (kind_value (Kind.V4 n)) ≡ decimal p ++ 46 ∷ (decimal q ++ 46 ∷ (decimal r ++ 46 ∷ decimal s)) = v4-joined n ∙ four-joined n in
    let f = four-free 58 46 (decimal p) (decimal q) (decimal r) (decimal s) (λ x. omega arith) (colon p (omega arith)) (colon q (omega arith)) (colon r (omega arith)) (colon s (omega arith)) in
    let w : p * 256 ^ 3 + q * 256 ^ 2 + r * 256 + s ≡ n = omega arith in
    rw (
      e,
      f.none,
      eq-eqb (length (decimal p ++ 46 ∷ (decimal q ++ 46 ∷ (decimal r ++ 46 ∷ decimal s)))) _ refl,
      split-four 46 (decimal p) (decimal q) (decimal r) (decimal s) (dot p (omega arith)) (dot q (omega arith)) (dot r (omega arith)) (dot s (omega arith)),
      decimal-value p (omega arith),
      decimal-value q (omega arith),
      decimal-value r (omega arith),
      decimal-value s (omega arith),
    )
    (ap Kind.V4 w)

-- IPv6: a number of 64 bits in four groups
module _ (n : ℕ) (h : Small n) where
  g₁ : ℕ
  g₁ = n / 2 ^ 48

  g₂ : ℕ
  g₂ = n / 2 ^ 32 % 2 ^ 16

  g₃ : ℕ
  g₃ = n / 2 ^ 16 % 2 ^ 16

  g₄ : ℕ
  g₄ = n % 2 ^ 16

  quad-split : split 58 (joined (quad_value n)) ≡ hex_digits false 4 g₁ ∷ hex_digits false 4 g₂ ∷ hex_digits false 4 g₃ ∷ hex_digits false 4 g₄ ∷ []
  unfolding g₁ g₂ g₃ g₄
  quad-split = ap (split 58) (quad-joined n) ∙ split-four 58 (hex_digits false 4 g₁) (hex_digits false 4 g₂) (hex_digits false 4 g₃) (hex_digits false 4 g₄) (colon-hex-free 4 g₁) (colon-hex-free 4 g₂) (colon-hex-free 4 g₃) (colon-hex-free 4 g₄)

  quad-more : (t : List ℕ) → split 58 (joined (quad_value n) ++ 58 ∷ t) ≡ hex_digits false 4 g₁ ∷ hex_digits false 4 g₂ ∷ hex_digits false 4 g₃ ∷ hex_digits false 4 g₄ ∷ split 58 t
  unfolding g₁ g₂ g₃ g₄
  quad-more t = ap (λ (l : List ℕ). split 58 (l ++ 58 ∷ t)) (quad-joined n) ∙ split-four-more 58 (hex_digits false 4 g₁) (hex_digits false 4 g₂) (hex_digits false 4 g₃) (hex_digits false 4 g₄) (colon-hex-free 4 g₁) (colon-hex-free 4 g₂) (colon-hex-free 4 g₃) (colon-hex-free 4 g₄) t

  quad-first : (t : List ℕ) → first_at 58 (joined (quad_value n) ++ 58 ∷ t) ≡ 4
  unfolding g₁ g₂ g₃ g₄
  quad-first t = ap (λ (l : List ℕ). first_at 58 (l ++ 58 ∷ t)) (quad-joined n) ∙ first-four 58 (hex_digits false 4 g₁) (hex_digits false 4 g₂) (hex_digits false 4 g₃) (hex_digits false 4 g₄) (colon-hex-free 4 g₁) (colon-hex-free 4 g₂) (colon-hex-free 4 g₃) (colon-hex-free 4 g₄) t ∙ hex-length false 4 g₁

  quad-values : (more : List (List ℕ)) → map (value_in 16) (hex_digits false 4 g₁ ∷ hex_digits false 4 g₂ ∷ hex_digits false 4 g₃ ∷ hex_digits false 4 g₄ ∷ more) ≡ g₁ ∷ g₂ ∷ g₃ ∷ g₄ ∷ map (value_in 16) more
  unfolding g₁ g₂ g₃ g₄
  quad-values more = rw (hex-value false 4 g₁ (omega arith), hex-value false 4 g₂ (omega arith), hex-value false 4 g₃ (omega arith), hex-value false 4 g₄ (omega arith))

  quad-weigh : (more : List ℕ) → weigh (2 ^ 16) (g₁ ∷ g₂ ∷ g₃ ∷ g₄ ∷ more) ≡ n
  unfolding weigh g₁ g₂ g₃ g₄
  quad-weigh more = omega arith

six-back : (high low : ℕ) → Small high → Small low → kind_back (joined (kind_value (Kind.V6 high low))) ≡ Kind.V6 high low
unfolding kind_back
six-back high low h l =
    let t = joined (quad_value low) in
    let x = joined (quad_value high) ++ 58 ∷ t in
    let gs = split 58 t in
    let long : first_at 58 x ≡ length x → ⊥ = λ e. omega (arith, quad-first high h t, length-append (joined (quad_value high)) (58 ∷ t), quad-size high) in
    let a : map (value_in 16) (split 58 x) ≡ g₁ high h ∷ g₂ high h ∷ g₃ high h ∷ g₄ high h ∷ map (value_in 16) gs = ap (map (value_in 16)) (quad-more high h t) ∙ quad-values high h gs in
    let b : map (value_in 16) gs ≡ g₁ low l ∷ g₂ low l ∷ g₃ low l ∷ g₄ low l ∷ [] = ap (map (value_in 16)) (quad-split low l) ∙ quad-values low l [] in
    rw (v6-joined high low, ne_eqb (first_at 58 x) (length x) long, a, b, quad-weigh high h (g₁ low l ∷ g₂ low l ∷ g₃ low l ∷ g₄ low l ∷ []), quad-weigh low l [])

pub kind-back : (k : Kind) → SmallKind k → kind_back (joined (kind_value k)) ≡ k
kind-back (Kind.V4 n) h = four-back n h
kind-back (Kind.V6 high low) h = six-back high low h.0 h.1
