-- Laws of IPv4 texts: parts, the parts read one after the other, and the room that their number needs.
-- Assumes nothing.
use mathlib.Core.Path.{◌≡◌, refl, sym, ap, ◌∙◌}
use mathlib.Core.Bool.{Bool, true, false, ◌&&◌}
use mathlib.Core.List.{List, [], ◌∷◌}
use Prim.Native.Nat.{ℕ, zero, suc, ◌+◌, ◌-◌, ◌*◌, ◌^◌, ◌<◌, ◌≤◌}
use native.Mathlib.Omega.{arith}
use lib.Dec.{ltb, lit≤}
use lib.ListN.{length, drop, take}
use borrow.Author.Tests.{ltb-true, ltb-false}
use Rattle.byte.specs.Byte.{pick, between}
use Rattle.byte.specs.Digit.{digit_of}
use Rattle.byte.proofs.Laws.{and_left, and_right}
use Rattle.std.specs.Prelude.{Option, Some, None, Result, Ok, Err}
use Rattle.number.specs.declared.NumberError.{NumberError}
use Rattle.number.specs.Digits.{all_digits}
use Rattle.number.specs.Number.{digits_in}
use Rattle.digits.proofs.Digits.{all-digits-cons}
use Rattle.number.proofs.Laws.{digits-form, digits-told}
use Rattle.split.specs.Split.{first_at, split}
use Rattle.split.proofs.Split.{Free, free-nil, free-cons, split-more, split-last, split-free, split-first, first-most}
use Rattle.ipv4.specs.V4.{as_part, zero_led, part_of, four_of, parts_of, v4_of, with_part}

-- digits hold no byte that is no digit
pub digits-free : (base b : ℕ) → base ≤ digit_of b → (s : List ℕ) → all_digits base s ≡ true → Free b s
digits-free base b h [] e = free-nil b
digits-free base b h (a ∷ s) e =
    let d : ltb (digit_of a) base && all_digits base s ≡ true = sym (all-digits-cons base a s) ∙ e in
    let l : digit_of a < base = ltb-true _ _ (and_left _ _ d) in
    free-cons b a s (λ q. let z : digit_of a ≡ digit_of b = ap digit_of q in omega arith) (digits-free base b h s (and_right (ltb (digit_of a) base) _ d))

-- a text with a dot (byte 46) in it is no part
pub dot-no-digit : 10 ≤ digit_of 46
unfolding digit_of between
dot-no-digit = lit≤ tt

pub dotted-part : (s : List ℕ) → first_at 46 s < length s → part_of s ≡ None
unfolding part_of
dotted-part s h = rw (digits-form 10 255 s (by (all_digits 10 s) refl)) (either (zero_led s))
  where
    by : (t : Bool) → all_digits 10 s ≡ t → all_digits 10 s ≡ false
    by true e = let f : first_at 46 s ≡ length s = (digits-free 10 46 dot-no-digit s e).none in absurd (omega arith)
    by false e = e

    either : (t : Bool) → ◌≡◌ {A = Option ℕ} (pick t None None) None
    either true = refl
    either false = refl

-- what was read is at most 255
pub part-most : (s : List ℕ) (n : ℕ) → part_of s ≡ Some n → n ≤ 255
unfolding part_of
part-most s n = by (zero_led s) (digits_in 10 255 s) refl
  where
    by : (t : Bool) (r : Result ℕ NumberError) → digits_in 10 255 s ≡ r → pick t None (as_part r) ≡ Some n → n ≤ 255
    by true r q e = let z : ◌≡◌ {A = ℕ} 0 1 = cc in omega arith
    by false (Ok m) q e = let z : m ≡ n = cc in omega (arith, (digits-told 10 255 s m q).low)
    by false (Err r) q e = let z : ◌≡◌ {A = ℕ} 0 1 = cc in omega arith

-- The parts of a text one after the other: the number so far, n parts that end at a dot, and the last.
abbrev pub behind_four : Option ℕ → Option ℕ → Option ℕ
behind_four (Some v) p = with_part v p
behind_four None p = None

unfoldable pub parts_from : ℕ → Option ℕ → List (List ℕ) → Option ℕ
parts_from zero f [] = None
parts_from zero f (p ∷ []) = behind_four f (part_of p)
parts_from zero f (p ∷ q ∷ ps) = None
parts_from (suc n) f [] = None
parts_from (suc n) f (p ∷ ps) = parts_from n (behind_four f (part_of p)) ps

pub parts-refused : (n : ℕ) (ps : List (List ℕ)) → parts_from n None ps ≡ None
unfolding parts_from
parts-refused zero [] = refl
parts-refused zero (p ∷ []) = refl
parts-refused zero (p ∷ q ∷ ps) = refl
parts-refused (suc n) [] = refl
parts-refused (suc n) (p ∷ ps) = parts-refused n ps

four-behind : (a b c d : Option ℕ) → four_of a b c d ≡ behind_four (behind_four (behind_four (with_part 0 a) b) c) d
four-behind (Some a) (Some b) (Some c) (Some d) = ap Some (omega arith)
four-behind (Some a) (Some b) (Some c) None = refl
four-behind (Some a) (Some b) None d = refl
four-behind (Some a) None c d = refl
four-behind None b c d = refl

parts-start : (ps : List (List ℕ)) → parts_of ps ≡ parts_from 3 (Some 0) ps
unfolding parts_of parts_from
parts-start [] = refl
parts-start (a ∷ []) = refl
parts-start (a ∷ b ∷ []) = refl
parts-start (a ∷ b ∷ c ∷ []) = refl
parts-start (a ∷ b ∷ c ∷ d ∷ []) = four-behind (part_of a) (part_of b) (part_of c) (part_of d)
parts-start (a ∷ b ∷ c ∷ d ∷ e ∷ ps) = refl

pub v4-start : (s : List ℕ) → v4_of s ≡ parts_from 3 (Some 0) (split 46 s)
unfolding v4_of
v4-start s = parts-start (split 46 s)

-- at a place i of the text, whose next part ends at e
module _ (s : List ℕ) (i e : ℕ) (at : e ≡ i + first_at 46 (drop i s)) (f : Option ℕ) where
  pub parts_more : (k : ℕ) → 0 < k → e < length s
      → parts_from k f (split 46 (drop i s)) ≡ parts_from (k - 1) (behind_four f (part_of (take (e - i) (drop i s)))) (split 46 (drop (e + 1) s))
  unfolding parts_from
  parts_more zero z h = absurd (omega arith)
  parts_more (suc k) z h = let n : suc k - 1 ≡ k = omega arith in rw (split-more 46 s i e at h, n)

  pub parts-short : (k : ℕ) → 0 < k → length s ≤ e → parts_from k f (split 46 (drop i s)) ≡ None
  unfolding parts_from
  parts-short zero z h = absurd (omega arith)
  parts-short (suc k) z h = rw (split-last 46 s i e at h) (nothing_left k (behind_four f (part_of (take (e - i) (drop i s)))))
    where
      nothing_left : (k : ℕ) (f : Option ℕ) → parts_from k f [] ≡ None
      nothing_left zero f = refl
      nothing_left (suc k) f = refl

behind-nothing : (f : Option ℕ) → behind_four f None ≡ None
behind-nothing (Some v) = refl
behind-nothing None = refl

-- the last part runs to the end
pub parts_last : (s : List ℕ) (f : Option ℕ) → parts_from 0 f (split 46 s) ≡ behind_four f (part_of s)
unfolding parts_from
parts_last s f = by (ltb (first_at 46 s) (length s)) refl
  where
    by : (t : Bool) → ltb (first_at 46 s) (length s) ≡ t → parts_from 0 f (split 46 s) ≡ behind_four f (part_of s)
    by true e =
        let h : first_at 46 s < length s = ltb-true _ _ e in
        rw (split-more 46 s 0 (first_at 46 s) (omega arith) h, split-first 46 (drop (first_at 46 s + 1) s), dotted-part s h) (sym (behind-nothing f))
    by false e =
        let h : first_at 46 s ≡ length s = omega (arith, ltb-false (first_at 46 s) (length s) e, first-most 46 s) in
        rw (split-free 46 s (record { none = h }))

-- a text with no dot is no address
pub v4-undotted : (s : List ℕ) → Free 46 s → v4_of s ≡ None
unfolding v4_of parts_of
v4-undotted s f = rw (split-free 46 s f)

-- What the number of the parts so far stays below, with k parts to come behind the next.
abbrev pub roof : ℕ → ℕ
roof zero = 2 ^ 24
roof (suc zero) = 2 ^ 16
roof (suc (suc zero)) = 2 ^ 8
roof (suc (suc (suc k))) = 1

pub roof-most : (k v : ℕ) → v < roof k → v < 2 ^ 24
roof-most zero v h = h
roof-most (suc zero) v h = omega arith
roof-most (suc (suc zero)) v h = omega arith
roof-most (suc (suc (suc k))) v h = omega arith

roof-next : (k v p : ℕ) → 0 < k → k ≤ 3 → v < roof k → p ≤ 255 → v * 256 + p < roof (k - 1)
roof-next zero v p z m h q = absurd (omega arith)
roof-next (suc zero) v p z m h q = omega arith
roof-next (suc (suc zero)) v p z m h q = omega arith
roof-next (suc (suc (suc zero))) v p z m h q = omega arith
roof-next (suc (suc (suc (suc k)))) v p z m h q = absurd (omega arith)

pub part_room : (k v : ℕ) (s : List ℕ) (n : ℕ) → 0 < k → k ≤ 3 → v < roof k → with_part v (part_of s) ≡ Some n → n < roof (k - 1)
part_room k v s n z m h = by (part_of s) refl
  where
    by : (p : Option ℕ) → part_of s ≡ p → with_part v p ≡ Some n → n < roof (k - 1)
    by (Some p) q e =
        let x : v * 256 + p ≡ n = cc in
        let y : v * 256 + p < roof (k - 1) = roof-next k v p z m h (part-most s p q) in
        omega arith
    by None q e = let x : ◌≡◌ {A = ℕ} 0 1 = cc in absurd (omega arith)
