-- Laws of the place of the first `::`, and of what stands before and behind it.
-- Assumes nothing.
use mathlib.Core.Path.{◌≡◌, refl, sym, ap, ◌∙◌}
use mathlib.Core.Bool.{Bool, true, false}
use mathlib.Core.List.{List, [], ◌∷◌, ◌++◌}
use Rattle.std.specs.Prelude.{Some}
use Prim.Native.Nat.{ℕ, suc, ◌+◌, ◌<◌, ◌≤◌}
use native.Mathlib.Numerals.{add-one}
use native.Mathlib.Omega.{arith}
use lib.Dec.{leb}
use lib.ListN.{length, drop, take, drop_of_length-le, length-drop, length-take, take-append-drop}
use lib.Seq.{drop-cons}
use borrow.Author.Tests.{leb-true, leb-false}
use Rattle.byte.specs.Byte.{pick}
use Rattle.byte.specs.Same.{same, stands_at}
use Rattle.byte.proofs.Same.{same-lengths, stands-short, stands-within, same_true, same_refl}
use Rattle.split.specs.Split.{split}
use Rattle.split.proofs.Split.{Free, free-head, free-tail}
use Rattle.group_text.specs.Text.{groups_of, side_of, gap_at}

abbrev colons : List ℕ
colons = 58 ∷ 58 ∷ []

-- whether `::` stands at a place, told from what is left of the text
stands-left : (s : List ℕ) (i : ℕ) → stands_at colons i s ≡ same (take 2 (drop i s)) colons
stands-left s i = by (leb (i + 2) (length s)) refl
  where
    by : (t : Bool) → leb (i + 2) (length s) ≡ t → stands_at colons i s ≡ same (take 2 (drop i s)) colons
    by true e = stands-within colons i s (leb-true (i + 2) (length s) e)
    by false e =
        let h : length s < i + 2 = leb-false (i + 2) (length s) e in
        stands-short colons i s h ∙ sym (same-lengths (take 2 (drop i s)) colons (λ q. omega (arith, length-take 2 (drop i s), length-drop i s)))

module _ (s : List ℕ) (i : ℕ) where
  pub gap_here : i < length s → stands_at colons i s ≡ true → gap_at (drop i s) ≡ 0
  unfolding gap_at
  gap_here h e = let q : same (take 2 (drop i s)) colons ≡ true = sym (stands-left s i) ∙ e in rw (drop-cons s i 0 h, rw (drop-cons s i 0 h) at q)

  pub gap-on : i < length s → stands_at colons i s ≡ false → gap_at (drop i s) ≡ suc (gap_at (drop (i + 1) s))
  unfolding gap_at
  gap-on h e = let q : same (take 2 (drop i s)) colons ≡ false = sym (stands-left s i) ∙ e in rw (add-one, drop-cons s i 0 h, rw (drop-cons s i 0 h) at q)

  pub gap-end : length s ≤ i → gap_at (drop i s) ≡ 0
  unfolding gap_at
  gap-end h = rw (drop_of_length-le s h)

-- both its bytes are within the text
pub gap_within : (s : List ℕ) → gap_at s < length s → gap_at s + 2 ≤ length s
unfolding gap_at
gap_within [] h = absurd (omega arith)
gap_within (a ∷ s) h = by (same (take 2 (a ∷ s)) colons) refl (gap_within s) h
  where
    by : (t : Bool) → same (take 2 (a ∷ s)) colons ≡ t → (gap_at s < length s → gap_at s + 2 ≤ length s)
        → pick t 0 (suc (gap_at s)) < suc (length s) → pick t 0 (suc (gap_at s)) + 2 ≤ suc (length s)
    by true e f h = let q : length (take 2 (a ∷ s)) ≡ 2 = ap length (same_true (take 2 (a ∷ s)) colons e) in omega (arith, length-take 2 (a ∷ s))
    by false e f h = omega (arith, f (omega arith))

pub side-empty : (tail : Bool) (s : List ℕ) → length s ≡ 0 → side_of tail s ≡ Some []
unfolding side_of
side-empty tail [] h = refl
side-empty tail (a ∷ s) h = absurd (omega arith)

pub side-some : (tail : Bool) (s : List ℕ) → (length s ≡ 0 → ⊥) → side_of tail s ≡ groups_of tail (split 58 s)
unfolding side_of
side-some tail [] h = absurd (h refl)
side-some tail (a ∷ s) h = refl

-- Where no `::` begins: at a byte that is no colon, and at a colon that is followed by one.
pub gap_other : (a : ℕ) (s : List ℕ) → (a ≡ 58 → ⊥) → gap_at (a ∷ s) ≡ suc (gap_at s)
unfolding gap_at
gap_other a s n = rw (by (same (take 2 (a ∷ s)) colons) refl)
  where
    by : (t : Bool) → same (take 2 (a ∷ s)) colons ≡ t → same (take 2 (a ∷ s)) colons ≡ false
    by true e = let q : a ∷ take 1 s ≡ colons = same_true (take 2 (a ∷ s)) colons e in let z : a ≡ 58 = cc in absurd (n z)
    by false e = e

pub gap-single : (a : ℕ) (s : List ℕ) → (a ≡ 58 → ⊥) → gap_at (58 ∷ a ∷ s) ≡ suc (gap_at (a ∷ s))
unfolding gap_at
gap-single a s n = rw (by (same (58 ∷ a ∷ []) colons) refl)
  where
    by : (t : Bool) → same (58 ∷ a ∷ []) colons ≡ t → same (58 ∷ a ∷ []) colons ≡ false
    by true e = let q : 58 ∷ a ∷ [] ≡ colons = same_true (58 ∷ a ∷ []) colons e in let z : a ≡ 58 = cc in absurd (n z)
    by false e = e

pub gap-first : (s : List ℕ) → gap_at (58 ∷ 58 ∷ s) ≡ 0
unfolding gap_at
gap-first s = rw (same_refl colons)

pub gap-nothing : gap_at [] ≡ 0
unfolding gap_at
gap-nothing = refl

-- bytes that are no colons are passed
pub gap-free : (p : List ℕ) → Free 58 p → (u : List ℕ) → gap_at (p ++ u) ≡ length p + gap_at u
gap-free [] f u = omega arith
gap-free (a ∷ p) f u = omega (arith, gap_other a (p ++ u) (free-head 58 a p f), gap-free p (free-tail 58 a p f) u)

-- a text is what stands before its first `::`, that, and what stands behind
pub gap-text : (s : List ℕ) → gap_at s < length s → s ≡ take (gap_at s) s ++ 58 ∷ 58 ∷ drop (gap_at s + 2) s
unfolding gap_at
gap-text [] h = absurd (omega arith)
gap-text (a ∷ s) h = by (same (take 2 (a ∷ s)) colons) refl (gap-text s) h
  where
    two : (w : List ℕ) → take 2 w ≡ colons → w ≡ 58 ∷ 58 ∷ drop 2 w
    two w e = sym (take-append-drop 2 w) ∙ ap (λ (l : List ℕ). l ++ drop 2 w) e

    by : (t : Bool) → same (take 2 (a ∷ s)) colons ≡ t → (gap_at s < length s → s ≡ take (gap_at s) s ++ 58 ∷ 58 ∷ drop (gap_at s + 2) s)
        → pick t 0 (suc (gap_at s)) < suc (length s)
        → a ∷ s ≡ take (pick t 0 (suc (gap_at s))) (a ∷ s) ++ 58 ∷ 58 ∷ drop (pick t 0 (suc (gap_at s)) + 2) (a ∷ s)
    by true e f h = two (a ∷ s) (same_true (take 2 (a ∷ s)) colons e)
    by false e f h =
        let n : suc (gap_at s) + 2 ≡ suc (gap_at s + 2) = omega arith in
        rw n (ap (λ (l : List ℕ). a ∷ l) (f (omega arith)))
