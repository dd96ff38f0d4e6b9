-- Laws of the comparison of two lists.
-- Assumes nothing.
use Prim.Native.Nat.{ℕ, suc, ◌+◌, ◌≤◌, ◌<◌}
use mathlib.Core.Path.{◌≡◌, refl, ap}
use mathlib.Core.Bool.{Bool, true, false, ◌&&◌}
use mathlib.Core.List.{List, [], ◌∷◌}
use native.Mathlib.Numerals.{add-one}
use lib.Dec.{eqb, leb-zero}
use lib.ListN.{length, take, drop, get_or, drop_of_length-le}
use lib.Seq.{drop-cons}
use borrow.Author.Tests.{eq-eqb, ne_eqb, eqb-true, le-leb, lt-leb, leb-true}
use lib.Pointwise.{pointwise}
use Rattle.byte.specs.Same.{same, stands_at}
use Rattle.byte.proofs.Laws.{and_left, and-false}

pub same_refl : (s : List ℕ) → same s s ≡ true
unfolding same
same_refl [] = refl
same_refl (a ∷ s) = rw (eq-eqb a a refl) (same_refl s)

-- the test says true of equal lists alone
pub same_true : (s t : List ℕ) → same s t ≡ true → s ≡ t
unfolding same
same_true [] [] e = refl
same_true [] (b ∷ t) e = cc
same_true (a ∷ s) [] e = cc
same_true (a ∷ s) (b ∷ t) e = by (eqb a b) refl e (same_true s t)
  where
    by : (q : Bool) → eqb a b ≡ q → q && same s t ≡ true → (same s t ≡ true → s ≡ t) → a ∷ s ≡ b ∷ t
    by true p e f = let h : s ≡ t = f e in let k : a ≡ b = eqb-true a b p in cc
    by false p e f = cc

pub same-lengths : (s t : List ℕ) → (length s ≡ length t → ⊥) → same s t ≡ false
unfolding same
same-lengths [] [] h = absurd (h refl)
same-lengths [] (b ∷ t) h = refl
same-lengths (a ∷ s) [] h = refl
same-lengths (a ∷ s) (b ∷ t) h = rw (same-lengths s t (λ e. h (ap suc e))) (and-false (eqb a b))

module _ (s t : List ℕ) (i : ℕ) where
  -- equal bytes at a place: what follows decides
  pub same-on : i < length s → i < length t → get_or s i 0 ≡ get_or t i 0 → same (drop i s) (drop i t) ≡ same (drop (i + 1) s) (drop (i + 1) t)
  unfolding same
  same-on p q e = rw (add-one, drop-cons s i 0 p, drop-cons t i 0 q, eq-eqb (get_or s i 0) (get_or t i 0) e)

  pub same-off : i < length s → i < length t → (get_or s i 0 ≡ get_or t i 0 → ⊥) → same (drop i s) (drop i t) ≡ false
  unfolding same
  same-off p q e = rw (drop-cons s i 0 p, drop-cons t i 0 q, ne_eqb (get_or s i 0) (get_or t i 0) e)

  pub same_end : length s ≤ i → length t ≤ i → same (drop i s) (drop i t) ≡ true
  unfolding same
  same_end p q = rw (drop_of_length-le s p, drop_of_length-le t q)

-- at a place: what does not fit does not stand there, and what fits is compared
module _ (w : List ℕ) (at : ℕ) (s : List ℕ) where
  pub stands-short : length s < at + length w → stands_at w at s ≡ false
  unfolding stands_at
  stands-short h = rw (lt-leb _ _ h)

  pub stands-within : at + length w ≤ length s → stands_at w at s ≡ same (take (length w) (drop at s)) w
  unfolding stands_at
  stands-within h = rw (le-leb _ _ h)

-- what stands at a place stands within the text
pub stands-room : (w : List ℕ) (at : ℕ) (s : List ℕ) → stands_at w at s ≡ true → at + length w ≤ length s
unfolding stands_at
stands-room w at s e = leb-true (at + length w) (length s) (and_left _ _ e)

-- nothing stands at the start of every text
pub stands-nothing : (s : List ℕ) → stands_at [] 0 s ≡ true
unfolding stands_at same
stands-nothing s = rw (leb-zero _)

-- the library's comparison of two slices
pub same-pointwise : (s t : List ℕ) → pointwise eqb s t ≡ same s t
unfolding same
same-pointwise [] [] = refl
same-pointwise [] (b ∷ t) = refl
same-pointwise (a ∷ s) [] = refl
same-pointwise (a ∷ s) (b ∷ t) = rw (same-pointwise s t)
