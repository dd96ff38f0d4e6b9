-- Laws of the place of a byte, of splitting and of joining.
-- Assumes nothing.
use Prim.Native.Nat.{ℕ, suc, ◌+◌, ◌-◌, ◌≤◌, ◌<◌}
use mathlib.Core.Path.{◌≡◌, refl, ap, ◌∙◌}
use mathlib.Core.Bool.{Bool, true, false, cond}
use mathlib.Core.List.{List, [], ◌∷◌, ◌++◌}
use native.Mathlib.Omega.{arith}
use native.Mathlib.Numerals.{add-one}
use lib.Dec.{eqb}
use lib.ListN.{length, drop, take, get_or, drop_of_length-le, length-drop}
use lib.Seq.{drop-cons, drop-drop}
use borrow.Author.Tests.{eq-eqb, ne_eqb, eqb-true}
use Rattle.std.specs.List.{position_or_len}
use Rattle.std.proofs.lemmas.List.Recursion.{is_position_or_len}
use Rattle.byte.specs.Byte.{pick}
use Rattle.split.specs.Split.{first_at, onto, split, join}

module _ (b : ℕ) where
  -- the first b from a place on: here, further on, or nowhere
  module _ (s : List ℕ) (i : ℕ) where
    pub first-here : i < length s → get_or s i 0 ≡ b → first_at b (drop i s) ≡ 0
    unfolding first_at
    first-here h e = rw (drop-cons s i 0 h, eq-eqb (get_or s i 0) b e)

    pub first_on : i < length s → (get_or s i 0 ≡ b → ⊥) → first_at b (drop i s) ≡ suc (first_at b (drop (i + 1) s))
    unfolding first_at
    first_on h e = rw (add-one, drop-cons s i 0 h, ne_eqb (get_or s i 0) b e)

    pub first-end : length s ≤ i → first_at b (drop i s) ≡ 0
    unfolding first_at
    first-end h = rw (drop_of_length-le s h)

  -- it stands within the text, or at its end
  pub first-most : (s : List ℕ) → first_at b s ≤ length s
  unfolding first_at
  first-most [] = omega arith
  first-most (a ∷ s) = by (eqb a b) (first-most s)
    where
      by : (t : Bool) → first_at b s ≤ length s → pick t 0 (suc (first_at b s)) ≤ suc (length s)
      by true h = omega arith
      by false h = omega arith

  pub first-within : (s : List ℕ) (i : ℕ) → i ≤ length s → i + first_at b (drop i s) ≤ length s
  first-within s i h = omega (arith, first-most (drop i s), length-drop i s)

  -- the pieces behind the first: none, or those behind its b
  abbrev pub behind : List ℕ → List (List ℕ)
  behind [] = []
  behind (a ∷ s) = split b s

  pub split-first : (s : List ℕ) → split b s ≡ take (first_at b s) s ∷ behind (drop (first_at b s) s)
  unfolding split first_at
  split-first [] = refl
  split-first (a ∷ s) = by (eqb a b) (split-first s)
    where
      by : (t : Bool) → split b s ≡ take (first_at b s) s ∷ behind (drop (first_at b s) s)
          → pick t ([] ∷ split b s) (onto a (split b s)) ≡ take (pick t 0 (suc (first_at b s))) (a ∷ s) ∷ behind (drop (pick t 0 (suc (first_at b s))) (a ∷ s))
      by true e = refl
      by false e = rw e

  -- the pieces from the place i on, whose first piece ends at e: before a b, or with the text
  module _ (s : List ℕ) (i e : ℕ) (at : e ≡ i + first_at b (drop i s)) where
    pub split-here : split b (drop i s) ≡ take (e - i) (drop i s) ∷ behind (drop e s)
    split-here =
        let q : e - i ≡ first_at b (drop i s) = omega arith in
        rw q (split-first (drop i s) ∙ rw (drop-drop, ← at))

    pub split-more : e < length s → split b (drop i s) ≡ take (e - i) (drop i s) ∷ split b (drop (e + 1) s)
    split-more h = split-here ∙ rw (add-one, drop-cons s e 0 h)

    pub split-last : length s ≤ e → split b (drop i s) ≡ take (e - i) (drop i s) ∷ []
    split-last h = split-here ∙ rw (drop_of_length-le s h)

  -- a piece is free of b where the first b of it is nowhere
  pub record Free (p : List ℕ) : Type 0 where
    pub none : first_at b p ≡ length p

  pub free-nil : Free []
  unfolding first_at
  free-nil = record { none = refl }

  pub free-cons : (a : ℕ) (p : List ℕ) → (a ≡ b → ⊥) → Free p → Free (a ∷ p)
  unfolding first_at
  free-cons a p e f = record { none = rw (ne_eqb a b e, f.none) }

  pub free-head : (a : ℕ) (p : List ℕ) → Free (a ∷ p) → a ≡ b → ⊥
  unfolding first_at
  free-head a p f e = let z : 0 ≡ suc (length p) = rw (eq-eqb a b e) at f.none in omega arith

  pub free-tail : (a : ℕ) (p : List ℕ) → Free (a ∷ p) → Free p
  unfolding first_at
  free-tail a p f = record { none = by (eqb a b) refl f.none }
    where
      by : (t : Bool) → eqb a b ≡ t → pick t 0 (suc (first_at b p)) ≡ suc (length p) → first_at b p ≡ length p
      by true e h = let z : 0 ≡ suc (length p) = h in omega arith
      by false e h = let z : suc (first_at b p) ≡ suc (length p) = h in omega arith

  pub free-append : (p q : List ℕ) → Free p → Free q → Free (p ++ q)
  free-append [] q f g = g
  free-append (a ∷ p) q f g = free-cons a (p ++ q) (free-head a p f) (free-append p q (free-tail a p f) g)

  pub join_one : (p : List ℕ) → join b (p ∷ []) ≡ p
  unfolding join
  join_one p = refl

  pub join_more : (p q : List ℕ) (ps : List (List ℕ)) → join b (p ∷ q ∷ ps) ≡ p ++ b ∷ join b (q ∷ ps)
  unfolding join
  join_more p q ps = refl

  -- joining the pieces of a text gives the text
  pub join-onto : (a : ℕ) (ps : List (List ℕ)) → join b (onto a ps) ≡ a ∷ join b ps
  unfolding join
  join-onto a [] = refl
  join-onto a (p ∷ []) = refl
  join-onto a (p ∷ q ∷ ps) = refl

  join-nil-onto : (ps : List (List ℕ)) (p : List ℕ) (r : List (List ℕ)) → ps ≡ p ∷ r → join b ([] ∷ ps) ≡ b ∷ join b ps
  unfolding join
  join-nil-onto ps p r e = rw e

  pub join-split : (s : List ℕ) → join b (split b s) ≡ s
  unfolding split join
  join-split [] = refl
  join-split (a ∷ s) = by (eqb a b) refl (join-split s)
    where
      by : (t : Bool) → eqb a b ≡ t → join b (split b s) ≡ s → join b (pick t ([] ∷ split b s) (onto a (split b s))) ≡ a ∷ s
      by true e h = join-nil-onto (split b s) _ _ (split-first s) ∙ rw (h, eqb-true a b e)
      by false e h = join-onto a (split b s) ∙ rw h

  -- splitting what was joined from pieces free of b gives the pieces
  pub split-free : (p : List ℕ) → Free p → split b p ≡ p ∷ []
  unfolding split
  split-free [] f = refl
  split-free (a ∷ p) f = rw (ne_eqb a b (free-head a p f), split-free p (free-tail a p f))

  pub split-behind : (p : List ℕ) → Free p → (s : List ℕ) → split b (p ++ b ∷ s) ≡ p ∷ split b s
  unfolding split
  split-behind [] f s = rw (eq-eqb b b refl)
  split-behind (a ∷ p) f s = rw (ne_eqb a b (free-head a p f), split-behind p (free-tail a p f) s)

  pub data AllFree : List (List ℕ) → Type 0 where
    free_one : {p : List ℕ} → Free p → AllFree (p ∷ [])
    free_more : {p q : List ℕ} {ps : List (List ℕ)} → Free p → AllFree (q ∷ ps) → AllFree (p ∷ q ∷ ps)

  pub split-join : {ps : List (List ℕ)} → AllFree ps → split b (join b ps) ≡ ps
  unfolding join
  split-join (free_one f) = split-free _ f
  split-join (free_more {p} f r) = split-behind p f _ ∙ ap (λ (l : List (List ℕ)). p ∷ l) (split-join r)

-- the first b is the library's first place that passes
pub first-position : (b : ℕ) (s : List ℕ) → first_at b s ≡ position_or_len (λ a. eqb a b) s
unfolding first_at
first-position b s = is_position_or_len (first_at b) (λ a. eqb a b) refl (λ x xs. by (eqb x b) (first_at b xs)) s
  where
    by : (t : Bool) (n : ℕ) → pick t 0 (suc n) ≡ cond t 0 (1 + n)
    by true n = refl
    by false n = omega arith
