-- Laws of looking a name up among others.
-- Assumes nothing.
use Prim.Native.Nat.{ℕ, ◌+◌, ◌-◌, ◌≤◌, ◌<◌}
use mathlib.Core.Path.{◌≡◌, refl, sym}
use mathlib.Core.Bool.{Bool, true, false}
use mathlib.Core.List.{List, [], ◌∷◌, ◌++◌}
use native.Mathlib.Omega.{arith}
use native.Mathlib.Numerals.{add-one}
use lib.ListN.{length, get_or}
use Rattle.byte.specs.Byte.{pick}
use Rattle.byte.specs.Same.{same}
use Rattle.byte.proofs.Same.{same_true}
use Rattle.name_table.specs.Find.{among, number_in}

-- names appended at the end keep the earlier numbers
among-more : (k : ℕ) (l x : List (List ℕ)) (s : List ℕ) → (among k l s ≡ 0 → ⊥) → among k (l ++ x) s ≡ among k l s
unfolding among
among-more k [] x s h = absurd (h refl)
among-more k (w ∷ l) x s h = by (same s w) h (among-more (k + 1) l x s)
  where
    by : (t : Bool) → (pick t k (among (k + 1) l s) ≡ 0 → ⊥) → ((among (k + 1) l s ≡ 0 → ⊥) → among (k + 1) (l ++ x) s ≡ among (k + 1) l s)
        → pick t k (among (k + 1) (l ++ x) s) ≡ pick t k (among (k + 1) l s)
    by true p r = refl
    by false p r = r p

pub number_more : (l x : List (List ℕ)) (s : List ℕ) → (number_in l s ≡ 0 → ⊥) → number_in (l ++ x) s ≡ number_in l s
unfolding number_in
number_more l x s h = among-more 1 l x s h

-- what is found has a number that counts, and is the name that the number says
pub record Found (k : ℕ) (l : List (List ℕ)) (s : List ℕ) (n : ℕ) : Type 0 where
  pub from : k ≤ n
  pub within : n < k + length l
  pub is : get_or l (n - k) [] ≡ s

among-found : (k : ℕ) (l : List (List ℕ)) (s : List ℕ) → (among k l s ≡ 0 → ⊥) → Found k l s (among k l s)
unfolding among
among-found k [] s h = absurd (h refl)
among-found k (w ∷ l) s h = by (same s w) refl h (among-found (k + 1) l s)
  where
    by : (t : Bool) → same s w ≡ t → (pick t k (among (k + 1) l s) ≡ 0 → ⊥) → ((among (k + 1) l s ≡ 0 → ⊥) → Found (k + 1) l s (among (k + 1) l s))
        → Found k (w ∷ l) s (pick t k (among (k + 1) l s))
    by true e p r =
        let z : k - k ≡ 0 = omega arith in
        record { from = omega arith; within = omega arith; is = rw z (sym (same_true s w e)) }
    by false e p r =
        let f = r p in
        let n = among (k + 1) l s in
        let z : n - k ≡ n - (k + 1) + 1 = omega (arith, f.from) in
        record { from = omega (arith, f.from); within = omega (arith, f.within); is = rw z (rw add-one f.is) }

pub number-found : (l : List (List ℕ)) (s : List ℕ) → (number_in l s ≡ 0 → ⊥) → Found 1 l s (number_in l s)
unfolding number_in
number-found l s h = among-found 1 l s h

among_none : (k : ℕ) (s : List ℕ) → among k [] s ≡ 0
unfolding among
among_none k s = refl

pub number-none : (s : List ℕ) → number_in [] s ≡ 0
unfolding number_in
number-none s = among_none 1 s
