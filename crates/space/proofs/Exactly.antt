-- White space is exactly the 25 code points, one by one.
-- Assumes nothing.
use mathlib.Core.Path.{◌≡◌, refl, sym}
use mathlib.Core.Bool.{Bool, true, false, ◌||◌}
use mathlib.Core.List.Memᴰ
use mathlib.Core.List.{List, [], ◌∷◌, ◌++◌, Memᴰ}
use mathlib.Core.Logic.{⊎_elim, ◌↔◌}
use Prim.Native.Nat.{ℕ, zero, suc, ◌<◌, ◌≤◌, ◌+◌, ◌-◌}
use native.Mathlib.Omega.{arith}
use lib.Dec.{eqb}
use lib.ListN.{length}
use borrow.Author.Tests.{eqb-true, eqb-false}
use Rattle.byte.specs.Byte.{between}
use Rattle.byte.proofs.Laws.{In, between_in, in_between}
use Rattle.space.specs.declared.Range.{Range}
use Rattle.space.specs.Space.{within, spaces, is_space}

pub points : List ℕ
points =
    0x9 ∷ 0xa ∷ 0xb ∷ 0xc ∷ 0xd ∷ 0x20 ∷ 0x85 ∷ 0xa0 ∷ 0x1680 ∷
    0x2000 ∷ 0x2001 ∷ 0x2002 ∷ 0x2003 ∷ 0x2004 ∷ 0x2005 ∷ 0x2006 ∷ 0x2007 ∷ 0x2008 ∷ 0x2009 ∷ 0x200a ∷
    0x2028 ∷ 0x2029 ∷ 0x202f ∷ 0x205f ∷ 0x3000 ∷ []

pub twenty-five : length points ≡ 25
unfolding points
twenty-five = refl

-- n numbers from a on
run : ℕ → ℕ → List ℕ
run a zero = []
run a (suc n) = a ∷ run (suc a) n

-- what the ranges hold, listed
listed : List Range → List ℕ
listed [] = []
listed (r ∷ rs) = run r.0 (suc r.1 - r.0) ++ listed rs

same-list : listed spaces ≡ points
unfolding listed run spaces points
same-list = refl

-- a run's members are the numbers between its ends
in-run : (n a c : ℕ) → a ≤ c → c < a + n → Memᴰ c (run a n)
unfolding run
in-run zero a c l h = absurd (omega arith)
in-run (suc n) a c l h = by (eqb a c) refl (in-run n (suc a) c)
  where
    by : (t : Bool) → eqb a c ≡ t → (suc a ≤ c → c < suc a + n → Memᴰ c (run (suc a) n)) → Memᴰ c (a ∷ run (suc a) n)
    by true e later = Memᴰ.head (sym (eqb-true a c e))
    by false e later = let differ = eqb-false a c e in Memᴰ.tail (later (omega (arith, differ)) (omega arith))

run_in : (n a c : ℕ) → Memᴰ c (run a n) → In a (a + n - 1) c
unfolding run
run_in zero a c m = absurd (Memᴰ.not-nil m)
run_in (suc n) a c m = ⊎_elim (λ e. record { low = omega arith; high = omega arith }) (λ l. let i = run_in n (suc a) c l in record { low = omega (arith, i.low); high = omega (arith, i.low, i.high) }) (Memᴰ.cases_cons m)

-- and so with a table of ranges
module _ (r : Range) (c : ℕ) where
  in-range : between r.0 r.1 c ≡ true → Memᴰ c (run r.0 (suc r.1 - r.0))
  in-range e = let i = between_in r.0 r.1 c e in in-run _ r.0 c i.low (omega (arith, i.low, i.high))

  range-in : Memᴰ c (run r.0 (suc r.1 - r.0)) → between r.0 r.1 c ≡ true
  range-in m = let i = run_in _ r.0 c m in in_between r.0 r.1 c i.low (omega (arith, i.low, i.high))

in-listed : (rs : List Range) (c : ℕ) → within rs c ≡ true → Memᴰ c (listed rs)
unfolding within listed
in-listed [] c e = let z : ◌≡◌ {A = ℕ} 0 1 = cc in absurd (omega arith)
in-listed (r ∷ rs) c e = by (between r.0 r.1 c) refl e (in-listed rs c)
  where
    by : (t : Bool) → between r.0 r.1 c ≡ t → t || within rs c ≡ true → (within rs c ≡ true → Memᴰ c (listed rs)) → Memᴰ c (run r.0 (suc r.1 - r.0) ++ listed rs)
    by true b e later = Memᴰ.append_left (listed rs) (in-range r c b)
    by false b e later = Memᴰ.append_right (run r.0 (suc r.1 - r.0)) (later e)

or_left : (a b : Bool) → a ≡ true → a || b ≡ true
or_left a b e = rw e

or_right : (a b : Bool) → b ≡ true → a || b ≡ true
or_right true b e = refl
or_right false b e = e

listed_in : (rs : List Range) (c : ℕ) → Memᴰ c (listed rs) → within rs c ≡ true
unfolding within listed
listed_in [] c m = absurd (Memᴰ.not-nil m)
listed_in (r ∷ rs) c m =
    ⊎_elim (λ l. or_left _ _ (range-in r c l)) (λ l. or_right (between r.0 r.1 c) _ (listed_in rs c l))
    (Memᴰ.append_cases (run r.0 (suc r.1 - r.0)) m)

-- the rule holds of the 25 code points, and of no other number
pub exactly : (c : ℕ) → (is_space c ≡ true) ↔ Memᴰ c points
unfolding is_space
exactly c = ((λ e. rw same-list at (in-listed spaces c e)), (λ m. listed_in spaces c (rw (← same-list) at m)))
