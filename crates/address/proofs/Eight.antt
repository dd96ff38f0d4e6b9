-- What the groups that are held make: an address, or none.
-- Assumes nothing.
use mathlib.Core.Path.{◌≡◌, refl, ◌∙◌}
use mathlib.Core.Bool.{Bool, true, false}
use mathlib.Core.List.{List, [], ◌++◌, append-nil}
use Rattle.std.specs.Prelude.{Option, Some, None}
use Prim.Native.Nat.{ℕ, ◌+◌, ◌-◌, ◌≤◌}
use native.Mathlib.Omega.{arith}
use lib.Dec.{leb, eqb}
use lib.ListN.{length}
use borrow.Author.Tests.{leb-true, leb-false, eqb-true}
use Rattle.byte.specs.Byte.{pick}
use Rattle.groups.specs.declared.Groups.{Groups}
use Rattle.groups.specs.Eight.{holding, packed}
use Rattle.groups.proofs.Eight.{eight, packed-some, packed-long, quad-held}
use Rattle.address.specs.Address.{v6, whole, around}
use Rattle.address.specs.Steps.{six_of, whole_at, around_at}

six-held : (l r : List ℕ) → length l + length r ≤ 8 → six_of (holding l) (holding r) ≡ v6 (eight l r)
six-held l r room = rw (quad-held l r room 0 (omega arith), quad-held l r room 4 (omega arith))

six-alone : (l : List ℕ) → length l ≡ 8 → six_of (holding l) (holding []) ≡ v6 l
six-alone l h =
    let z : 8 - (length l + 0) ≡ 0 = omega arith in
    let q : eight l [] ≡ l = rw (z, append-nil (l ++ []), append-nil l) in
    six-held l [] (omega arith) ∙ rw q

pub whole-held : (d : Option (List ℕ)) → whole_at (packed d) ≡ whole d
unfolding whole_at packed
whole-held None = refl
whole-held (Some l) = by (leb (length l) 8) (eqb (length l) 8) refl refl
  where
    by : (t u : Bool) → leb (length l) 8 ≡ t → eqb (length l) 8 ≡ u → whole_at (packed (Some l)) ≡ pick u (v6 l) None
    by true true e f = rw (packed-some l (leb-true (length l) 8 e), f, ← six-alone l (eqb-true (length l) 8 f))
    by true false e f = rw (packed-some l (leb-true (length l) 8 e), f)
    by false true e f = absurd (omega (arith, leb-false (length l) 8 e, eqb-true (length l) 8 f))
    by false false e f = rw (packed-long l (leb-false (length l) 8 e))

around-refused : (l : Option Groups) → around_at l None ≡ None
unfolding around_at
around-refused None = refl
around-refused (Some l) = refl

pub around-held : (l r : Option (List ℕ)) → around_at (packed l) (packed r) ≡ around l r
unfolding around_at packed
around-held None r = refl
around-held (Some l) None = around-refused (packed (Some l))
around-held (Some l) (Some r) = by (leb (length l) 8) (leb (length r) 8) (leb (length l + length r) 7) refl refl refl
  where
    by : (t u w : Bool) → leb (length l) 8 ≡ t → leb (length r) 8 ≡ u → leb (length l + length r) 7 ≡ w
        → around_at (packed (Some l)) (packed (Some r)) ≡ pick w (v6 (eight l r)) None
    by true true true e f g =
        rw (packed-some l (leb-true (length l) 8 e), packed-some r (leb-true (length r) 8 f), g, ← six-held l r (omega (arith, leb-true (length l + length r) 7 g)))
    by true true false e f g = rw (packed-some l (leb-true (length l) 8 e), packed-some r (leb-true (length r) 8 f), g)
    by true false true e f g = absurd (omega (arith, leb-false (length r) 8 f, leb-true (length l + length r) 7 g))
    by true false false e f g = rw (packed-long r (leb-false (length r) 8 f)) (around-refused (packed (Some l)))
    by false u true e f g = absurd (omega (arith, leb-false (length l) 8 e, leb-true (length l + length r) 7 g))
    by false u false e f g = rw (packed-long l (leb-false (length l) 8 e))
