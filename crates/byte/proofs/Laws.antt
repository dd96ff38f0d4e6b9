-- Laws of tests, and of bytes past the end.
-- Assumes nothing.
use mathlib.Core.Path.{◌≡◌, refl}
use mathlib.Core.Bool.{Bool, true, false, ◌&&◌}
use mathlib.Core.List.{List, [], ◌∷◌}
use Prim.Native.Nat.{ℕ, zero, suc, ◌<◌, ◌≤◌, suc-le-suc}
use native.Mathlib.Omega.{arith}
use lib.Dec.{leb}
use lib.ListN.{length, get_or}
use borrow.Author.Tests.{leb-true, le-leb, lt-leb}
use Rattle.byte.specs.Byte.{between}

-- a byte that passes a test that 0 fails stands within the text
pub past : (f : ℕ → Bool) → f 0 ≡ false → (s : List ℕ) (k : ℕ) → f (get_or s k 0) ≡ true → k < length s
past f z [] k e = let b : ◌≡◌ {A = ℕ} 0 1 = cc in omega arith
past f z (a ∷ s) zero e = omega arith
past f z (a ∷ s) (suc k) e = suc-le-suc (past f z s k e)

pub and_left : (a b : Bool) → a && b ≡ true → a ≡ true
and_left true b e = refl
and_left false b e = e

pub and_right : (a b : Bool) → a && b ≡ true → b ≡ true
and_right true b e = e
and_right false b e = cc

pub and-true : (a b : Bool) → a ≡ true → b ≡ true → a && b ≡ true
and-true a b p q = rw (p, q)

pub and-false : (t : Bool) → t && false ≡ false
and-false true = refl
and-false false = refl

-- what a range says of a byte, and back
pub record In (lo hi c : ℕ) : Type 0 where
  pub low : lo ≤ c
  pub high : c ≤ hi

pub between_in : (lo hi c : ℕ) → between lo hi c ≡ true → In lo hi c
unfolding between
between_in lo hi c e = record { low = leb-true lo c (and_left _ _ e); high = leb-true c hi (and_right (leb lo c) _ e) }

pub in_between : (lo hi c : ℕ) → lo ≤ c → c ≤ hi → between lo hi c ≡ true
unfolding between
in_between lo hi c a b = rw (le-leb lo c a, le-leb c hi b)

pub below-between : (lo hi c : ℕ) → c < lo → between lo hi c ≡ false
unfolding between
below-between lo hi c a = rw (lt-leb lo c a)

pub above-between : (lo hi c : ℕ) → hi < c → between lo hi c ≡ false
unfolding between
above-between lo hi c a = rw (lt-leb c hi a) (and-false (leb lo c))
