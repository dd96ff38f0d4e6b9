-- What the library's `position` tells of a scan from a place on for the first byte that passes a test.
-- Assumes nothing.
use mathlib.Core.Path.{◌≡◌, refl, ap, ◌∙◌, sym}
use mathlib.Core.Bool.{Bool, true, false, cond}
use mathlib.Core.List.{List}
use Prim.Native.Nat.{ℕ, ◌-◌, ◌≤◌}
use native.Mathlib.Omega.{arith}
use lib.Dec.{ltb}
use lib.ListN.{length, take, drop, length-drop}
use lib.Seq.{take_all}
use borrow.Author.Tests.{ltb-false}
use Rattle.std.proofs.Common.{Option, Some, None}
use Rattle.std.specs.List.{position_or_len}

-- the answer of `position` over a list
abbrev pub placed : (ℕ → Bool) → List ℕ → Option ℕ
placed p xs = cond (ltb (position_or_len p xs) (length xs)) (Some (position_or_len p xs)) None

-- the code's slice from a place on is all that is left
pub slice_from : (s : List ℕ) (i : ℕ) → take (length s - i) (drop i s) ≡ drop i s
slice_from s i = take_all (length s - i) (drop i s) (omega (arith, length-drop i s))

module _ (p : ℕ → Bool) (s : List ℕ) (from : ℕ) (r : Option ℕ) (is : r ≡ placed p (take (length s - from) (drop from s))) where
  here : r ≡ placed p (drop from s)
  here = is ∙ ap (placed p) (slice_from s from)

  pub place_found : (k : ℕ) → r ≡ Some k → position_or_len p (drop from s) ≡ k
  place_found k e = by (ltb (position_or_len p (drop from s)) (length (drop from s))) (sym here ∙ e)
    where
      by : (t : Bool) → cond t (Some (position_or_len p (drop from s))) None ≡ Some k → position_or_len p (drop from s) ≡ k
      by true h = cc
      by false h = cc

  pub place_none : r ≡ None → length (drop from s) ≤ position_or_len p (drop from s)
  place_none e = by (ltb (position_or_len p (drop from s)) (length (drop from s))) refl (sym here ∙ e)
    where
      by : (t : Bool) → ltb (position_or_len p (drop from s)) (length (drop from s)) ≡ t → cond t (Some (position_or_len p (drop from s))) None ≡ None → length (drop from s) ≤ position_or_len p (drop from s)
      by true q h = cc
      by false q h = ltb-false _ _ q
