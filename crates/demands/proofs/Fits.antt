-- What fits: the kept bytes of a reading into the text's length, the settings of a text within the limit into 8,172.
-- Assumes nothing.
use Prim.Native.Nat.{ℕ, ◌≤◌}
use mathlib.Core.Path.{◌≡◌, refl, sym, ap, subst}
use mathlib.Core.Bool.{Bool, true, false}
use mathlib.Core.List.{List, ◌∷◌}
use mathlib.Core.Logic.{◌⊎◌, inl, inr}
use native.Mathlib.Omega.{arith}
use lib.Dec.{eqb}
use lib.ListN.{length, length-append}
use borrow.Author.Tests.{eqb-true, eqb-false}
use Rattle.outcome.specs.declared.Answer.{Answer}
use Rattle.outcome.specs.Outcome.{reading, Outcome, outcome_of, answer}
use Rattle.demands.specs.Giving.{Fails, Whole, Gives, too_long, no_room, not-utf8, first-fails, end-refuses, accepts}
use Rattle.demands.specs.Leaving.{Fitting}
use Rattle.demands.proofs.Whole.{kept-fits, settings-fit}
use Rattle.demands.proofs.Applying.{fails-or-whole, outcome-fails}
use Rattle.demands.proofs.Answering.{whole-refused, whole-accepted, gives}

module _ (s : List ℕ) (room : ℕ) where
  by_count : {a : Answer} → Gives s room a → a.count ≤ 8172
  by_count (too_long h) = omega arith
  by_count (no_room a h) = omega arith
  by_count (not-utf8 a b h) = omega arith
  by_count (first-fails r f) =
      omega (arith, settings-fit s r.short, ap length f.splits, length-append f.before (f.setting ∷ f.behind))
  by_count (end-refuses r w h) = settings-fit s r.short
  by_count (accepts r w h) = settings-fit s r.short

  count_fits : (answer s room).count ≤ 8172
  count_fits = by_count (gives s room)

-- the bytes that are packed for a text, whatever it gives, never pass its length
packed-fits : (s : List ℕ) → length (outcome_of s).packed ≤ length s
packed-fits s = by (fails-or-whole s)
  where
    ended : (w : Whole s) (k : Bool) → eqb (reading s).end 0 ≡ k → length (outcome_of s).packed ≤ length s
    ended w true e = subst (λ (o : Outcome). length o.packed ≤ length s) (sym (whole-accepted s w (eqb-true (reading s).end 0 e))) (kept-fits s)
    ended w false e = subst (λ (o : Outcome). length o.packed ≤ length s) (sym (whole-refused s w (eqb-false (reading s).end 0 e))) (omega arith)

    by : Fails s ⊎ Whole s → length (outcome_of s).packed ≤ length s
    by (inl f) = subst (λ (o : Outcome). length o.packed ≤ length s) (sym (outcome-fails s f)) (omega arith)
    by (inr w) = ended w (eqb (reading s).end 0) refl

-- theorem 5
pub fitting : (s : List ℕ) → Fitting s
fitting s = record { kept = kept-fits s; packed = packed-fits s; settings = settings-fit s; count = count_fits s }
