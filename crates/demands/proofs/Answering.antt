-- What a text gives is what document 01 says, and no other answer is.
-- Assumes nothing.
use Prim.Native.Nat.{ℕ}
use mathlib.Core.Path.{◌≡◌, refl, sym, ap, subst, ◌∙◌}
use mathlib.Core.Bool.{Bool, true, false}
use mathlib.Core.List.{List}
use mathlib.Core.Logic.{◌↔◌, ◌⊎◌, inl, inr}
use lib.Dec.{eqb, ltb}
use lib.ListN.{length}
use borrow.Author.Tests.{lt-ltb, le-ltb, ltb-true, ltb-false, eq-eqb, ne_eqb, eqb-true, eqb-false}
use Rattle.byte.specs.Byte.{pick}
use Rattle.utf8.specs.Utf8.{well_formed}
use Rattle.outcome.specs.declared.Answer.{Answer}
use Rattle.outcome.specs.Outcome.{reading, refusal, Outcome, refused, accepted, outcome_of, answer}
use Rattle.demands.specs.Giving.{joined, Fails, Whole, Read, Gives, too_long, no_room, not-utf8, first-fails, end-refuses, accepts}
use Rattle.demands.proofs.Applying.{fails-or-whole, outcome-fails, outcome-whole}

module _ (s : List ℕ) where
  -- what the end decides
  pub whole-refused : (w : Whole s) → ((reading s).end ≡ 0 → ⊥) → outcome_of s ≡ refused (reading s).end 0 (length (reading s).settings)
  whole-refused w h = outcome-whole s w ∙ rw (ne_eqb (reading s).end 0 h)

  pub whole-accepted : (w : Whole s) → (reading s).end ≡ 0 → outcome_of s ≡ accepted (length (reading s).settings) w.config (joined (reading s).settings)
  whole-accepted w h = outcome-whole s w ∙ rw (eq-eqb (reading s).end 0 h)

  module _ (room : ℕ) where
    answer-read : Read s room → answer s room ≡ (outcome_of s).answer
    unfolding answer
    answer-read r = rw (le-ltb 4096 (length s) r.short, le-ltb room (length s) r.fits, r.utf8)

    gives-read : Read s room → Fails s ⊎ Whole s → Gives s room (outcome_of s).answer
    gives-read r (inl f) = subst (λ (o : Outcome). Gives s room o.answer) (sym (outcome-fails s f)) (first-fails r f)
    gives-read r (inr w) = by (eqb (reading s).end 0) refl
      where
        by : (k : Bool) → eqb (reading s).end 0 ≡ k → Gives s room (outcome_of s).answer
        by true e =
            let h : (reading s).end ≡ 0 = eqb-true (reading s).end 0 e in
            subst (λ (o : Outcome). Gives s room o.answer) (sym (whole-accepted w h)) (accepts r w h)
        by false e =
            let h : (reading s).end ≡ 0 → ⊥ = eqb-false (reading s).end 0 e in
            subst (λ (o : Outcome). Gives s room o.answer) (sym (whole-refused w h)) (end-refuses r w h)

    pub gives : Gives s room (answer s room)
    unfolding answer
    gives = by (ltb 4096 (length s)) refl (ltb room (length s)) refl (well_formed s) refl
      where
        by : (i : Bool) → ltb 4096 (length s) ≡ i → (j : Bool) → ltb room (length s) ≡ j → (k : Bool) → well_formed s ≡ k
            → Gives s room (pick i (refusal 1 0 0) (pick j (refusal 2 0 0) (pick k (outcome_of s).answer (refusal 3 0 0))))
        by true a j b k c = too_long (ltb-true 4096 (length s) a)
        by false a true b k c = no_room (ltb-false 4096 (length s) a) (ltb-true room (length s) b)
        by false a false b false c = not-utf8 (ltb-false 4096 (length s) a) (ltb-false room (length s) b) c
        by false a false b true c =
            gives-read (record { short = ltb-false 4096 (length s) a; fits = ltb-false room (length s) b; utf8 = c }) (fails-or-whole s)

    only : {a : Answer} → Gives s room a → answer s room ≡ a
    unfolding answer
    only (too_long h) = rw (lt-ltb 4096 (length s) h)
    only (no_room a h) = rw (le-ltb 4096 (length s) a, lt-ltb room (length s) h)
    only (not-utf8 a b h) = rw (le-ltb 4096 (length s) a, le-ltb room (length s) b, h)
    only (first-fails r f) = answer-read r ∙ ap (λ (o : Outcome). o.answer) (outcome-fails s f)
    only (end-refuses r w h) = answer-read r ∙ ap (λ (o : Outcome). o.answer) (whole-refused w h)
    only (accepts r w h) = answer-read r ∙ ap (λ (o : Outcome). o.answer) (whole-accepted w h)

    -- an answer is given exactly when the document says so
    pub answers : (a : Answer) → (answer s room ≡ a) ↔ Gives s room a
    answers a = (λ e. subst (Gives s room) e gives, λ g. only g)
