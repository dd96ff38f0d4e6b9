-- From what the two functions answered and left to a run, and so to the demand on two texts.
-- Assumes nothing.
use Prim.Native.Nat.{ℕ}
use mathlib.Core.Path.{◌≡◌, sym, subst}
use mathlib.Core.List.{List}
use lib.ListN.{length}
use Rattle.outcome.specs.declared.Answer.{Answer}
use Rattle.outcome.specs.Outcome.{answer, left}
use Rattle.std.specs.Prelude.{Result}
use Rattle.report.specs.declared.ReportError.{ReportError}
use Rattle.report.specs.Answer.{reported, reported_into}
use Rattle.demands.specs.Telling.{Run, ran, DemandThree}
use Rattle.demands.proofs.Telling.{demand-three}
use Rattle.witness.specs.declared.Seen.{Seen}
use Rattle.witness.specs.Seen.{seen_of, buffer_of, run_of}

-- one text
module _ (s d : List ℕ) (a : Answer) (d' : List ℕ) (e : a ≡ answer s (length d)) (f : d' ≡ left s d) where
  pub seen-is : (n : ℕ) (x : Result ℕ ReportError) → x ≡ reported d' a.config n → record { answer = a; report = x } ≡ seen_of s d n
  seen-is n x g = rw (g, f, e)

  pub buffer-is : (p p' : List ℕ) → p' ≡ reported_into d' a.config p → p' ≡ buffer_of s d p
  buffer-is p p' g = rw (g, f, e)

-- a run of it
pub run_is : (s d p : List ℕ) (x : Seen) (d' p' : List ℕ) → x ≡ seen_of s d (length p) → d' ≡ left s d → p' ≡ buffer_of s d p → run_of x d' p' ≡ ran s d p
run_is s d p x d' p' e f g = rw (e, f, g)

-- two texts
pub both_meet : (s d p t e q : List ℕ) (a b : Run) → a ≡ ran s d p → b ≡ ran t e q → DemandThree s d p t e q a b
both_meet s d p t e q a b g h =
    subst (λ (x : Run). DemandThree s d p t e q x b) (sym g) (subst (λ (y : Run). DemandThree s d p t e q (ran s d p) y) (sym h) (demand-three s d p t e q))
