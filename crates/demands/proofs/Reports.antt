-- Demand 3's first half on reports: "into report buffers of one length, so is the report".
-- Assumes nothing.
use Prim.Native.Nat.{ℕ}
use mathlib.Core.Path.{◌≡◌}
use mathlib.Core.List.{List}
use lib.ListN.{length}
use Rattle.byte.specs.Put.{written}
use Rattle.config.specs.Values.{shown}
use Rattle.report.specs.Report.{report}
use Rattle.report.specs.Answer.{reported, reported_into}
use Rattle.telling.proofs.Equal as Equal
use Rattle.outcome.specs.Outcome.{reading, answer, left}
use Rattle.demands.specs.Blind.{Readable, Alike}
use Rattle.demands.proofs.Shows.{read-sound}
use Rattle.demands.proofs.Blind.{blind}

module _ (s t d e : List ℕ) (r : Readable s d) (q : Readable t e) (a : Alike (reading s) (reading t)) where
  pub same-report : report (shown (left s d) (answer s (length d)).config) ≡ report (shown (left t e) (answer t (length e)).config)
  same-report = Equal.blind _ _ (blind s t d e r q a).values

  -- the report function answers the same for buffers of one length
  pub same_answer : (n : ℕ) → reported (left s d) (answer s (length d)).config n ≡ reported (left t e) (answer t (length e)).config n
  unfolding reported
  same_answer n = rw (read-sound s d, read-sound t e, same-report)

-- and what it writes is the report and nothing else
pub writes : (s d p : List ℕ) → reported_into (left s d) (answer s (length d)).config p ≡ written p 0 (report (shown (left s d) (answer s (length d)).config))
unfolding reported_into
writes s d p = rw (read-sound s d)
