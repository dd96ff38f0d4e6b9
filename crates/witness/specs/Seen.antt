-- What the two functions give for one text, as a value and as a run.
-- Assumes nothing.
use Rattle.std.specs.Prelude.{ℕ, List, length}
use Rattle.outcome.specs.Outcome.{answer, left}
use Rattle.report.specs.Answer.{reported, reported_into}
use Rattle.demands.specs.Telling.{Run}
use Rattle.witness.specs.declared.Seen.{Seen}

-- the reader's answer for a text and a decode buffer, and the report's for n bytes
abbrev pub seen_of : List ℕ → List ℕ → ℕ → Seen
seen_of s d n = record { answer = answer s (length d); report = reported (left s d) (answer s (length d)).config n }

-- what is left in the report buffer
abbrev pub buffer_of : List ℕ → List ℕ → List ℕ → List ℕ
buffer_of s d p = reported_into (left s d) (answer s (length d)).config p

-- what came back, with the buffers as they were left
abbrev pub run_of : Seen → List ℕ → List ℕ → Run
run_of x d p = record { answer = x.answer; decode = d; report = x.report; buffer = p }
