-- Demand 3 over what the two public functions hand back for two texts: answers, and what stands in the memory that was lent.
-- Assumes nothing.
use Rattle.std.specs.Prelude.{ℕ, ◌≤◌, ◌≡◌, List, [], ◌↔◌, length, take, Result, Ok, Err}
use Rattle.config.specs.Values.{Values, shown}
use Rattle.view.specs.Hidden.{hidden}
use Rattle.outcome.specs.declared.Answer as Read
use Rattle.outcome.specs.Outcome.{reading, answer, left}
use Rattle.report.specs.declared.ReportError.{ReportError}
use Rattle.report.specs.Report.{report}
use Rattle.report.specs.Answer.{reported, reported_into}
use Rattle.demands.specs.Blind.{Readable, Alike, SameButPassword}

-- one text read and reported: the reader's answer and the decode buffer behind it, the report's answer and the report buffer behind it
pub record Run : Type 0 where
  pub answer : Read.Answer
  pub decode : List ℕ
  pub report : Result ℕ ReportError
  pub buffer : List ℕ

-- what `read` and then `report` promise for a text, a decode buffer and a report buffer
abbrev pub ran : List ℕ → List ℕ → List ℕ → Run
ran text decode buffer =
    record {
      answer = answer text (length decode);
      decode = left text decode;
      report = reported (left text decode) (answer text (length decode)).config (length buffer);
      buffer = reported_into (left text decode) (answer text (length decode)).config buffer;
    }

-- the report that was written: as many bytes as the answer tells, none for a refusal
abbrev pub report_in : Result ℕ ReportError → List ℕ → List ℕ
report_in (Ok n) b = take n b
report_in (Err e) b = []

abbrev pub report_of : Run → List ℕ
report_of r = report_in r.report r.buffer

-- "every setting shown"
abbrev pub shown_by : Run → Values
shown_by r = shown r.decode r.answer.config

-- an "accepted" text "with room for" its report in a buffer p: how long 01 makes the report, not what the function says of it
pub record Reported (p : List ℕ) (r : Run) : Type 0 where
  pub accepted : r.answer.number ≡ 0
  pub room : length (report (shown_by r)) ≤ length p

-- "so is the report": what the function answers, the bytes that it wrote, and every byte of report buffers p and q that held the same before
pub record SameReport (p q : List ℕ) (a b : Run) : Type 0 where
  pub answer : a.report ≡ b.report
  pub bytes : report_of a ≡ report_of b
  pub buffer : p ≡ q → a.buffer ≡ b.buffer

-- "equal reports exactly when every setting shown is equal, the password only in being set or not"
abbrev pub Telling : Run → Run → Type 0
Telling a b = (report_of a ≡ report_of b) ↔ (hidden (shown_by a) ≡ hidden (shown_by b))

-- Demand 3 of two runs: on s with the decode buffer d and the report buffer p, and on t with e and q
pub record DemandThree (s d p t e q : List ℕ) (a b : Run) : Type 0 where
  -- "both are accepted or both refused with one number, count and key; every setting shown but the password is the same"
  pub blind : Readable s d → Readable t e → Alike (reading s) (reading t) → SameButPassword a.answer a.decode b.answer b.decode
  -- "and, into report buffers of one length, so is the report"
  pub report : Readable s d → Readable t e → Alike (reading s) (reading t) → length p ≡ length q → SameReport p q a b
  -- "And two accepted texts with room for their reports"
  pub telling : Reported p a → Reported q b → Telling a b
