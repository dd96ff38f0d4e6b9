-- The dock's entry: "text, decode buffer and report buffer in, one number out".
-- Assumes nothing.
use Rattle.std.specs.Prelude.{ℕ, ◌+◌, List, ◌++◌, eqb, leb, length, take, drop, Result, Ok, Err}
use Rattle.byte.specs.Byte.{pick, part_of}
use Rattle.config.specs.declared.Config.{Config}
use Rattle.outcome.specs.Outcome.{answer, left}
use Rattle.report.specs.declared.ReportError.{ReportError}
use Rattle.report.specs.declared.ReportError.TheVariants.{Short, Unsound}
use Rattle.report.specs.Answer.{reported, reported_into}

-- "the report's length, or 1,000,000 plus the refusal"
abbrev pub refused : ℕ → ℕ
refused number = 1000000 + number

abbrev pub told : Result ℕ ReportError → ℕ
told (Ok n) = n
told (Err Short) = refused 16
told (Err Unsound) = refused 17

-- how much of a report buffer is used: never so much that a length could be taken for a refusal
unfoldable pub used : ℕ → ℕ
used room = pick (leb room 999999) room 999999

-- what a report of a record c over a decode buffer b leaves in a report buffer
unfoldable pub report_left : List ℕ → Config → List ℕ → List ℕ
report_left b c r = reported_into b c (take (used (length r)) r) ++ drop (used (length r)) r

-- the bytes of the decode buffer up to the text's length: every kept value lies there
abbrev pub kept : List ℕ → List ℕ → List ℕ
kept s d = part_of 0 (length s) (left s d)

unfoldable pub entry : List ℕ → List ℕ → ℕ → ℕ
entry s d room =
    pick (eqb (answer s (length d)).number 0)
    (told (reported (kept s d) (answer s (length d)).config (used room)))
    (refused (answer s (length d)).number)

-- "no refusal touches the report buffer"
unfoldable pub entry_left : List ℕ → List ℕ → List ℕ → List ℕ
entry_left s d r = pick (eqb (answer s (length d)).number 0) (report_left (kept s d) (answer s (length d)).config r) r
