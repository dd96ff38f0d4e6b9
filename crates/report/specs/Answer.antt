-- What the report function answers, and what it leaves in the report buffer.
-- Assumes nothing.
use Rattle.std.specs.Prelude.{ℕ, List, leb, length, Result, Ok, Err}
use Rattle.byte.specs.Byte.{pick}
use Rattle.byte.specs.Put.{written}
use Rattle.config.specs.declared.Config.{Config}
use Rattle.config.specs.Values.{shown}
use Rattle.config.specs.Sound.{sound}
use Rattle.report.specs.declared.ReportError.{ReportError}
use Rattle.report.specs.declared.ReportError.TheVariants.{Short, Unsound}
use Rattle.report.specs.Report.{report}

-- 17 "the record given has a list count above 16, or a set text or counted host that lies outside the decode buffer", 16 "report buffer too short"
abbrev pub number_of : Result ℕ ReportError → ℕ
number_of (Ok n) = 0
number_of (Err Short) = 16
number_of (Err Unsound) = 17

-- "17 is tested before 16"; "The answer tells the length": of a record c over a decode buffer b, into n bytes
unfoldable pub reported : List ℕ → Config → ℕ → Result ℕ ReportError
reported b c n =
    pick (sound (length b) c)
    (pick (leb (length (report (shown b c))) n) (Ok (length (report (shown b c)))) (Err Short))
    (Err Unsound)

-- "both leave the report buffer untouched"; else the report stands in front, and "bytes behind it stay"
unfoldable pub reported_into : List ℕ → Config → List ℕ → List ℕ
reported_into b c d = pick (sound (length b) c) (written d 0 (report (shown b c))) d
