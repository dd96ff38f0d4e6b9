-- The report, on what a record shows and nothing else. What each key's lines show is crate report_lines's.
-- Assumes nothing.
use Rattle.std.specs.Prelude.{ℕ, List}
use Rattle.draw.specs.Parts.{joined}
use Rattle.line.specs.Line.{lines_from}
use Rattle.config.specs.Values.{Values}
unfoldable pub use Rattle.report_lines.specs.Values.{values}

-- the lines of key 1 to 19, one after the other
unfoldable pub report : Values → List ℕ
report v = joined (lines_from 1 (values v))
