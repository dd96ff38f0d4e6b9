-- What the program writes for a text: "the report, or `refused` with a blank, the number and 0x0A". No buffer stands here.
-- Assumes nothing.
use Rattle.std.specs.Prelude.{ℕ, ◌≤◌, ◌<◌, ◌≡◌, List, ◌↔◌, eqb, ltb, length}
use Rattle.byte.specs.Byte.{pick}
use Rattle.utf8.specs.Utf8.{well_formed}
use Rattle.view.specs.Given.{Told, plain, told}
use Rattle.outcome.specs.Outcome.{reading}
use Rattle.report.specs.Report.{report}
use Rattle.refusal_line.specs.Refusal.{refusal_line}

-- what document 01's reading of a text comes to
abbrev pub tells_of : List ℕ → Told
tells_of s = told plain 0 (reading s).settings (reading s).end

-- "1, 2, 3 are tested in that order": the program's decode buffer is never too short
unfoldable pub text_number : List ℕ → ℕ
text_number s = pick (ltb 4096 (length s)) 1 (pick (well_formed s) (tells_of s).number 3)

unfoldable pub output_of : List ℕ → List ℕ
output_of s = pick (eqb (text_number s) 0) (report (tells_of s).values) (refusal_line (text_number s))

-- which numbers the program writes, and how much at most
pub record Writes (s : List ℕ) : Type 0 where
  -- "one byte over the limit so a too-long text is seen"
  pub one : (text_number s ≡ 1) ↔ (4096 < length s)
  pub never-two : text_number s ≡ 2 → ⊥
  -- so neither 16 nor 17
  pub low : text_number s ≤ 15
  pub most : length (output_of s) ≤ 13795
