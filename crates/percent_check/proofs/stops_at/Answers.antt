-- `stops_at` meets its contract: nothing is left, or the byte there decides. Assumes nothing.
use native.Mathlib.Omega.{arith}
use Rattle.percent_check.proofs.Runs.{stop-end, stop-byte}
use Rattle.percent_check.proofs.stops_at.Goals as goal

pub returns-then-s-at : goal.returns-then-s-at
returns-then-s-at c =
    let a = c.args in stop-end a.stop a.s.now a.at (omega arith)

pub returns : goal.returns
returns c =
    let a = c.args in stop-byte a.stop a.s.now a.at (omega arith)
