-- `check_bytes` meets its contract: the decoded bytes are counted, and judged by the state of UTF-8 in the same turn. Assumes nothing.
use mathlib.Core.Path.{◌≡◌}
use Prim.Native.Nat.{◌+◌}
use lib.ListN.{length}
use Rattle.utf8_state.specs.Bytewise.{start_state, state_after}
use Rattle.percent.specs.Percent.{decoded}
use Rattle.percent.specs.Left.{decoded_left}
use Rattle.percent_check.proofs.check_bytes.Given as goal

abbrev pub invariant-loop-b : goal.invariant-loop-b
invariant-loop-b l = (length (decoded l.s) ≡ l.len + length (decoded_left l.b-iterator))
    × (state_after start_state (decoded l.s) ≡ state_after l.state (decoded_left l.b-iterator))
