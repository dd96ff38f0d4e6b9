-- `refusal_line::refusal_into` meets its contract: its three parts, one behind the other, are the line.
-- Assumes nothing.
use native.Mathlib.Omega.{arith}
use Rattle.refusal_line.proofs.Line.{line-written}
use Rattle.refusal_line.proofs.refusal_into.Goals as goal

pub returns : goal.returns
returns c =
    let at = c.copy-at.ensures in
    let end = c.put_decimal-end.ensures in
    let last = c.put.ensures in
    let line = line-written _ c.args.out.now (omega arith) _ _ at.value at.dst_after _ _ end.value end.dst_after _ _ last.value last.dst_after in
    record { value = line.0; out_after = line.1 }
