-- `witness::show` meets its contract: the reader's promise, and the report's over what the reader left.
-- Assumes nothing.
use Rattle.witness.proofs.Runs.{seen-is, buffer-is}
use Rattle.witness.proofs.show.Goals as goal

pub returns : goal.returns
returns c =
    record { value = seen-is c.args.text.now c.args.decode.now _ _ c.read-answer.ensures.value c.read-answer.ensures.decode_after _ _ c.report-report.ensures.value; decode_after = c.read-answer.ensures.decode_after; dst_after = buffer-is c.args.text.now c.args.decode.now _ _ c.read-answer.ensures.value c.read-answer.ensures.decode_after _ _ c.report-report.ensures.dst_after }
