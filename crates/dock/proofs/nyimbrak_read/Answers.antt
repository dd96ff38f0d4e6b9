-- `dock::nyimbrak_read` meets its contract: a refused text tells its number, an accepted one what its report tells.
-- Assumes nothing.
use lib.ListN.{length}
use mathlib.Core.Path.{ap, ◌∙◌}
use native.Mathlib.Omega.{arith}
use Rattle.byte.specs.Byte.{part_of}
use Rattle.answers.proofs.Bounds.{Small, small}
use Rattle.entry.proofs.Entry.{entry-refused, left-refused, entry-told, left-told}
use Rattle.dock.proofs.nyimbrak_read.Goals as goal

pub overflow_cast-result : goal.overflow_cast-result
overflow_cast-result c =
    let h : Small _ = small _ _ _ c.read_apart-a.ensures.value in omega arith

pub overflow_add-result : goal.overflow_add-result
overflow_add-result c =
    let h : Small _ = small _ _ _ c.read_apart-a.ensures.value in omega arith

pub returns-then-a-ne0 : goal.returns-then-a-ne0
returns-then-a-ne0 c =
    let e = c.read_apart-a.ensures.value in
    record { value = entry-refused c.args.text.now c.args.decode.now _ e c.if-a-ne0.true _; decode_after = c.read_apart-a.ensures.decode_after; report_after = left-refused c.args.text.now c.args.decode.now _ e c.if-a-ne0.true _ }

pub returns : goal.returns
returns c =
    let e = c.read_apart-a.ensures.value in
    let i = c.part.ensures ∙ ap (part_of 0 (length c.args.text.now)) c.read_apart-a.ensures.decode_after in
    record { value = entry-told c.args.text.now c.args.decode.now _ e c.if-a-ne0.false _ i _ _ c.report_into.ensures.value; decode_after = c.read_apart-a.ensures.decode_after; report_after = left-told c.args.text.now c.args.decode.now _ e c.if-a-ne0.false _ i _ _ c.report_into.ensures.dst_after }
