use Rattle.std.proofs.Common.{refl}
use Rattle.fields.proofs.Steps.{entry_more, entries_ended}
use Rattle.fields.proofs.put_each.Goals as goal

pub loop-entry-init : goal.loop-entry-init
loop-entry-init g c key f h = refl

pub loop-entry-preserved : goal.loop-entry-preserved
loop-entry-preserved g c key f h =
    let l = c.loop-entry in
    entry_more key f c.args.entries.now _ _ _ l.entry-index c.entry-item.result (l.invariant key f h) c.loop-entry-test.true
    (rw (← c.entry-item.is) (h _ _ _ _ _ c.put-p.ensures))

pub returns : goal.returns
returns g c key f h =
    let l = c.loop-entry in entries_ended key f c.args.entries.now _ _ l.entry-index (l.invariant key f h) c.loop-entry-test.false
