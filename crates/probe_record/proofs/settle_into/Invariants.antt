use Rattle.std.proofs.Common.{◌≡◌, ◌-◌}
use Rattle.probe_record.specs.Settled.{first, settled}
use Rattle.probe_record.proofs.Laws.{on}
use Rattle.probe_record.proofs.settle_into.Given as goal

abbrev pub invariant-loop : goal.invariant-loop
invariant-loop l = settled l.n l.list first ≡ settled (l.n - l.counter) l.list (on l.at l.config)
