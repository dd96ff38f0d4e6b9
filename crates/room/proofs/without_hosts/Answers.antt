-- `without_hosts` meets its contract: the library's fold over the counted hosts. Assumes nothing.
use mathlib.Core.Path.{ap, ◌∙◌}
use Prim.Native.Nat.{ℕ, ◌-◌}
use Rattle.std.proofs.Common.{rules, tests}
use Rattle.std.proofs.lemmas.Iterator.{YieldsList-from_slice, YieldsList-from_take}
use Rattle.std.proofs.lemmas.Iterator.Consumers.{fold_from_yields_List}
use Rattle.std.specs.Slice.Iter.{iter_rest}
use Rattle.lists.specs.declared.Host.{Host}
use Rattle.room.specs.Room.{kind_len}
use Rattle.room.proofs.Left.{hosts_taken}
use Rattle.room.proofs.without_hosts.Goals as goal

pub returns : goal.returns
returns c =
    fold_from_yields_List _ (λ (left : ℕ) (h : Host). left - 4 - kind_len h.kind) c.args.from _ c.fold.ensures.ran
    (YieldsList-from_take c.args.h.count (YieldsList-from_slice _ (ap iter_rest c.take.ensures.source ∙ c.iter.ensures.rest)) c.take.ensures.count)
    (λ a x b q k. search (rules, tests))
    ∙ hosts_taken c.args.from _
