use Rattle.std.proofs.Common.{◌≡◌, ◌-◌, ◌≤◌, length}
use Rattle.lists.specs.Append.{slots, append_all, append_from, listed}
use Rattle.lists.proofs.Turns.{left}
use Rattle.list_keys.proofs.append_all.Given as goal

abbrev pub invariant-loop-at : goal.invariant-loop-at
invariant-loop-at g l =
    record {
      within : l.at ≤ length l.v;
      so_far : append_all g.T.Entry.FULL (slots l.initial.list l.initial.count) (listed g.T.Entry.means l.start l.v)
          ≡ append_from g.T.Entry.FULL (slots l.initial.list l.initial.count) (slots l.list l.count) (left g.T.Entry.means l.start l.v l.at);
    }

abbrev pub decreases-loop-at : goal.decreases-loop-at
decreases-loop-at g l = length l.v - l.at
