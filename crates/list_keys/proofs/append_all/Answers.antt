use Rattle.std.proofs.Common.{rules, arith, ap}
use Rattle.split.proofs.Split.{first-within}
use Rattle.lists.specs.Append.{slots, append_from}
use Rattle.lists.proofs.Turns.{left-all}
use Rattle.list_keys.proofs.Steps.{stops, ends, goes-on}
use Rattle.list_keys.proofs.append_all.Goals as goal

pub loop-at-init : goal.loop-at-init
loop-at-init g c =
    record {
      within = omega arith;
      so_far = ap (λ ps. append_from g.T.Entry.FULL (slots c.args.list.now c.args.count.now) (slots c.args.list.now c.args.count.now) ps) (left-all g.T.Entry.means c.args.start c.args.v.now);
    }

pub slice_bounds-append-end : goal.slice_bounds-append-end
slice_bounds-append-end g c =
    let w = first-within 44 c.args.v.now c.loop-at.at c.loop-at.invariant.within in search rules

pub returns-in_err-append : goal.returns-in_err-append
returns-in_err-append g c =
    stops _ _ _ _ _ _ _ _ _ c.find-end.ensures c.loop-at.invariant.within _ c.append.ensures.value c.append.ensures.list_after c.loop-at.invariant.so_far c.in_err-append.field-0.0 c.in_err-append.was _ (search rules)

pub returns-then-v-end : goal.returns-then-v-end
returns-then-v-end g c =
    ends _ _ _ _ _ _ _ _ _ c.find-end.ensures c.loop-at.invariant.within _ c.append.ensures.value c.append.ensures.list_after c.loop-at.invariant.so_far c.in_ok-append.was c.if-v-end.true

pub loop-at-preserved : goal.loop-at-preserved
loop-at-preserved g c =
    record {
      within = omega (arith, c.if-v-end.false);
      so_far = goes-on _ _ _ _ _ _ _ _ _ c.find-end.ensures c.loop-at.invariant.within _ c.append.ensures.value c.append.ensures.list_after c.loop-at.invariant.so_far c.in_ok-append.was c.if-v-end.false;
    }
