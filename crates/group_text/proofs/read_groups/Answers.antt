-- `group_text::read_groups`: the groups are those that are held and those from here on.
-- Assumes nothing.
use mathlib.Core.Path.{ap, ◌∙◌}
use Rattle.std.specs.Prelude.{Some}
use Rattle.groups.specs.Eight.{packed}
use native.Mathlib.Omega.{arith}
use Rattle.split.proofs.Split.{first-within}
use Rattle.group_text.proofs.Reading.{reading-start, reading-more, reading-last}
use Rattle.group_text.proofs.read_groups.Goals as goal

pub loop-e-init : goal.loop-e-init
unfolding packed
loop-e-init c =
    (omega arith, c.find-e.ensures, reading-start _ _ _ (ap Some c.no_groups.ensures))

pub slice_bounds-read_group-count : goal.slice_bounds-read_group-count
slice_bounds-read_group-count c =
    omega (arith, c.loop-e.invariant.1)

pub slice_bounds-read_group-start : goal.slice_bounds-read_group-start
slice_bounds-read_group-start c =
    omega (arith, c.loop-e.invariant.1)

pub slice_bounds-read_group-end : goal.slice_bounds-read_group-end
slice_bounds-read_group-end c =
    omega (arith, c.loop-e-test.true)

pub overflow_add-i : goal.overflow_add-i
overflow_add-i c =
    let t = c in omega (arith, t.loop-e-test.true)

pub loop-e-smaller : goal.loop-e-smaller
loop-e-smaller c =
    let t = c in omega (arith, t.loop-e-test.true, c.find-e-in-loop-e.ensures)

pub loop-e-preserved : goal.loop-e-preserved
loop-e-preserved c =
    let p = c in
    let r = p in
    let t = r in
    let l = t in (
      omega (arith, t.loop-e-test.true),
      c.find-e-in-loop-e.ensures,
      reading-more _ _ _ _ _ l.loop-e.invariant.1 l.loop-e.invariant.2 t.loop-e-test.true _ r.read_group.ensures _ p.push-g.ensures,
    )

pub slice_bounds-push_last-count : goal.slice_bounds-push_last-count
slice_bounds-push_last-count c =
    omega (arith, c.loop-e.invariant.1)

pub slice_bounds-push_last-start : goal.slice_bounds-push_last-start
slice_bounds-push_last-start c =
    omega (arith, c.loop-e.invariant.1)

pub slice_bounds-push_last-end : goal.slice_bounds-push_last-end
slice_bounds-push_last-end c =
    let l = c in omega (arith, l.loop-e.invariant.1, first-within 58 l.args.s.now l.loop-e.i l.loop-e.invariant.0)

pub returns : goal.returns
returns c =
    let a = c in
    let l = a in
    c.push_last.ensures ∙ reading-last _ _ _ _ _ l.loop-e.invariant.1 l.loop-e.invariant.2 a.loop-e-test.false
