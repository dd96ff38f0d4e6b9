-- `address::read_v6`: by the place of the first `::`.
-- Assumes nothing.
use mathlib.Core.Path.{◌≡◌, sym, ap, ◌∙◌}
use mathlib.Core.Bool.{true, false}
use mathlib.Core.List.{List}
use Prim.Native.Nat.{◌+◌, ◌-◌, ◌≤◌}
use native.Mathlib.Omega.{arith}
use lib.ListN.{length, take, drop, length-drop}
use lib.Seq.{take_all, length-take-le}
use Rattle.std.specs.Prelude.{Option}
use Rattle.groups.specs.declared.Groups.{Groups}
use Rattle.groups.specs.Eight.{packed}
use Rattle.group_text.proofs.Gap.{gap_within}
use Rattle.address.specs.Address.{side_of}
use Rattle.address.specs.Steps.{whole_at, around_at}
use Rattle.address.proofs.Gap.{v6-whole, v6-around}
use Rattle.address.proofs.Eight.{whole-held, around-held}
-- a `::` was found: it stands within the text
use Rattle.address.proofs.read_v6.Goals as goal

pub returns-then-s-gap : goal.returns-then-s-gap
returns-then-s-gap c =
    let t = c in
    c.whole.ensures ∙ ap whole_at c.read_groups.ensures ∙ whole-held _ ∙ sym (v6-whole _ _ t.find_gap-gap.ensures t.if-s-gap.true)

pub slice_bounds-read_side-end : goal.slice_bounds-read_side-end
slice_bounds-read_side-end c =
    let here_within : c.find_gap-gap.result + 2 ≤ length c.args.s.now = let s = c.args.s.now in
    omega (arith, c.find_gap-gap.ensures, gap_within s (omega (arith, c.find_gap-gap.ensures, c.if-s-gap.false))) in
    sym (length-take-le _ _ (omega (arith, here_within)))

pub slice_bounds-read_side-count : goal.slice_bounds-read_side-count
slice_bounds-read_side-count c =
    let here_within : c.find_gap-gap.result + 2 ≤ length c.args.s.now = let s = c.args.s.now in
    omega (arith, c.find_gap-gap.ensures, gap_within s (omega (arith, c.find_gap-gap.ensures, c.if-s-gap.false))) in
    here_within

pub slice_bounds-read_side-start : goal.slice_bounds-read_side-start
slice_bounds-read_side-start c =
    let here_within : c.find_gap-gap.result + 2 ≤ length c.args.s.now = let s = c.args.s.now in
    omega (arith, c.find_gap-gap.ensures, gap_within s (omega (arith, c.find_gap-gap.ensures, c.if-s-gap.false))) in
    omega (arith, here_within)

pub returns : goal.returns
returns c =
    let r = c in
    let b = r in
    let e = b in
    let s = e.args.s.now in
    let g = e.find_gap-gap.result in
    let n : take (length s - (g + 2)) (drop (g + 2) s) ≡ drop (g + 2) s = take_all (length s - (g + 2)) (drop (g + 2) s) (omega (arith, length-drop (g + 2) s)) in
    c.around.ensures
    ∙ ap (λ (l : Option Groups). around_at l r.read_side-2.result) b.read_side.ensures
    ∙ ap (around_at (packed (side_of false (take g s)))) (r.read_side-2.ensures ∙ ap (λ (t : List _). packed (side_of true t)) n)
    ∙ around-held (side_of false (take g s)) (side_of true (drop (g + 2) s))
    ∙ sym (v6-around s g e.find_gap-gap.ensures e.if-s-gap.false)
