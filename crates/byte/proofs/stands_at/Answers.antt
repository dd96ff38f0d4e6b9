use mathlib.Core.Path.{◌≡◌, sym, ap, ◌∙◌}
use Prim.Native.Nat.{ℕ, ◌+◌, ◌-◌, ◌≤◌}
use native.Mathlib.Omega.{arith}
use borrow.Author.Tests.{leb-true, leb-false}
use lib.ListN.{length, take, drop}
use Rattle.byte.specs.Same.{same}
use Rattle.byte.proofs.Same.{stands-short, stands-within}
use Rattle.byte.proofs.stands_at.Goals as goal

pub returns-then-not-has_room : goal.returns-then-not-has_room
returns-then-not-has_room c =
    let a = c.args in sym (stands-short a.w.now a.at a.s.now (leb-false _ _ (sym c.has_room.ensures ∙ c.if-not-has_room.true)))

pub overflow_add-end : goal.overflow_add-end
overflow_add-end c =
    let here_room : c.args.at + length c.args.w.now ≤ length c.args.s.now = leb-true _ _ (sym c.has_room.ensures ∙ c.if-not-has_room.false) in
    omega (arith, here_room)

pub slice_bounds-equals-end : goal.slice_bounds-equals-end
slice_bounds-equals-end c =
    let here_room : c.args.at + length c.args.w.now ≤ length c.args.s.now = leb-true _ _ (sym c.has_room.ensures ∙ c.if-not-has_room.false) in
    here_room

pub returns : goal.returns
returns c =
    let here_room : c.args.at + length c.args.w.now ≤ length c.args.s.now = leb-true _ _ (sym c.has_room.ensures ∙ c.if-not-has_room.false) in
    let a = c.args in
    let n : a.at + length a.w.now - a.at ≡ length a.w.now = omega arith in
    c.equals.ensures ∙ ap (λ (k : ℕ). same (take k (drop a.at a.s.now)) a.w.now) n ∙ sym (stands-within a.w.now a.at a.s.now here_room)
