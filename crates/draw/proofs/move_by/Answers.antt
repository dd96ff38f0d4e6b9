use Prim.Native.Nat.{◌+◌}
use mathlib.Core.Path.{sym, ◌∙◌}
use native.Mathlib.Omega.{arith}
use borrow.Author.Tests.{leb-true, not-true, not-false}
use Rattle.draw.proofs.Drawing.{move-stopped, move-short, move-room}
use Rattle.draw.proofs.move_by.Goals as goal

pub returns-then-not-pen : goal.returns-then-not-pen
returns-then-not-pen c =
    move-stopped _ _ _ (not-true _ c.if-not-pen.true)

pub returns-then-not-has_room : goal.returns-then-not-has_room
returns-then-not-has_room c =
    let b = c in move-short _ _ _ (not-false _ b.if-not-pen.false) (sym c.has_room.ensures ∙ not-true _ c.if-not-has_room.true-raw)

pub overflow_add-result : goal.overflow_add-result
overflow_add-result c =
    let a = c.args in
    omega (arith, leb-true (a.pen.at + a.n) a.len (sym c.has_room.ensures ∙ not-false _ c.if-not-has_room.false-raw))

pub returns : goal.returns
returns c =
    let b = c in move-room _ _ _ (not-false _ b.if-not-pen.false) (sym c.has_room.ensures ∙ not-false _ c.if-not-has_room.false-raw)
