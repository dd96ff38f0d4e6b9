-- `unescape` meets its contract: as it is written, or byte by byte by the laws of filling lent memory. Assumes nothing.
use mathlib.Core.Bool.{false}
use mathlib.Core.Path.{sym, ap, ◌∙◌}
use mathlib.Core.List.{◌∷◌}
use Prim.Native.Nat.{◌+◌, ◌<◌}
use native.Mathlib.Omega.{arith}
use borrow.Author.Tests.{leb-true, leb-false, eqb-true}
use lib.ListN.{length, drop, get_or}
use Rattle.byte.specs.Put.{written, after}
use Rattle.byte.proofs.Writing.{written-short, after-short}
use Rattle.byte.proofs.Fill.{Filling, fill_start, fill-room, fill_more, fill_done}
use Rattle.backslash.specs.Backslash.{unescaped, unescaped_from}
use Rattle.backslash.proofs.Pieces.{as_written, sign-on, sign-off, sign-past}
use Rattle.backslash.proofs.unescape.Goals as goal

pub returns-then-is_as_written : goal.returns-then-is_as_written
returns-then-is_as_written c =
    let p = c in
    let g = p in
    let a = g.args in
    let e = as_written a.src.now (eqb-true _ _ (sym g.is_as_written.ensures ∙ g.if-is_as_written.true)) in
    record { value = p.copy.ensures.value ∙ ap (after a.dst.now a.at) (sym e); dst_after = p.copy.ensures.dst_after ∙ ap (written a.dst.now a.at) (sym e) }

pub returns-then-not-has_room : goal.returns-then-not-has_room
returns-then-not-has_room c =
    let here_no_room : length c.args.dst.now < c.args.at + length (unescaped c.args.src.now) = leb-false _ _ (sym c.has_room.ensures ∙ c.if-not-has_room.true) in
    let a = c.args in
    record { value = sym (after-short _ a.at _ here_no_room); dst_after = sym (written-short _ a.at _ here_no_room) }

pub loop-b-init : goal.loop-b-init
loop-b-init c =
    (leb-true _ _ (sym c.has_room.ensures ∙ c.if-not-has_room.false), fill_start _ _ _)

pub loop-b-preserved-then-is_sign : goal.loop-b-preserved-then-is_sign
loop-b-preserved-then-is_sign c =
    let l = c.loop-b in
    (l.invariant.0, rw (sign-on c.args.src.now l.b-index l.behind _ c.loop-b-test.true c.is_sign.ensures c.if-is_sign.true) at l.invariant.1)

pub overflow_add-dst : goal.overflow_add-dst
overflow_add-dst c =
    omega (arith, c.loop-b.invariant.0, c.loop-b.invariant.1.low)

pub bounds-dst-at : goal.bounds-dst-at
bounds-dst-at c =
    let l = c.loop-b in
    let here_next : Filling c.args.dst.now c.args.at (unescaped c.args.src.now) (get_or c.args.src.now l.b-index 0 ∷ unescaped_from false (drop (l.b-index + 1) c.args.src.now)) l.dst l.k =
    rw (sign-off c.args.src.now l.b-index l.behind _ c.loop-b-test.true c.is_sign.ensures c.if-is_sign.false) at l.invariant.1 in
    fill-room _ _ _ l.invariant.0 _ _ _ _ here_next

pub overflow_add-k : goal.overflow_add-k
overflow_add-k c =
    omega (arith, c.loop-b.invariant.0, c.loop-b.invariant.1.low)

pub loop-b-preserved : goal.loop-b-preserved
loop-b-preserved c =
    let l = c.loop-b in
    let here_next : Filling c.args.dst.now c.args.at (unescaped c.args.src.now) (get_or c.args.src.now l.b-index 0 ∷ unescaped_from false (drop (l.b-index + 1) c.args.src.now)) l.dst l.k =
    rw (sign-off c.args.src.now l.b-index l.behind _ c.loop-b-test.true c.is_sign.ensures c.if-is_sign.false) at l.invariant.1 in
    (l.invariant.0, fill_more _ _ _ l.invariant.0 _ _ _ _ here_next)

pub overflow_add-result : goal.overflow_add-result
overflow_add-result c =
    omega (arith, c.loop-b.invariant.0, c.loop-b.invariant.1.low)

pub returns : goal.returns
returns c =
    let l = c.loop-b in
    let f = fill_done _ _ _ l.invariant.0 _ _ (rw (sign-past c.args.src.now l.b-index l.behind (omega arith)) at l.invariant.1) in
    record { value = f.answer; dst_after = f.leaves }
