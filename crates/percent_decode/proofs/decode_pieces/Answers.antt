-- `decode_pieces` meets its contract: the decoded bytes one by one, by the laws of filling lent memory. Assumes nothing.
use mathlib.Core.Path.{◌≡◌, sym, ap, subst, ◌∙◌}
use mathlib.Core.List.{List, ◌∷◌}
use Prim.Native.Nat.{ℕ, ◌+◌, ◌<◌}
use native.Mathlib.Omega.{arith}
use borrow.Author.Tests.{leb-true, leb-false}
use lib.ListN.{length}
use Rattle.byte.proofs.Writing.{written-short, after-short}
use Rattle.byte.proofs.Fill.{Filling, fill_start, fill-room, fill_more, fill_done}
use Rattle.percent.specs.Percent.{decoded}
use Rattle.percent.specs.Left.{decoded_left}
use Rattle.percent_decode.proofs.decode_pieces.Goals as goal

pub returns-then-not-has_room : goal.returns-then-not-has_room
returns-then-not-has_room c =
    let a = c.args in
    let here_no_room : length a.dst.now < a.at + length (decoded a.src.now) = leb-false _ _ (sym c.has_room.ensures ∙ c.if-not-has_room.true) in
    record { value = sym (after-short _ a.at _ here_no_room); dst_after = sym (written-short _ a.at _ here_no_room) }

pub loop-one-init : goal.loop-one-init
loop-one-init c =
    let a = c.args in
    let e : decoded a.src.now ≡ decoded_left c.into_iter-one-iterator.result = sym (ap decoded_left c.into_iter-one-iterator.ensures.into_iter_gives ∙ c.decoding-one-items.ensures) in
    (leb-true _ _ (sym c.has_room.ensures ∙ c.if-not-has_room.false), subst (λ (l : List ℕ). Filling a.dst.now a.at (decoded a.src.now) l a.dst.now 0) e (fill_start _ _ _))

pub bounds-dst-at : goal.bounds-dst-at
bounds-dst-at c =
    let l = c.loop-one in
    let here_next : Filling c.args.dst.now c.args.at (decoded c.args.src.now) (c.in-Some.one ∷ decoded_left c.next.new.self) l.dst l.k = rw c.in-Some.ensures.steps at l.invariant.1 in
    fill-room _ _ _ l.invariant.0 _ _ _ _ here_next

pub overflow_add-dst : goal.overflow_add-dst
overflow_add-dst c = omega (arith, c.loop-one.invariant.0, c.loop-one.invariant.1.low)

pub overflow_add-k : goal.overflow_add-k
overflow_add-k c = omega (arith, c.loop-one.invariant.0, c.loop-one.invariant.1.low)

pub loop-one-preserved : goal.loop-one-preserved
loop-one-preserved c =
    let l = c.loop-one in
    let here_next : Filling c.args.dst.now c.args.at (decoded c.args.src.now) (c.in-Some.one ∷ decoded_left c.next.new.self) l.dst l.k = rw c.in-Some.ensures.steps at l.invariant.1 in
    (l.invariant.0, fill_more _ _ _ l.invariant.0 _ _ _ _ here_next)

pub overflow_add-result : goal.overflow_add-result
overflow_add-result c = omega (arith, c.loop-one.invariant.0, c.loop-one.invariant.1.low)

pub returns : goal.returns
returns c =
    let l = c.loop-one in
    let f = fill_done _ _ _ l.invariant.0 _ _ (rw c.in-None.ensures.steps.0 at l.invariant.1) in
    record { value = f.answer; dst_after = f.leaves }
