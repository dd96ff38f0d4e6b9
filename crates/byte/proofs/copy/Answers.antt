use mathlib.Core.Path.{refl, sym, ◌∙◌}
use Prim.Native.Nat.{◌+◌, ◌<◌}
use native.Mathlib.Omega.{arith}
use borrow.Author.Tests.{leb-true, leb-false}
use lib.ListN.{length}
use Rattle.byte.proofs.Writing.{written-short, after-short, after-room}
use Rattle.byte.proofs.Fill.{fill_start, fill-length, fill-at, fill_end}
use Rattle.byte.proofs.copy.Goals as goal

pub returns-then-not-has_room : goal.returns-then-not-has_room
returns-then-not-has_room c =
    let a = c.args in
    let here_no_room : length a.dst.now < a.at + length a.src.now = leb-false _ _ (sym c.has_room.ensures ∙ c.if-not-has_room.true) in
    record { value = sym (after-short _ a.at _ here_no_room); dst_after = sym (written-short _ a.at _ here_no_room) }

pub loop-k-init : goal.loop-k-init
loop-k-init c =
    (leb-true _ _ (sym c.has_room.ensures ∙ c.if-not-has_room.false), fill_start _ _ _)

pub bounds-dst-at : goal.bounds-dst-at
bounds-dst-at c =
    omega (arith, fill-length _ _ _ c.loop-k.invariant.0 _ _ _ c.loop-k.invariant.1)

pub loop-k-preserved : goal.loop-k-preserved
loop-k-preserved c =
    (c.loop-k.invariant.0, fill-at _ _ _ c.loop-k.invariant.0 _ _ _ c.loop-k-test.true refl c.loop-k.invariant.1)

pub returns : goal.returns
returns c =
    let f = fill_end _ _ _ c.loop-k.invariant.0 _ _ (omega arith) c.loop-k.invariant.1 in
    record { value = sym (after-room _ c.args.at _ c.loop-k.invariant.0); dst_after = f.leaves }
