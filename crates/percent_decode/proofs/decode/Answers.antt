-- `decode` meets its contract: bytes are copied up to the first `%`, and what is decoded from there on completes them. Assumes nothing.
use lib.ListN.{length, drop, get_or}
use borrow.Author.Tests.{leb-true}
use native.Mathlib.Omega.{arith}
use Prim.Native.Nat.{ℕ, ◌+◌, ◌≤◌}
use mathlib.Core.List.{List, ◌∷◌}
use mathlib.Core.Path.{◌≡◌, sym, ap, ◌∙◌}
use Rattle.byte.proofs.Fill.{Filling, fill_start, fill-room, fill_more, fill_done}
use Rattle.byte.specs.Put.{written, after}
use Rattle.percent.specs.Percent.{decoded}
use Rattle.percent_decode.proofs.Front.{rest-after, rest-written}
use Rattle.percent.proofs.Laws.{shorter, stop, plain_step, slice-from}
-- in a turn the byte that was read is what comes next
use Rattle.percent_decode.proofs.decode.Goals as goal

pub loop-k-init : goal.loop-k-init
loop-k-init c =
    let a = c.args in
    let wide : a.at + length a.src.now ≤ length a.dst.now = leb-true _ _ (sym c.has_room.ensures ∙ c.if-not-has_room.false) in
    (omega (arith, wide, shorter a.src.now), fill_start _ _ _)

pub overflow_add-at : goal.overflow_add-at
overflow_add-at c =
    omega (arith, c.loop-k.invariant.0, c.loop-k.invariant.1.low)

pub returns-then-b-eq37 : goal.returns-then-b-eq37
returns-then-b-eq37 c =
    let l = c in
    let a = c.args in
    let p = c.decode_pieces-then-b-eq37.ensures in
    let e = slice-from a.src.now l.loop-k.k in
    record { value = p.value ∙ ap (λ (x : List ℕ). after l.loop-k.dst (a.at + l.loop-k.k) (decoded x)) e ∙ rest-after _ _ _ l.loop-k.invariant.0 _ _ _ l.loop-k.invariant.1; dst_after = p.dst_after ∙ ap (λ (x : List ℕ). written l.loop-k.dst (a.at + l.loop-k.k) (decoded x)) e ∙ rest-written _ _ _ l.loop-k.invariant.0 _ _ _ l.loop-k.invariant.1 }

pub overflow_add-dst : goal.overflow_add-dst
overflow_add-dst c =
    omega (arith, c.loop-k.invariant.0, c.loop-k.invariant.1.low)

pub bounds-dst-at : goal.bounds-dst-at
bounds-dst-at c =
    let here_next : Filling c.args.dst.now c.args.at (decoded c.args.src.now) (get_or c.args.src.now c.loop-k.k 0 ∷ decoded (drop (c.loop-k.k + 1) c.args.src.now)) c.loop-k.dst c.loop-k.k = rw (plain_step c.args.src.now c.loop-k.k c.loop-k-test.true c.if-b-eq37.false) at c.loop-k.invariant.1 in
    fill-room _ _ _ c.loop-k.invariant.0 _ _ _ _ here_next

pub loop-k-preserved : goal.loop-k-preserved
loop-k-preserved c =
    let here_next : Filling c.args.dst.now c.args.at (decoded c.args.src.now) (get_or c.args.src.now c.loop-k.k 0 ∷ decoded (drop (c.loop-k.k + 1) c.args.src.now)) c.loop-k.dst c.loop-k.k = rw (plain_step c.args.src.now c.loop-k.k c.loop-k-test.true c.if-b-eq37.false) at c.loop-k.invariant.1 in
    (c.loop-k.invariant.0, fill_more _ _ _ c.loop-k.invariant.0 _ _ _ _ here_next)

pub returns : goal.returns
returns c =
    let l = c.loop-k in
    let s = c.args.src.now in
    let f = fill_done _ _ _ l.invariant.0 _ _ (rw (stop s l.k (omega arith)) at l.invariant.1) in
    let whole : l.k ≡ length s = omega arith in
    record { value = rw whole at f.answer; dst_after = f.leaves }
