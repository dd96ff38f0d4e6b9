-- `check_from` meets its contract: pieces that are ASCII are counted, and the first that is not hands over to `check_bytes`. Assumes nothing.
use mathlib.Core.Path.{◌≡◌, refl, sym, ap, ◌∙◌}
use Prim.Native.Nat.{◌+◌, ◌≤◌, ◌<◌}
use lib.ListN.{drop, length-drop}
use native.Mathlib.Omega.{arith}
use Rattle.percent.specs.declared.Piece.{Piece}
use Rattle.percent.specs.Percent.{piece_at}
use Rattle.percent_check.specs.Plain.{checked}
use Rattle.percent_check.specs.declared.Checked.{Checked}
use Rattle.percent_check.proofs.Runs.{on-more, on-end}
use Rattle.percent.proofs.Laws.{small, shorter, slice-from}
-- what is left is the text from this place on
use Rattle.percent_check.proofs.check_from.Goals as goal

pub loop-i-init : goal.loop-i-init
loop-i-init c =
    (refl, omega arith)

pub overflow_add-n : goal.overflow_add-n
overflow_add-n c =
    let here_rest : c.check_bytes-rest.result ≡ checked (drop c.loop-i.i c.args.s.now) = c.check_bytes-rest.ensures ∙ ap checked (slice-from c.args.s.now c.loop-i.i) in
    let l = c in
    let s = c.args.s.now in
    omega (arith, ap (λ (x : Checked). x.len) here_rest, shorter (drop l.loop-i.i s), length-drop l.loop-i.i s, l.loop-i.invariant.1)

pub returns-then-p-ge128 : goal.returns-then-p-ge128
returns-then-p-ge128 c =
    let here_rest : c.check_bytes-rest.result ≡ checked (drop c.loop-i.i c.args.s.now) = c.check_bytes-rest.ensures ∙ ap checked (slice-from c.args.s.now c.loop-i.i) in
    let l = c in
    ap (λ (x : Checked). record { len = l.loop-i.len + x.len; utf8 = x.utf8 }) here_rest ∙ sym l.loop-i.invariant.0

pub overflow_add-len : goal.overflow_add-len
overflow_add-len c =
    omega (arith, c.loop-i.invariant.1)

pub overflow_add-i-in-loop-i : goal.overflow_add-i-in-loop-i
overflow_add-i-in-loop-i c =
    let here_skips : c.piece_at-p.result.skip ≤ 2 = rw c.piece_at-p.ensures (small _ _) in
    omega (arith, here_skips)

pub loop-i-preserved : goal.loop-i-preserved
loop-i-preserved c =
    let l = c in
    let s = l.args.s.now in
    let b : (piece_at s l.loop-i.i).byte < 128 = omega (arith, ap (λ (p : Piece). p.byte) c.piece_at-p.ensures, c.if-p-ge128.false) in
    (l.loop-i.invariant.0 ∙ rw c.piece_at-p.ensures (on-more l.loop-i.len s l.loop-i.i c.loop-i-test.true b), omega (arith, l.loop-i.invariant.1))

pub returns : goal.returns
returns c =
    on-end _ _ _ c.loop-i-test.false ∙ sym c.loop-i.invariant.0
