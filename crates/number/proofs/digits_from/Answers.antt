use mathlib.Core.Path.{sym, ap, ◌∙◌}
use Rattle.std.specs.Prelude.{Err}
use mathlib.Core.List.{◌∷◌}
use Prim.Native.Nat.{◌+◌, ◌*◌, ◌≤◌}
use native.Mathlib.Omega.{arith}
use native.Mathlib.Numerals.{add-one}
use borrow.Author.Tests.{leb-true, leb-false, not-true, not-false}
use lib.ListN.{length, drop, get_or, length-drop, drop_of_length-le}
use lib.Seq.{drop-cons}
use Rattle.number.proofs.Reading.{Reading, nothing, start, no_digit, over, more, done}
-- in a turn: the byte read, and what follows it
-- the number with the digit behind it is within the range
use Rattle.number.proofs.digits_from.Goals as goal

pub returns-then-s-from : goal.returns-then-s-from
returns-then-s-from c =
    let a = c.args in
    let h : length a.s.now ≤ a.from = omega arith in
    sym (rw (drop_of_length-le a.s.now h) (nothing a.base a.max))

pub loop-i-init : goal.loop-i-init
loop-i-init c =
    start _ _ _ (simp length-drop (omega arith))

pub returns-then-base-d : goal.returns-then-base-d
returns-then-base-d c =
    let here_turn : Reading c.args.base c.args.max (drop c.args.from c.args.s.now) c.loop-i.v (get_or c.args.s.now c.loop-i.i 0 ∷ drop (c.loop-i.i + 1) c.args.s.now) = rw (add-one, ← (drop-cons c.args.s.now c.loop-i.i 0 c.loop-i-test.true)) c.loop-i.invariant in
    let d = c in
    let h : d.args.base ≤ d.digit_of-d.result = omega arith in
    sym (no_digit _ _ _ _ _ _ _ here_turn d.digit_of-d.ensures h)

pub returns-then-not-stays : goal.returns-then-not-stays
returns-then-not-stays c =
    let here_turn : Reading c.args.base c.args.max (drop c.args.from c.args.s.now) c.loop-i.v (get_or c.args.s.now c.loop-i.i 0 ∷ drop (c.loop-i.i + 1) c.args.s.now) = rw (add-one, ← (drop-cons c.args.s.now c.loop-i.i 0 c.loop-i-test.true)) c.loop-i.invariant in
    let t = c in
    let d = t in
    ap Err c.beyond.ensures ∙ sym (over _ _ _ _ _ _ _ here_turn d.digit_of-d.ensures t.if-base-d.false (leb-false _ _ (sym t.stays.ensures ∙ not-true _ t.if-not-stays.true-raw)))

pub overflow_mul-v : goal.overflow_mul-v
overflow_mul-v c =
    let here_within : c.loop-i.v * c.args.base + c.digit_of-d.result ≤ c.args.max = leb-true _ _ (sym c.stays.ensures ∙ not-false _ c.if-not-stays.false-raw) in
    omega (arith, here_within)

pub overflow_add-v : goal.overflow_add-v
overflow_add-v c =
    let here_within : c.loop-i.v * c.args.base + c.digit_of-d.result ≤ c.args.max = leb-true _ _ (sym c.stays.ensures ∙ not-false _ c.if-not-stays.false-raw) in
    omega (arith, here_within)

pub loop-i-preserved : goal.loop-i-preserved
loop-i-preserved c =
    let here_within : c.loop-i.v * c.args.base + c.digit_of-d.result ≤ c.args.max = leb-true _ _ (sym c.stays.ensures ∙ not-false _ c.if-not-stays.false-raw) in
    let here_turn : Reading c.args.base c.args.max (drop c.args.from c.args.s.now) c.loop-i.v (get_or c.args.s.now c.loop-i.i 0 ∷ drop (c.loop-i.i + 1) c.args.s.now) = rw (add-one, ← (drop-cons c.args.s.now c.loop-i.i 0 c.loop-i-test.true)) c.loop-i.invariant in
    let d = c in
    more _ _ _ _ _ _ _ here_turn d.digit_of-d.ensures c.if-base-d.false here_within

pub returns : goal.returns
returns c =
    let s = c in sym (done _ _ _ _ (rw (drop_of_length-le s.args.s.now c.loop-i-test.false) at s.loop-i.invariant))
