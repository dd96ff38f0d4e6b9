-- `valid` meets its contract: a text of ASCII alone, or else characters one by one, those of ASCII passed over; what comes behind decides. Assumes nothing.
use mathlib.Core.Path.{◌≡◌, sym, ◌∙◌}
use Prim.Native.Nat.{◌≤◌, ◌+◌}
use native.Mathlib.Omega.{arith}
use lib.ListN.{length, drop}
use Rattle.utf8.specs.Utf8.{char_at}
use Rattle.utf8.proofs.Laws.{end, bad, good, inside-at}
-- the character's length, as the definition has it, and that it lies within the text
use Rattle.utf8_valid.proofs.valid.Goals as goal

pub returns-then-greatest_in-lt128 : goal.returns-then-greatest_in-lt128
returns-then-greatest_in-lt128 c =
    sym (c.greatest_in.ensures c.if-greatest_in-lt128.true)

pub loop-at-init : goal.loop-at-init
loop-at-init c =
    (omega (arith, c.skip_ascii-at.ensures.1), c.skip_ascii-at.ensures.2)

pub returns-then-n-eq0 : goal.returns-then-n-eq0
returns-then-n-eq0 c =
    let l = c in
    sym (l.loop-at.invariant.1 ∙ bad l.args.s.now l.loop-at.at (omega arith) (sym c.char_len-n.ensures ∙ c.if-n-eq0.true))

pub overflow_add-at : goal.overflow_add-at
overflow_add-at c =
    let here_len_is : (char_at (drop c.loop-at.at c.args.s.now)).len ≡ c.char_len-n.result = sym c.char_len-n.ensures in
    let here_within : c.loop-at.at + c.char_len-n.result ≤ length c.args.s.now = let l = c in
    omega (arith, here_len_is, inside-at l.args.s.now l.loop-at.at l.loop-at.invariant.0) in
    omega (arith, here_within)

pub loop-at-smaller : goal.loop-at-smaller
loop-at-smaller c =
    let here_len_is : (char_at (drop c.loop-at.at c.args.s.now)).len ≡ c.char_len-n.result = sym c.char_len-n.ensures in
    let here_within : c.loop-at.at + c.char_len-n.result ≤ length c.args.s.now = let l = c in
    omega (arith, here_len_is, inside-at l.args.s.now l.loop-at.at l.loop-at.invariant.0) in
    omega (arith, here_within, c.if-n-eq0.false, c.skip_ascii-at-in-loop-at.ensures.0)

pub loop-at-preserved : goal.loop-at-preserved
loop-at-preserved c =
    let here_len_is : (char_at (drop c.loop-at.at c.args.s.now)).len ≡ c.char_len-n.result = sym c.char_len-n.ensures in
    let here_within : c.loop-at.at + c.char_len-n.result ≤ length c.args.s.now = let l = c in
    omega (arith, here_len_is, inside-at l.args.s.now l.loop-at.at l.loop-at.invariant.0) in
    let e = c in
    let l = e in (
      omega (arith, here_within, c.skip_ascii-at-in-loop-at.ensures.0, c.skip_ascii-at-in-loop-at.ensures.1),
      l.loop-at.invariant.1 ∙ good l.args.s.now l.loop-at.at (omega arith) e.char_len-n.result here_len_is (omega (arith, e.if-n-eq0.false)) ∙ c.skip_ascii-at-in-loop-at.ensures.2,
    )

pub returns : goal.returns
returns c =
    sym (c.loop-at.invariant.1 ∙ end c.args.s.now c.loop-at.at c.loop-at-test.false)
