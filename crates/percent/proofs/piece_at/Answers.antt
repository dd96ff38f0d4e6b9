-- `piece_at` meets its contract: each return is one of the laws of a piece. Assumes nothing.
use mathlib.Core.Path.{◌≡◌, refl, sym, ap, ◌∙◌}
use Prim.Native.Nat.{◌<◌}
use native.Mathlib.Omega.{arith}
use lib.Dec.{eqb}
use lib.ListN.{length, get_or}
use borrow.Author.Tests.{eq-eqb}
use Rattle.byte.proofs.Laws.{past}
use Rattle.percent.proofs.Laws.{itself, other, no-high, no-low, cut_off, coded}
-- a `%` stands at the place, which is so within the text
use Rattle.percent.proofs.piece_at.Goals as goal

pub returns-then-byte-ne37 : goal.returns-then-byte-ne37
returns-then-byte-ne37 c =
    let a = c.args in
    let e = c.at-byte.ensures in
    ap itself e ∙ sym (other a.s.now a.at (λ p. c.if-byte-ne37.true (e ∙ p)))

pub overflow_sub-s : goal.overflow_sub-s
overflow_sub-s c =
    let here_is_percent : get_or c.args.s.now c.args.at 0 ≡ 37 = sym c.at-byte.ensures ∙ c.if-byte-ne37.false in
    let here_inside : c.args.at < length c.args.s.now = past (λ b. eqb b 37) refl c.args.s.now _ (eq-eqb _ 37 here_is_percent) in
    omega (arith, here_inside)

pub returns-then-s-at-lt3 : goal.returns-then-s-at-lt3
returns-then-s-at-lt3 c =
    let here_is_percent : get_or c.args.s.now c.args.at 0 ≡ 37 = sym c.at-byte.ensures ∙ c.if-byte-ne37.false in
    let here_inside : c.args.at < length c.args.s.now = past (λ b. eqb b 37) refl c.args.s.now _ (eq-eqb _ 37 here_is_percent) in
    let o = c in
    let a = o.args in
    ap itself o.at-byte.ensures ∙ sym (cut_off a.s.now a.at here_is_percent (omega (arith, here_inside)))

pub returns-then-high-ge16 : goal.returns-then-high-ge16
returns-then-high-ge16 c =
    let here_is_percent : get_or c.args.s.now c.args.at 0 ≡ 37 = sym c.at-byte.ensures ∙ c.if-byte-ne37.false in
    let o = c in
    let a = o.args in
    ap itself o.at-byte.ensures ∙ sym (no-high a.s.now a.at here_is_percent (omega (arith, c.digit_of-high.ensures)))

pub returns-then-low-ge16 : goal.returns-then-low-ge16
returns-then-low-ge16 c =
    let here_is_percent : get_or c.args.s.now c.args.at 0 ≡ 37 = sym c.at-byte.ensures ∙ c.if-byte-ne37.false in
    let o = c in
    let a = o.args in
    ap itself o.at-byte.ensures ∙ sym (no-low a.s.now a.at here_is_percent (omega (arith, c.digit_of-low.ensures)))

pub returns : goal.returns
returns c =
    let here_is_percent : get_or c.args.s.now c.args.at 0 ≡ 37 = sym c.at-byte.ensures ∙ c.if-byte-ne37.false in
    let t = c in
    let o = t in
    let a = o.args in
    rw (c.digit_of-low.ensures, t.digit_of-high.ensures) (sym (coded a.s.now a.at here_is_percent (omega (arith, t.digit_of-high.ensures)) (omega (arith, c.digit_of-low.ensures))))
