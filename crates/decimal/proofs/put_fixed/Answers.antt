use mathlib.Core.Path.{◌≡◌, sym, ◌∙◌}
use Prim.Native.Nat.{suc, ◌+◌, ◌-◌, ◌<◌}
use native.Mathlib.Nat.{mod-lt, sub-zero}
use native.Mathlib.Omega.{arith}
use borrow.Author.Tests.{leb-true, leb-false}
use lib.ListN.{length}
use Rattle.byte.proofs.Writing.{written-short, after-short}
use Rattle.decimal.specs.Decimal.{fixed_digits}
use Rattle.decimal.proofs.Fixed.{fixed-length}
use Rattle.decimal.proofs.Backward.{backward-start, backward-length, backward-more, backward-end}
use Rattle.decimal.proofs.put_fixed.Goals as goal

pub returns-then-not-has_room : goal.returns-then-not-has_room
returns-then-not-has_room c =
    let a = c.args in
    let here_no_room : length a.dst.now < a.at + length (fixed_digits a.base a.upper a.width a.n) =
    omega (arith, fixed-length a.base a.upper a.width a.n, leb-false (a.at + a.width) (length a.dst.now) (sym c.has_room.ensures ∙ c.if-not-has_room.true)) in
    record { value = sym (after-short _ a.at _ here_no_room); dst_after = sym (written-short _ a.at _ here_no_room) }

pub loop-done-init : goal.loop-done-init
loop-done-init c =
    (leb-true _ _ (sym c.has_room.ensures ∙ c.if-not-has_room.false), rw (sub-zero c.args.width) (backward-start _ _ _ _ _ _))

pub overflow_cast-m : goal.overflow_cast-m
overflow_cast-m c = omega (arith, mod-lt c.loop-done.m c.requires.0, c.requires.1)

pub digit_byte-requires : goal.digit_byte-requires
digit_byte-requires c = omega (arith, mod-lt c.loop-done.m c.requires.0, c.requires.1)

pub bounds-dst-at : goal.bounds-dst-at
bounds-dst-at c =
    omega (arith, c.loop-done.invariant.0, c.loop-done-test.true, backward-length _ _ _ _ _ _ c.loop-done.invariant.0 _ _ _ c.loop-done.invariant.1)

pub loop-done-preserved : goal.loop-done-preserved
loop-done-preserved c =
    let l = c.loop-done in
    let w = c.args.width in
    let e : w - l.done ≡ suc (w - 1 - l.done) = omega (arith, c.loop-done-test.true) in
    let f : w - (l.done + 1) ≡ w - 1 - l.done = omega arith in
    (l.invariant.0, rw f (backward-more _ _ _ _ _ _ l.invariant.0 _ _ (w - l.done) (w - 1 - l.done) _ e c.digit_byte.ensures l.invariant.1))

pub returns : goal.returns
returns c =
    let l = c.loop-done in
    let z : c.args.width - l.done ≡ 0 = omega (arith, c.loop-done-test.false) in
    let all_of_it = backward-end _ _ _ _ _ _ l.invariant.0 _ _ (rw z at l.invariant.1) in
    record { value = all_of_it.0; dst_after = all_of_it.1 }
