use mathlib.Core.Path.{◌≡◌}
use native.Mathlib.Omega.{arith}
use Rattle.group_text.proofs.Form.{group-most}
use borrow.Author.Tests.{le-leb}
use Rattle.std.specs.Prelude.{Some}
use Rattle.group_text.specs.Text.{group_of}
use Rattle.group_text.proofs.read_group.Goals as goal

pub overflow_cast-result : goal.overflow_cast-result
unfolding group_of
overflow_cast-result c =
    let read : group_of c.args.s.now ≡ Some c.in_ok-n.n = rw (le-leb _ _ c.if-s-gt4.false, ← c.read_digits.ensures, ← c.in_ok-n.ensures.value) in
    omega (arith, group-most c.args.s.now c.in_ok-n.n read)
