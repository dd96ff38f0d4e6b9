use mathlib.Core.Path.{sym}
use native.Mathlib.Omega.{arith}
use Rattle.number.proofs.Laws.{unsigned-low}
use Rattle.integer.proofs.read_u16.Goals as goal

pub overflow_cast-result : goal.overflow_cast-result
overflow_cast-result c =
    omega (arith, unsigned-low _ _ _ (sym c.in_ok-n.ensures))
