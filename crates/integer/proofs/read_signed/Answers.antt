use mathlib.Core.Path.{sym}
use Prim.Native.Nat.{◌^◌, ◌<◌}
use native.Mathlib.Omega.{arith}
use mir.Syntax.{w64}
use mir.ValLaws.{to_z_pos, to_z-of_z}
use Rattle.std.proofs.lemmas.Result.{err_from_is_err_and}
use Rattle.number.proofs.Laws.{digits-told, unsigned-low}
use Rattle.integer.specs.Integer.{signed_of}
use Rattle.byte.proofs.Tests.{tests}
use Rattle.integer.proofs.read_signed.Goals as goal

pub returns-in_err-n : goal.returns-in_err-n
unfolding signed_of
returns-in_err-n c =
    let p = err_from_is_err_and c.from_residual.result c.from_residual.ensures.1 in rw (p.1, p.2) (simp (tests, ← c.at.ensures, c.if-at-eq45.true, ← c.in_err-n.ensures))

pub minus-requires : goal.minus-requires
minus-requires c =
    omega (arith, (digits-told _ _ _ _ (sym c.in_ok-n.ensures)).low)

pub returns-in_err-n-2 : goal.returns-in_err-n-2
unfolding signed_of
returns-in_err-n-2 c =
    let p = err_from_is_err_and c.from_residual-in_err-n-2.result c.from_residual-in_err-n-2.ensures.1 in rw (p.1, p.2) (simp (tests, ← c.at.ensures, c.if-at-eq45.false, ← c.in_err-n-2.ensures))

pub overflow_cast-result : goal.overflow_cast-result
overflow_cast-result c =
    let here_small : c.in_ok-n-2.n < 2 ^ 63 = omega (arith, unsigned-low _ _ _ (sym c.in_ok-n-2.ensures)) in
    record { sfits = here_small }

pub returns-in_ok-n : goal.returns-in_ok-n
unfolding signed_of
returns-in_ok-n c =
    rw (to_z-of_z w64 c.minus.result (record { sfits = c.minus.type_inv }), c.minus.ensures) (simp (tests, ← c.at.ensures, c.if-at-eq45.true, ← c.in_ok-n.ensures))

pub returns-in_ok-n-2 : goal.returns-in_ok-n-2
unfolding signed_of
returns-in_ok-n-2 c =
    let here_small : c.in_ok-n-2.n < 2 ^ 63 = omega (arith, unsigned-low _ _ _ (sym c.in_ok-n-2.ensures)) in
    rw (to_z_pos w64 c.in_ok-n-2.n here_small) (simp (tests, ← c.at.ensures, c.if-at-eq45.false, ← c.in_ok-n-2.ensures))
