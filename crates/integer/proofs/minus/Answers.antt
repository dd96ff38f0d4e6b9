use mathlib.Core.Path.{◌∙◌}
use Prim.Native.Nat.{◌<◌, ◌^◌}
use native.Mathlib.Omega.{arith}
use mir.Syntax.{w64}
use mir.ValLaws.{to_z_pos, to_z-of_z}
use Rattle.integer.proofs.Negative.{zero-less, negative_fits}
-- past the test, the number is one that an i64 holds
use Rattle.integer.proofs.minus.Goals as goal

pub returns-then-n-eq9223372036854775808 : goal.returns-then-n-eq9223372036854775808
returns-then-n-eq9223372036854775808 c =
    rw c.if-n-eq9223372036854775808.true

pub overflow_sub-result : goal.overflow_sub-result
overflow_sub-result c =
    let here_small : c.args.n < 2 ^ 63 = omega (arith, c.if-n-eq9223372036854775808.false, c.requires) in
    let n = c.args.n in rw (to_z_pos w64 n here_small, zero-less n) (record { sfits = negative_fits n here_small })

pub returns : goal.returns
returns c =
    let here_small : c.args.n < 2 ^ 63 = omega (arith, c.if-n-eq9223372036854775808.false, c.requires) in
    let n = c.args.n in to_z-of_z w64 _ (overflow_sub-result c) ∙ rw (to_z_pos w64 n here_small) (zero-less n)
