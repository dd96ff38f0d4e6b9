use native.Mathlib.Omega.{arith}
use Rattle.byte.specs.Byte.{between}
use Rattle.byte.proofs.Tests.{tests}
use Rattle.byte.proofs.is_between.Goals as goal

pub returns-then-lo-c : goal.returns-then-lo-c
unfolding between
returns-then-lo-c c =
    search tests

pub returns-else-lo-c : goal.returns-else-lo-c
unfolding between
returns-else-lo-c c =
    search (tests, arith)
