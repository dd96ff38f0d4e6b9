use Rattle.std.proofs.Common.{arith}
use Rattle.std.proofs.lemmas.Bool.Decides.{nat_tests}
use Rattle.byte.specs.Byte.{between}
use Rattle.taking.specs.Taking.{keeps}
use Rattle.taking.proofs.keeps_value.Goals as goal

pub returns-in-1 : goal.returns-in-1
unfolding keeps between
returns-in-1 c =
    grind (arith, nat_tests)

pub returns-in-2 : goal.returns-in-2
unfolding keeps between
returns-in-2 c =
    grind (arith, nat_tests)

pub returns-in-3 : goal.returns-in-3
unfolding keeps between
returns-in-3 c =
    grind (arith, nat_tests)

pub returns-in-4 : goal.returns-in-4
unfolding keeps between
returns-in-4 c =
    grind (arith, nat_tests)

pub returns-in-5 : goal.returns-in-5
unfolding keeps between
returns-in-5 c =
    grind (arith, nat_tests)

pub returns-in-8 : goal.returns-in-8
unfolding keeps between
returns-in-8 c =
    grind (arith, nat_tests)

pub returns-in-20 : goal.returns-in-20
unfolding keeps between
returns-in-20 c =
    grind (arith, nat_tests)

pub returns-in_default : goal.returns-in_default
unfolding keeps between
returns-in_default c =
    grind (arith, nat_tests)
