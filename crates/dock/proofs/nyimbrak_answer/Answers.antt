-- `dock::nyimbrak_answer` meets its contract: the parts of an answer are small enough for one number.
-- Assumes nothing.
use Prim.Native.Nat.{◌+◌, ◌*◌, ◌^◌}
use mathlib.Core.Path.{ap}
use native.Mathlib.Omega.{arith}
use Rattle.ending.specs.declared.Ending.{Ending}
use Rattle.answers.specs.Answers.{in_one}
use Rattle.answers.proofs.Bounds.{SmallEnding, small-ending}
use Rattle.dock.proofs.nyimbrak_answer.Goals as goal

pub overflow_mul-result : goal.overflow_mul-result
overflow_mul-result c =
    let h : SmallEnding _ = small-ending _ _ _ c.judge-a.ensures.value in omega arith

pub overflow_add-result : goal.overflow_add-result
overflow_add-result c =
    let h : SmallEnding _ = small-ending _ _ _ c.judge-a.ensures.value in omega arith

pub overflow_mul-result-2 : goal.overflow_mul-result-2
overflow_mul-result-2 c =
    let h : SmallEnding _ = small-ending _ _ _ c.judge-a.ensures.value in omega arith

pub overflow_add-result-2 : goal.overflow_add-result-2
overflow_add-result-2 c =
    let h : SmallEnding _ = small-ending _ _ _ c.judge-a.ensures.value in omega arith

pub returns : goal.returns
unfolding in_one
returns c =
    record { value = ap (λ (e : Ending). e.number + 2 ^ 8 * e.key + 2 ^ 16 * e.count) c.judge-a.ensures.value; decode_after = c.judge-a.ensures.decode_after }
