-- `dock::nyimbrak_place` meets its contract.
-- Assumes nothing.
use mathlib.Core.Path.{◌∙◌}
use native.Mathlib.Omega.{arith}
use Rattle.answers.proofs.Bounds.{Small, small, within}
use Rattle.answers.proofs.Places.{place-refused, place-told}
use Rattle.dock.proofs.nyimbrak_place.Goals as goal

pub overflow_add-result : goal.overflow_add-result
overflow_add-result c =
    let h : Small _ = small _ _ _ c.read-a.ensures.value in omega arith

pub returns-then-a-ne0 : goal.returns-then-a-ne0
returns-then-a-ne0 c =
    record { value = place-refused _ _ _ c.read-a.ensures.value c.if-a-ne0.true _; decode_after = c.read-a.ensures.decode_after }

pub place_of-requires : goal.place_of-requires
place_of-requires c =
    within _ _ _ c.read-a.ensures.value c.if-a-ne0.false

pub returns : goal.returns
returns c =
    record { value = c.place_of.ensures ∙ place-told _ _ _ c.read-a.ensures.value c.if-a-ne0.false _ _ c.text_of.ensures; decode_after = c.read-a.ensures.decode_after }
