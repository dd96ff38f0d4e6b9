-- `nyimbrak::write_answer` meets its contract: what is handed on is the whole output.
-- Assumes nothing.
use mathlib.Core.Path.{refl, ◌∙◌}
use Rattle.nyimbrak.proofs.Outputs.{still-long, front}
use Rattle.nyimbrak.proofs.write_answer.Goals as goal

pub slice_bounds-part-end : goal.slice_bounds-part-end
slice_bounds-part-end g c =
    still-long c.args.text.now _ _ c.answer_into-len.ensures.out_after refl

pub write_output-requires : goal.write_output-requires
write_output-requires g c =
    c.part.ensures ∙ front c.args.text.now _ _ c.answer_into-len.ensures.out_after refl _ c.answer_into-len.ensures.value
