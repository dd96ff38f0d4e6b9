use Rattle.std.proofs.Common.{rules, sym, ◌∙◌}
use Rattle.taking.specs.Taking.{taken_of, taken_leaves}
use Rattle.taking.proofs.take_setting.Goals as goal

pub returns-in_err-f : goal.returns-in_err-f
unfolding taken_of taken_leaves
returns-in_err-f c =
    let step = sym c.next_setting.ensures ∙ c.in_err-f.was in
    record { value = rw step (search rules); decode_after = rw step }

pub returns : goal.returns
unfolding taken_of taken_leaves
returns c =
    let step = sym c.next_setting.ensures ∙ c.in_ok-f.was in
    record { value = rw (step, c.packed_after.ensures, c.put_value-end.ensures.value); decode_after = rw step c.put_value-end.ensures.decode_after }
