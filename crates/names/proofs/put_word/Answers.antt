use mathlib.Core.Path.{ap, ◌∙◌}
use Rattle.byte.specs.Put.{written, after}
use Rattle.names.proofs.put_word.Goals as goal

pub returns : goal.returns
returns c =
    let p = c in
    let s = p in
    let a = s.args in
    record { value = p.put_name.ensures.value ∙ ap (after a.dst.now a.at) s.word_place.ensures; dst_after = p.put_name.ensures.dst_after ∙ ap (written a.dst.now a.at) s.word_place.ensures }
