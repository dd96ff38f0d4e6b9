use mathlib.Core.Path.{ap, ◌∙◌}
use lib.ListN.{length}
use Rattle.names.proofs.word_len.Goals as goal

pub returns : goal.returns
returns c =
    c.name_len.ensures ∙ ap length c.word_place.ensures
