use mathlib.Core.Path.{ap, ◌∙◌}
use lib.ListN.{length}
use Rattle.names.proofs.key_len.Goals as goal

pub returns : goal.returns
returns c =
    c.name_len.ensures ∙ ap length c.key_place.ensures
