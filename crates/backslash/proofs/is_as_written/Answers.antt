-- `is_as_written` meets its contract: by the library's search for a backslash. Assumes nothing.
use mathlib.Core.Path.{ap, ◌∙◌}
use mathlib.Core.Bool.{not}
use Rattle.backslash.proofs.Pieces.{none-written}
use Rattle.backslash.proofs.is_as_written.Goals as goal

pub returns : goal.returns
returns c = ap not c.contains.ensures.value ∙ none-written c.args.raw.now
