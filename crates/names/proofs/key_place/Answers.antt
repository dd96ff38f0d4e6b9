use mathlib.Core.Path.{sym, ◌∙◌}
use Rattle.name_table.proofs.Rows.{key, no_key, no-name-zero}
use Rattle.names.proofs.key_place.Goals as goal

pub returns-then-key-ge20 : goal.returns-then-key-ge20
returns-then-key-ge20 c =
    no-name-zero ∙ sym (no_key c.args.key c.if-key-ge20.true)

pub returns-else-key-ge20 : goal.returns-else-key-ge20
returns-else-key-ge20 c =
    key c.args.key c.if-key-ge20.false
