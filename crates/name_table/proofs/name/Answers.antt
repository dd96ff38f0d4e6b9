use mathlib.Core.Path.{sym}
use Rattle.name_table.proofs.Rows.{nameless}
use borrow.Author.Rules.{rules}
use Rattle.name_table.proofs.name.Goals as goal

pub returns-in_default : goal.returns-in_default
returns-in_default c =
    sym (nameless _ (search rules))
