use mathlib.Core.Path.{sym}
use Rattle.name_table.proofs.Rows.{wordless}
use borrow.Author.Rules.{rules}
use Rattle.names.proofs.word_run.Goals as goal

pub returns-in_default-clause-words : goal.returns-in_default-clause-words
returns-in_default-clause-words c =
    sym (wordless _ (search rules))
