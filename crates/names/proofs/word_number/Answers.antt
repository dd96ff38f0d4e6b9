use mathlib.Core.Path.{sym}
use Rattle.name_table.specs.Find.{word_number}
use Rattle.name_table.proofs.Among.{number-none}
use Rattle.name_table.proofs.Rows.{wordless}
use borrow.Author.Rules.{rules}
use Rattle.names.proofs.word_number.Goals as goal

pub returns-in_default : goal.returns-in_default
unfolding word_number
returns-in_default c =
    rw (wordless c.args.key (search rules)) (sym (number-none c.args.s.now))
