use mathlib.Core.Path.{sym, ap, ◌∙◌}
use native.Mathlib.Omega.{arith}
use Rattle.name_table.specs.Names.{word_name}
use Rattle.name_table.proofs.Rows.{no-name-zero}
use Rattle.names.proofs.Runs.{word, no_word}
use Rattle.names.proofs.word_place.Goals.{then-word-eq0-via-then-word-eq0, then-word-eq0-via-else-word-eq0+then-n-word}
use Rattle.names.proofs.word_place.Goals as goal

pub returns-then-word-eq0 : goal.returns-then-word-eq0
unfolding word_name
returns-then-word-eq0 c =
    let h = c.word_run-first.ensures in
    elim c.then-word-eq0.branch [
      | then-word-eq0-via-then-word-eq0 w ↦ no-name-zero ∙ ap (word_name c.args.key) (sym w.if-word-eq0.true)
      | then-word-eq0-via-else-word-eq0+then-n-word w ↦ no_word _ _ _ h.room h.words c.args.word w.if-n-word.true
    ]

pub returns : goal.returns
unfolding word_name
returns c =
    let h = c.word_run-first.ensures in
    word _ _ _ h.room h.words c.args.word (λ e. omega arith) (omega arith)
