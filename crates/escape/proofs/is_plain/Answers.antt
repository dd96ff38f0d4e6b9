use mathlib.Core.Path.{sym, ◌∙◌}
use borrow.Author.Tests.{not-true, not-false}
use Rattle.escape.proofs.Escape.{plain_out, plain_in}
use Rattle.escape.proofs.is_plain.Goals as goal

pub returns-then-not-is_between : goal.returns-then-not-is_between
returns-then-not-is_between c =
    plain_out _ (sym c.is_between.ensures ∙ not-true _ c.if-not-is_between.true-raw)

pub returns : goal.returns
returns c =
    plain_in _ (sym c.is_between.ensures ∙ not-false _ c.if-not-is_between.false-raw)
