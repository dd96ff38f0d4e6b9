-- `uri_chunks::host_place` meets its contract: each way through the code is a case of the definition.
-- Assumes nothing.
use mathlib.Core.Path.{sym, ◌∙◌}
use Rattle.url_parser.proofs.Branches.{place-plain, place-open, place-closed, place-followed}
use Rattle.uri_chunks.proofs.host_place.Goals as goal

pub returns-then-at-ne91 : goal.returns-then-at-ne91
returns-then-at-ne91 c =
    place-plain _ (λ e. c.if-at-ne91.true (c.at.ensures ∙ e)) _ c.find-colon.ensures

pub returns-then-c-close : goal.returns-then-c-close
returns-then-c-close c =
    let p = c in
    place-open _ (sym p.at.ensures ∙ p.if-at-ne91.false) _ p.find-close.ensures c.if-c-close.true

pub returns-then-closes_at : goal.returns-then-closes_at
returns-then-closes_at c =
    let p = c in
    place-closed _ (sym p.at.ensures ∙ p.if-at-ne91.false) _ p.find-close.ensures c.if-c-close.false (sym c.closes_at.ensures ∙ c.if-closes_at.true)

pub returns : goal.returns
returns c =
    let p = c in
    place-followed _ (sym p.at.ensures ∙ p.if-at-ne91.false) _ p.find-close.ensures c.if-c-close.false (sym c.closes_at.ensures ∙ c.if-closes_at.false)
