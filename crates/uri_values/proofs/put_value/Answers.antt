-- `uri_values::put_value` meets its contract: the fixed port, or the decoded part of the text.
-- Assumes nothing.
use mathlib.Core.Path.{sym, ap, ◌∙◌}
use Rattle.byte.specs.Put.{written, after}
use Rattle.percent.specs.Percent.{decoded}
use Rattle.url_parser.proofs.Branches.{value-fixed, value-part}
use Rattle.uri_values.proofs.put_value.Goals as goal

pub returns-then-f : goal.returns-then-f
returns-then-f c =
    let a = c.args in
    let e = sym (value-fixed a.s.now a.f c.if-f.true) in
    record { value = c.copy.ensures.value ∙ ap (after a.dst.now a.at) e; dst_after = c.copy.ensures.dst_after ∙ ap (written a.dst.now a.at) e }

pub returns : goal.returns
returns c =
    let a = c.args in
    let e = ap decoded c.part.ensures ∙ sym (value-part a.s.now a.f c.if-f.false) in
    record { value = c.decode.ensures.value ∙ ap (after a.dst.now a.at) e; dst_after = c.decode.ensures.dst_after ∙ ap (written a.dst.now a.at) e }
