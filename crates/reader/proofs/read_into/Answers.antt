use mathlib.Core.Path.{ap, ◌∙◌}
use Rattle.std.proofs.Common.{rules}
use Rattle.outcome.specs.declared.Answer.{Answer}
use Rattle.outcome.specs.Outcome.{ending_of}
use Rattle.outcome.proofs.Answers.{too_long, no_room, not-utf8, answered}
use Rattle.reader.proofs.read_into.Goals as goal

pub returns-then-text-gt4096 : goal.returns-then-text-gt4096
returns-then-text-gt4096 c =
    let f = too_long c.args.text.now c.args.decode.now c.if-text-gt4096.true in
    record { value = c.end.ensures ∙ ap ending_of f.0; decode_after = f.1; config_after = search rules }

pub returns-then-decode-text : goal.returns-then-decode-text
returns-then-decode-text c =
    let f = no_room c.args.text.now c.args.decode.now c.if-text-gt4096.false c.if-decode-text.true in
    record { value = c.end-then-decode-text.ensures ∙ ap ending_of f.0; decode_after = f.1; config_after = search rules }

pub returns-then-not-valid : goal.returns-then-not-valid
returns-then-not-valid c =
    let f = not-utf8 c.args.text.now c.args.decode.now c.if-text-gt4096.false c.if-decode-text.false (search rules) in
    record { value = c.refuse_text.ensures.value ∙ ap ending_of f.0; decode_after = c.refuse_text.ensures.decode_after ∙ f.1; config_after = search rules }

pub returns : goal.returns
returns c =
    let f = answered c.args.text.now c.args.decode.now c.if-text-gt4096.false c.if-decode-text.false (search rules) in
    record { value = c.read_settings.ensures.value ∙ ap ending_of f.0; decode_after = c.read_settings.ensures.decode_after ∙ f.1; config_after = λ z. c.read_settings.ensures.config_after z ∙ ap (λ (x : Answer). x.config) f.0 }
