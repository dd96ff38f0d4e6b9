use mathlib.Core.Path.{refl, sym, ap, ◌∙◌}
use Rattle.lists.proofs.Faults.{fault-numbered}
use Rattle.ending.specs.declared.Ending.{Ending}
use Rattle.outcome.proofs.Answers.{begin-rows}
use Rattle.reader.proofs.Branches.{goes, refuses, end-accepts, end-refuses, no_record, bad-is, fine-is}
use Rattle.reader.proofs.read_settings.Goals as goal

pub loop-t-init : goal.loop-t-init
loop-t-init c =
    (c.requires.1, begin-rows c.args.text.now c.args.decode.now c.requires.0 _ c.prefix_len-prefix.ensures _ refl _ c.requires.2 _ c.start-url.ensures)

pub returns-in-Err-None : goal.returns-in-Err-None
returns-in-Err-None c =
    let f = end-accepts c.args.text.now c.args.decode.now _ _ _ _ _ _ c.loop-t.invariant.1 c.loop-t.invariant.0 _ c.take_setting.ensures.value _ c.take_setting.ensures.decode_after (cc) in
    record { value = c.accept.ensures.value ∙ f.0; decode_after = c.accept.ensures.decode_after ∙ f.1; config_after = λ z. f.2 }

pub returns-in-Err-Some : goal.returns-in-Err-Some
returns-in-Err-Some c =
    let f = end-refuses c.args.text.now c.args.decode.now _ _ _ _ _ _ c.loop-t.invariant.1 c.loop-t.invariant.0 _ c.take_setting.ensures.value _ c.take_setting.ensures.decode_after c.in-Err-Some.refusal (cc) in
    record { value = rw (← f.0, ← c.number.ensures) c.refuse_text.ensures.value; decode_after = c.refuse_text.ensures.decode_after ∙ f.1; config_after = no_record _ f.2 _ (ap (λ (e : Ending). e.number) c.refuse_text.ensures.value ∙ c.number.ensures) }

pub returns-then-is_err : goal.returns-then-is_err
returns-then-is_err c =
    let bad = bad-is c.param-verdict.result (sym c.is_err.ensures.value ∙ c.if-is_err.true) in
    let f = refuses c.args.text.now c.args.decode.now _ _ _ _ _ _ c.loop-t.invariant.1 c.loop-t.invariant.0 _ c.take_setting.ensures.value _ c.take_setting.ensures.decode_after c.in-Ok.t (cc) _ _ c.param-verdict.ensures bad in
    record { value = c.refuse_setting.ensures.value ∙ f.0; decode_after = c.refuse_setting.ensures.decode_after ∙ f.1; config_after = no_record _ (fault-numbered c.param-verdict.result bad) _ (ap (λ (e : Ending). e.number) c.refuse_setting.ensures.value) }

pub loop-t-smaller : goal.loop-t-smaller
loop-t-smaller c =
    (goes c.args.text.now c.args.decode.now _ _ _ _ _ _ c.loop-t.invariant.1 c.loop-t.invariant.0 _ c.take_setting.ensures.value _ c.take_setting.ensures.decode_after c.in-Ok.t (cc) _ _ c.param-verdict.ensures (fine-is c.param-verdict.result (sym c.is_err.ensures.value ∙ c.if-is_err.false))).1

pub loop-t-preserved : goal.loop-t-preserved
loop-t-preserved c =
    (c.loop-t.invariant.0, (goes c.args.text.now c.args.decode.now _ _ _ _ _ _ c.loop-t.invariant.1 c.loop-t.invariant.0 _ c.take_setting.ensures.value _ c.take_setting.ensures.decode_after c.in-Ok.t (cc) _ _ c.param-verdict.ensures (fine-is c.param-verdict.result (sym c.is_err.ensures.value ∙ c.if-is_err.false))).0)
