use Rattle.std.proofs.Common.{arith, sym, ap, ◌∙◌}
use Rattle.probe_record.specs.declared.Settled.{Settled}
use Rattle.probe_record.specs.Settled.{reached_of}
use Rattle.probe_record.proofs.Laws.{done, far, refuses, goes_next, bad-is, fine-is}
use Rattle.probe_record.proofs.settle_into.Goals as goal

pub returns-then-at-gt65536 : goal.returns-then-at-gt65536
returns-then-at-gt65536 c =
    let l = c.loop.invariant ∙ far _ _ _ _ c.if-at-gt65536.true in
    record { value = c.reach.ensures ∙ sym (ap reached_of l); config_after = λ z. sym (ap (λ (x : Settled). x.config) l) }

pub returns-then-is_err-clause-value : goal.returns-then-is_err-clause-value
returns-then-is_err-clause-value c =
    let bad = bad-is c.param-verdict.result (sym c.is_err.ensures.value ∙ c.if-is_err.true) in
    let l = c.loop.invariant ∙ refuses _ _ _ _ (omega (arith, c.loop-test.true)) c.if-at-gt65536.false _ c.given_at-g.ensures _ _ c.param-verdict.ensures bad in
    c.refuse_at.ensures ∙ sym (ap reached_of l)

pub loop-preserved : goal.loop-preserved
loop-preserved c =
    let fine = fine-is c.param-verdict.result (sym c.is_err.ensures.value ∙ c.if-is_err.false) in
    c.loop.invariant ∙ goes_next c.args.n c.loop.counter c.args.list.now _ _ c.loop-test.true c.if-at-gt65536.false _ c.given_at-g.ensures _ _ c.param-verdict.ensures fine

pub returns : goal.returns
returns c =
    let l = c.loop.invariant ∙ done _ _ _ _ (omega arith) in
    record { value = c.reach-2.ensures ∙ sym (ap reached_of l); config_after = λ z. sym (ap (λ (x : Settled). x.config) l) }
