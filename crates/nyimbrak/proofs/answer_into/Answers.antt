-- `nyimbrak::answer_into` meets its contract: the entry's report, or the line of its refusal.
-- Assumes nothing.
use mathlib.Core.Path.{refl}
use Rattle.nyimbrak.proofs.Outputs.{report-written, line-into}
use Rattle.nyimbrak.proofs.answer_into.Goals as goal

pub returns-then-r-lt-REFUSED : goal.returns-then-r-lt-REFUSED
returns-then-r-lt-REFUSED c =
    let all_of_it = report-written c.args.text.now _ c.args.out.now _ _ c.nyimbrak_read-r.ensures.value c.nyimbrak_read-r.ensures.report_after refl c.nyimbrak_read-arg-1.given.0.1 c.if-r-lt-REFUSED.true in
    record { value = all_of_it.0; out_after = all_of_it.1 }

pub returns : goal.returns
returns c =
    let all_of_it = line-into c.args.text.now _ c.args.out.now _ _ c.nyimbrak_read-r.ensures.value c.nyimbrak_read-r.ensures.report_after refl c.nyimbrak_read-arg-1.given.0.1 c.if-r-lt-REFUSED.false _ _ c.refusal_into.ensures.value c.refusal_into.ensures.out_after in
    record { value = all_of_it.0; out_after = all_of_it.1 }
