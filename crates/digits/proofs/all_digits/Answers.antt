use mathlib.Core.Path.{sym, ap, ◌∙◌}
use lib.Dec.{ltb}
use Rattle.std.proofs.Common.{rules, tests}
use Rattle.std.proofs.lemmas.Iterator.{YieldsList-from_slice}
use Rattle.std.proofs.lemmas.Iterator.Search.{all_from_yields_List}
use Rattle.std.specs.List.{list_all}
use Rattle.byte.specs.Digit.{digit_of}
use Rattle.byte.proofs.Scan.{slice_from}
use Rattle.digits.proofs.Digits.{digits-end, digits-all}
use Rattle.digits.proofs.all_digits.Goals as goal

pub returns-then-s-from : goal.returns-then-s-from
returns-then-s-from c = sym (digits-end c.args.base c.args.s.now c.args.from c.if-s-from.true)

pub returns : goal.returns
returns c =
    all_from_yields_List (λ a. ltb (digit_of a) c.args.base) _ _ _ c.all.ensures.ran (YieldsList-from_slice _ c.iter.ensures.rest) (λ x b q k. search (rules, tests))
    ∙ ap (list_all (λ a. ltb (digit_of a) c.args.base)) (slice_from c.args.s.now c.args.from) ∙ digits-all c.args.base _
