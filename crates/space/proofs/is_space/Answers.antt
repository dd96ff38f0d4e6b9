-- `is_space` meets its contract: the library's test of each range. Assumes nothing.
use mathlib.Core.Path.{◌∙◌}
use mathlib.Core.Bool.{◌&&◌}
use lib.Dec.{leb}
use Rattle.std.proofs.Common.{rules, tests}
use Rattle.std.proofs.lemmas.Iterator.{YieldsList-from_slice}
use Rattle.std.proofs.lemmas.Iterator.Search.{any_from_yields_List}
use Rattle.space.specs.Space.{is_space, spaces}
use Rattle.space.specs.declared.Range.{Range}
use Rattle.space.proofs.Ranges.{within-any}
use Rattle.space.proofs.is_space.Goals as goal

pub returns : goal.returns
unfolding is_space spaces
returns c =
    any_from_yields_List (λ (r : Range). leb r.0 c.args.code && leb c.args.code r.1) _ _ _ c.any.ensures.ran (YieldsList-from_slice _ c.iter.ensures.rest) (λ x b q k. search (rules, tests)) ∙ within-any spaces c.args.code
