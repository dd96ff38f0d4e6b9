-- Lines of refusals, by computation.
-- Assumes nothing.
use mathlib.Core.Path.{◌≡◌, refl}
use mathlib.Core.List.{[], ◌∷◌, ◌++◌}
use Rattle.byte.specs.Ascii.{bytes}
use Rattle.decimal.specs.Decimal.{decimal_by, decimal}
use Rattle.refusal_line.specs.Refusal.{refusal_line}

pub examples : (refusal_line 1 ≡ bytes "refused 1" ++ (10 ∷ [])) × (refusal_line 15 ≡ bytes "refused 15" ++ (10 ∷ []))
unfolding refusal_line decimal decimal_by
examples = (refl, refl)
