use mathlib.Core.Path.{refl}
use Rattle.config.specs.Config.{defaults}
use Rattle.config.proofs.Config.new.Goals as goal

pub returns : goal.returns
unfolding defaults
returns c =
    refl
