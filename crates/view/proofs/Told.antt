-- Laws of what a reading tells, setting by setting.
-- Assumes nothing.
use Prim.Native.Nat.{ℕ, ◌+◌}
use mathlib.Core.Path.{◌≡◌, refl}
use mathlib.Core.Bool.{true, false}
use mathlib.Core.List.{List, [], ◌∷◌}
use Rattle.lists.specs.Fault.{is_fine, number_of, key_of}
use Rattle.config.specs.Values.{Values}
use Rattle.setting.specs.Setting.{Setting, kind_of, value_of}
use Rattle.view.specs.Given.{refused, given, tell_end, tell_refusal, told}

module _ (w : Values) (n end : ℕ) where
  pub told-end : told w n [] end ≡ tell_end w n end
  unfolding told
  told-end = refl

  module _ (s : Setting) (ss : List Setting) where
    pub told-on : is_fine (refused (kind_of s) (value_of s) w) ≡ true → told w n (s ∷ ss) end ≡ told (given (kind_of s) (value_of s) w) (n + 1) ss end
    unfolding told
    told-on e = rw e

    pub told-off : is_fine (refused (kind_of s) (value_of s) w) ≡ false
        → told w n (s ∷ ss) end ≡ tell_refusal (number_of (refused (kind_of s) (value_of s) w)) (key_of (refused (kind_of s) (value_of s) w) (kind_of s)) n
    unfolding told
    told-off e = rw e
