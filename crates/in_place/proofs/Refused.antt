-- A refused setter changes nothing: stated of what a call in place answers and leaves.
-- Assumes nothing.
use Prim.Native.Nat.{ℕ}
use mathlib.Core.Path.{◌≡◌, ◌∙◌}
use Rattle.config.specs.declared.Config.{Config}
use Rattle.setters.specs.Setter.{Value, set}
use Rattle.setters.proofs.Answers.{refused-same}

-- r is the number that is answered, before and after are the record at entry and at exit
pub refused-leaves : (key : ℕ) (v : Value) (before after : Config) (r : ℕ) → r ≡ (set key v before).number → after ≡ (set key v before).config → (r ≡ 0 → ⊥) → after ≡ before
refused-leaves key v before after r number left h = left ∙ refused-same key v before (λ (e : (set key v before).number ≡ 0). h (number ∙ e))
