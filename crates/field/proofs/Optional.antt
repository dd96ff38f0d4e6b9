-- What may be unset shows nothing, or one value.
-- Assumes nothing.
use Rattle.std.proofs.Common.{◌≡◌, ℕ, List, [], ◌∷◌, refl}
use Rattle.std.specs.Prelude.{Some, None}
use Rattle.field.specs.Field.{optional}

module _ {A : Type 0} (f : A → List (List ℕ)) where
  pub unset-shows : optional f None ≡ []
  unset-shows = refl

  pub set-shows : (x : A) → optional f (Some x) ≡ f x ∷ []
  set-shows x = refl
