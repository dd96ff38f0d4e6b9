-- Laws of texts in parts.
-- Assumes nothing.
use Prim.Native.Nat.{ℕ, ◌+◌}
use mathlib.Core.Path.{◌≡◌, refl, sym, ap, ◌∙◌}
use mathlib.Core.List.{List, [], ◌∷◌, ◌++◌, append_assoc, append-nil}
use lib.ListN.{length, length-append}
use Rattle.draw.specs.Parts.{joined}

module _ {A : Type 0} where
  pub joined-none : joined {A = A} [] ≡ []
  unfolding joined
  joined-none = refl

  pub joined-cons : (x : List A) (xs : List (List A)) → joined (x ∷ xs) ≡ x ++ joined xs
  unfolding joined
  joined-cons x xs = refl

  pub joined-one : (x : List A) → joined (x ∷ []) ≡ x
  unfolding joined
  joined-one x = append-nil x

  pub joined-append : (xs ys : List (List A)) → joined (xs ++ ys) ≡ joined xs ++ joined ys
  unfolding joined
  joined-append [] ys = refl
  joined-append (x ∷ xs) ys = ap (λ (l : List A). x ++ l) (joined-append xs ys) ∙ sym (append_assoc x (joined xs) (joined ys))

  -- their lengths add
  pub size-cons : (x : List A) (xs : List (List A)) → length (joined (x ∷ xs)) ≡ length x + length (joined xs)
  unfolding joined
  size-cons x xs = length-append x (joined xs)

  pub size-append : (xs ys : List (List A)) → length (joined (xs ++ ys)) ≡ length (joined xs) + length (joined ys)
  size-append xs ys = ap length (joined-append xs ys) ∙ length-append (joined xs) (joined ys)

pub size_none : length (joined {A = ℕ} []) ≡ 0
unfolding joined
size_none = refl
