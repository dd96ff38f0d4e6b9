-- Laws of a text as the code draws it.
-- Assumes nothing.
use Prim.Native.Nat.{ℕ, ◌+◌, ◌*◌, ◌<◌, ◌≤◌}
use mathlib.Core.Path.{◌≡◌, refl, sym, ap, ◌∙◌}
use mathlib.Core.List.{List, [], ◌∷◌, ◌++◌}
use native.Mathlib.Omega.{arith}
use native.Mathlib.Numerals.{add-one}
use lib.ListN.{length, get_or, drop, drop_of_length-le, length-append}
use lib.Seq.{drop-cons}
use Rattle.escape.specs.Escape.{escape, text_value}
use Rattle.escape.proofs.Escape.{escape-most}
use Rattle.draw.specs.Parts.{joined}
use Rattle.draw.specs.Pen.{Sheet, drawn}

-- a text from a place on: a byte more, or its end
module _ (s t : Sheet) (x : List ℕ) (i : ℕ) (so_far : drawn s (text_value x) ≡ drawn t (text_value (drop i x))) where
  pub text-more : i < length x → (u : Sheet) → u ≡ drawn t (escape (get_or x i 0) ∷ []) → drawn s (text_value x) ≡ drawn u (text_value (drop (i + 1) x))
  unfolding text_value drawn
  text-more h u e = so_far ∙ rw (add-one, e, drop-cons x i 0 h)

  pub text-done : length x ≤ i → t ≡ drawn s (text_value x)
  unfolding text_value drawn
  text-done h = sym (so_far ∙ rw (drop_of_length-le x h))

pub text-none : joined (text_value []) ≡ []
unfolding text_value joined
text-none = refl

pub text-cons : (a : ℕ) (x : List ℕ) → joined (text_value (a ∷ x)) ≡ escape a ++ joined (text_value x)
unfolding text_value joined
text-cons a x = refl

pub text-size : (x : List ℕ) → length (joined (text_value x)) ≤ 3 * length x
text-size [] = omega (arith, ap length text-none)
text-size (a ∷ x) = omega (arith, text-size x, escape-most a, ap length (text-cons a x) ∙ length-append (escape a) (joined (text_value x)))
