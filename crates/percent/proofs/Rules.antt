-- The document's sentence as four equations, which together say what any text decodes to.
-- Assumes nothing.
use mathlib.Core.Path.{◌≡◌, refl, ap}
use mathlib.Core.Bool.{Bool, true, false, ◌&&◌}
use mathlib.Core.List.{List, [], ◌∷◌}
use Prim.Native.Nat.{ℕ, ◌+◌, ◌*◌}
use lib.ListN.{get_or}
use borrow.Author.Tests.{ltb-true, ltb-false}
use Rattle.byte.specs.Digit.{digit_of}
use Rattle.percent.specs.declared.Piece.{Piece}
use Rattle.percent.specs.Percent.{is_hex, piece_at, decoded_from, decoded}
use Rattle.percent.proofs.Laws.{itself, other, no-high, no-low, coded}

begins-with : (a : ℕ) (s : List ℕ) (p : Piece) → piece_at (a ∷ s) 0 ≡ p → decoded (a ∷ s) ≡ p.byte ∷ decoded_from p.skip s
unfolding decoded decoded_from
begins-with a s p e = ap (λ (q : Piece). q.byte ∷ decoded_from q.skip s) e

pub nothing : decoded [] ≡ []
unfolding decoded decoded_from
nothing = refl

-- "`%` and two hex digits of either case give a byte;
pub gives-byte : (h l : ℕ) (s : List ℕ) → is_hex h ≡ true → is_hex l ≡ true → decoded (37 ∷ h ∷ l ∷ s) ≡ (digit_of h * 16 + digit_of l) ∷ decoded s
unfolding decoded decoded_from
gives-byte h l s a b = begins-with 37 (h ∷ l ∷ s) _ (coded (37 ∷ h ∷ l ∷ s) 0 refl (ltb-true (digit_of h) 16 a) (ltb-true (digit_of l) 16 b))

-- any other `%` stays",
pub percent-stays : (s : List ℕ) → is_hex (get_or s 0 0) && is_hex (get_or s 1 0) ≡ false → decoded (37 ∷ s) ≡ 37 ∷ decoded s
unfolding decoded
percent-stays s e = begins-with 37 s (itself 37) (by (is_hex (get_or s 0 0)) refl e)
  where
    by : (t : Bool) → is_hex (get_or s 0 0) ≡ t → t && is_hex (get_or s 1 0) ≡ false → piece_at (37 ∷ s) 0 ≡ itself 37
    by true p q = no-low (37 ∷ s) 0 refl (ltb-false (digit_of (get_or s 1 0)) 16 q)
    by false p q = no-high (37 ∷ s) 0 refl (ltb-false (digit_of (get_or s 0 0)) 16 p)

-- and so does every other byte
pub other-stays : (a : ℕ) (s : List ℕ) → (a ≡ 37 → ⊥) → decoded (a ∷ s) ≡ a ∷ decoded s
unfolding decoded
other-stays a s h = begins-with a s (itself a) (other (a ∷ s) 0 h)
