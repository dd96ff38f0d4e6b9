-- A test that computes to true at every number below n holds of each of them: how a constant table's rule is proved once.
-- Assumes nothing.
use mathlib.Core.Path.{◌≡◌, refl}
use mathlib.Core.Bool.{Bool, true, false, ◌&&◌}
use Prim.Native.Nat.{ℕ, zero, suc, ◌<◌}
use native.Mathlib.Omega.{arith}
use lib.Dec.{eqb}
use borrow.Author.Tests.{eqb-true, eqb-false}
use Rattle.byte.proofs.Laws.{and_left, and_right}

abbrev pub every : ℕ → (ℕ → Bool) → Bool
every zero f = true
every (suc n) f = f n && every n f

pub holds_at : (n : ℕ) (f : ℕ → Bool) → every n f ≡ true → (k : ℕ) → k < n → f k ≡ true
holds_at zero f t k h = absurd (omega arith)
holds_at (suc n) f t k h = by (eqb k n) refl (λ (l : k < n). holds_at n f (and_right (f n) (every n f) t) k l)
  where
    by : (b : Bool) → eqb k n ≡ b → (k < n → f k ≡ true) → f k ≡ true
    by true e g = rw (eqb-true k n e) (and_left (f n) (every n f) t)
    by false e g = let d : k ≡ n → ⊥ = eqb-false k n e in g (omega arith)
