-- A run of ASCII bytes: each is a character, so that a text is well formed as it is behind the run.
-- Assumes nothing.
use mathlib.Core.Path.{◌≡◌, refl, ap, ◌∙◌}
use mathlib.Core.Bool.{Bool, true, false, not, cond}
use mathlib.Core.List.{List, [], ◌∷◌}
use Prim.Native.Nat.{ℕ, suc, ◌+◌, ◌<◌}
use native.Mathlib.Omega.{arith}
use lib.Dec.{leb}
use lib.ListN.{drop}
use lib.Seq.{drop-drop}
use borrow.Author.Tests.{leb-false}
use Rattle.std.specs.List.{position_or_len}
use Rattle.utf8.specs.declared.Char.{Char}
use Rattle.utf8.specs.Utf8.{well_formed}
use Rattle.utf8.proofs.Laws.{good, ascii}

-- the place of the first byte that is not ASCII
abbrev pub run : List ℕ → ℕ
run t = position_or_len (λ b. leb 0x80 b) t

pub run-formed : (t : List ℕ) → well_formed t ≡ well_formed (drop (run t) t)
run-formed [] = refl
run-formed (a ∷ t) = by (leb 0x80 a) refl (run-formed t)
  where
    by : (q : Bool) → leb 0x80 a ≡ q → well_formed t ≡ well_formed (drop (run t) t) → well_formed (a ∷ t) ≡ well_formed (drop (cond (not q) (1 + run t) 0) (a ∷ t))
    by true e h = refl
    by false e h =
        let n : 1 + run t ≡ suc (run t) = omega arith in
        let low : a < 0x80 = leb-false 0x80 a e in
        rw n (good (a ∷ t) 0 (omega arith) 1 (ap (λ (x : Char). x.len) (ascii (a ∷ t) 0 (omega arith) low)) (omega arith) ∙ h)

-- the same from a place on
pub run-behind : (s : List ℕ) (at k : ℕ) → run (drop at s) ≡ k → well_formed (drop at s) ≡ well_formed (drop (at + k) s)
run-behind s at k e = run-formed (drop at s) ∙ ap (λ (n : ℕ). well_formed (drop n (drop at s))) e ∙ ap well_formed (drop-drop k at s)
