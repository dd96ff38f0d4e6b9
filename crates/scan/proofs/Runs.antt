-- Laws of runs, for any rule: where a run ends, told from a place of the text.
-- Assumes nothing.
use mathlib.Core.Path.{◌≡◌, refl, sym, ap}
use mathlib.Core.Bool.{Bool, true, false}
use mathlib.Core.List.{List, [], ◌∷◌}
use Prim.Native.Nat.{ℕ, zero, suc, ◌+◌, ◌-◌, ◌<◌, ◌≤◌, zero-le, suc-le-suc}
use native.Mathlib.Nat.{zero-add, suc-add, add_assoc, add-zero}
use native.Mathlib.Numerals.{sub-one}
use native.Mathlib.Omega.{arith}
use lib.Dec.{ltb}
use lib.ListN.{length, drop, length-drop, drop_of_length-le}
use lib.Seq.{drop-drop}
use borrow.Author.Tests.{lt-ltb}
use Rattle.byte.specs.Byte.{pick}
use Rattle.scan.specs.Scan.{run_from, run, end_of}

most-from : (f : List ℕ → ℕ) (k : ℕ) (s : List ℕ) → run_from f k s ≤ length s
unfolding run_from
most-from f k [] = zero-le
most-from f (suc k) (a ∷ s) = suc-le-suc (most-from f k s)
most-from f zero (a ∷ s) = by (ltb 0 (f (a ∷ s))) (most-from f (f (a ∷ s) - 1) s)
  where
    by : (t : Bool) {n : ℕ} → n ≤ length s → pick t (suc n) 0 ≤ suc (length s)
    by true h = suc-le-suc h
    by false h = zero-le

-- the run behind k bytes
skip : (f : List ℕ → ℕ) (k : ℕ) (s : List ℕ) → k ≤ length s → run_from f k s ≡ k + run f (drop k s)
unfolding run_from
skip f zero [] h = refl
skip f zero (a ∷ s) h = sym (zero-add _)
skip f (suc k) [] h = absurd (omega arith)
skip f (suc k) (a ∷ s) h = rw suc-add (ap suc (skip f k s (omega arith)))

-- a run stops at once, or goes on behind its first unit
pub run-stop : (f : List ℕ → ℕ) (t : List ℕ) → f t ≡ 0 → run f t ≡ 0
unfolding run_from
run-stop f [] e = refl
run-stop f (a ∷ s) e = rw e

pub run_more : (f : List ℕ → ℕ) (t : List ℕ) (n : ℕ) → f t ≡ n → 0 < n → n ≤ length t → run f t ≡ n + run f (drop n t)
unfolding run_from
run_more f [] n e p h = absurd (omega arith)
run_more f (a ∷ s) zero e p h = absurd (omega arith)
run_more f (a ∷ s) (suc m) e p h = rw (e, lt-ltb 0 (suc m) p, sub-one (suc m), suc-add) (ap suc (skip f m s (omega arith)))

module _ (f : List ℕ → ℕ) (s : List ℕ) (at : ℕ) where
  -- a run ends within the text
  pub end-within : at ≤ length s → end_of f s at ≤ length s
  end-within h = omega (arith, most-from f 0 (drop at s), length-drop at s)

  pub end-from : at ≤ end_of f s at
  end-from = omega arith

  -- behind the end there is nothing
  pub end-past : length s ≤ at → end_of f s at ≡ at
  unfolding run_from
  end-past h = rw (drop_of_length-le s h) (add-zero at)

  pub end-stop : f (drop at s) ≡ 0 → end_of f s at ≡ at
  end-stop e = rw (run-stop f (drop at s) e) (add-zero at)

  -- a unit of n bytes at a place: the run goes on behind it
  pub end_more : (n : ℕ) → f (drop at s) ≡ n → 0 < n → at + n ≤ length s → end_of f s at ≡ end_of f s (at + n)
  end_more n e p h =
      let l : n ≤ length (drop at s) = omega (arith, length-drop at s) in
      rw (run_more f (drop at s) n e p l, drop-drop n at s, add_assoc)

-- where a run ends, counted from a place
pub end-shift : (f : List ℕ → ℕ) (s : List ℕ) (at x : ℕ) → end_of f s (at + x) ≡ at + end_of f (drop at s) x
end-shift f s at x = rw (drop-drop x at s, add_assoc)
