-- A run of bytes that a value gains as they stand: it is passed over whole.
-- Assumes nothing.
use mathlib.Core.Path.{◌≡◌, refl, ◌∙◌}
use mathlib.Core.Bool.{Bool, true, false, not, ◌||◌}
use mathlib.Core.List.{List}
use Prim.Native.Nat.{ℕ, zero, suc, ◌+◌, ◌-◌, ◌≤◌}
use native.Mathlib.Omega.{arith}
use lib.Dec.{eqb}
use lib.ListN.{length, drop, get_or, length-drop}
use lib.Seq.{get_or-drop}
use borrow.Author.Tests.{eqb-false}
use Rattle.std.specs.List.{position_or_len}
use Rattle.std.proofs.lemmas.List.Sums.{prefix_len_passes, prefix_len-le-length}
use Rattle.keyvalue.specs.Scan.{starts_space, simple_len}
use Rattle.keyvalue.specs.KeyValue.{raw_at}
use Rattle.scan.specs.Scan.{solid}
use Rattle.scan.proofs.Rules.{glance}
use Rattle.keyvalue.proofs.Pieces.{Plain, plain_turn}

-- whether a byte may end the run
abbrev pub ends_run : ℕ → Bool
ends_run b = eqb b 92 || not (solid b)

abbrev pub run_len : List ℕ → ℕ
run_len t = position_or_len ends_run t

-- what a byte that is passed over is
record Passed (b : ℕ) : Type 0 where
  plain : b ≡ 92 → ⊥
  whole : solid b ≡ true

passed : (b : ℕ) → not (ends_run b) ≡ true → Passed b
passed b e = by (eqb b 92) (solid b) refl refl e
  where
    by : (q t : Bool) → eqb b 92 ≡ q → solid b ≡ t → not (q || not t) ≡ true → Passed b
    by true t f g h = cc
    by false true f g h = record { plain = eqb-false b 92 f; whole = g }
    by false false f g h = cc

-- what is passed over from a place on
pub record Skipped (s : List ℕ) (at i : ℕ) : Type 0 where
  pub to : (raw_at simple_len s at).to ≡ (raw_at simple_len s i).to
  pub len : (raw_at simple_len s at).len ≡ i - at + (raw_at simple_len s i).len

module _ (s : List ℕ) (at : ℕ) where
  pub run-within : run_len (drop at s) ≤ length s - at
  run-within = omega (arith, prefix_len-le-length (λ b. not (ends_run b)) (drop at s), length-drop at s)

  skipped-by : (k : ℕ) → k ≤ run_len (drop at s) → Skipped s at (at + k)
  skipped-by zero h = let e : at + 0 ≡ at = omega arith in record { to = rw e; len = rw e (omega arith) }
  skipped-by (suc k) h =
      let before = skipped-by k (omega arith) in
      let b : not (ends_run (get_or (drop at s) k 0)) ≡ true = prefix_len_passes (λ b. not (ends_run b)) (drop at s) k 0 (omega arith) in
      let p : Passed (get_or s (at + k) 0) = rw (get_or-drop at s k 0) at (passed _ b) in
      let t : Plain starts_space s (at + k) = plain_turn starts_space s (at + k) (omega (arith, run-within)) (glance s (at + k) p.whole) p.plain in
      let e : at + suc k ≡ at + k + 1 = omega arith in
      rw e (record { to = before.to ∙ t.to; len = omega (arith, before.len, t.len) })

  pub skipped : (k : ℕ) → run_len (drop at s) ≡ k → Skipped s at (at + k)
  skipped k e = skipped-by k (omega (arith, e))
