-- What a text leaves in the decode buffer.
-- Assumes nothing.
use Prim.Native.Nat.{ℕ, ◌+◌, ◌-◌, ◌≤◌}
use mathlib.Core.Path.{◌≡◌, sym, ap, subst, ◌∙◌}
use mathlib.Core.Bool.{false}
use mathlib.Core.List.{List, [], ◌++◌}
use native.Mathlib.Nat.{sub-zero}
use native.Mathlib.Omega.{arith}
use lib.ListN.{length, take, drop, replicate, length-append, length-replicate}
use Rattle.byte.specs.Put.{put}
use Rattle.byte.proofs.Writing.{length-put, part-put, behind-put, written-room}
use Rattle.utf8.specs.Utf8.{well_formed}
use Rattle.outcome.specs.Outcome.{reading, Outcome, outcome_of, filled, left}
use Rattle.outcome.proofs.Answers as Answers
use Rattle.demands.specs.Giving.{joined, Fails, Whole, Read}
use Rattle.demands.specs.Leaving.{Leaves}
use Rattle.demands.proofs.Whole.{kept-fits}
use Rattle.demands.proofs.Applying.{outcome-fails}
use Rattle.demands.proofs.Answering.{whole-refused, whole-accepted}

filled-leaves : (s b d : List ℕ) → length b ≤ length s → length s ≤ length d → Leaves s b d (filled s b d)
unfolding filled
filled-leaves s b d h r =
    let z : List ℕ = replicate (length s - length b) 0 in
    let e : length (b ++ z) ≡ length s = omega (arith, length-append b z, length-replicate {A = ℕ} (length s - length b) 0) in
    let f : 0 + length (b ++ z) ≡ length s = omega arith in
    let room : 0 + length (b ++ z) ≤ length d = omega arith in
    record {
      front = subst (λ (n : ℕ). take n (put d 0 (b ++ z)) ≡ b ++ z) e (part-put d 0 (b ++ z) room);
      behind = subst (λ (n : ℕ). drop n (put d 0 (b ++ z)) ≡ drop n d) f (behind-put d 0 (b ++ z) room);
      long = length-put d 0 (b ++ z) room;
    }

module _ (s d : List ℕ) where
  module _ (r : Read s (length d)) where
    left-read : (b : List ℕ) → (outcome_of s).packed ≡ b → length b ≤ length s → Leaves s b d (left s d)
    left-read b e h =
        subst (Leaves s b d) (ap (λ (x : List ℕ). filled s x d) (sym e) ∙ (Answers.answered s d r.short r.fits r.utf8).1) (filled-leaves s b d h r.fits)

    pub left-fails : Fails s → Leaves s [] d (left s d)
    left-fails f = left-read [] (ap (λ (o : Outcome). o.packed) (outcome-fails s f)) (omega arith)

    pub left-refused : Whole s → ((reading s).end ≡ 0 → ⊥) → Leaves s [] d (left s d)
    left-refused w h = left-read [] (ap (λ (o : Outcome). o.packed) (whole-refused s w h)) (omega arith)

    pub left-accepted : Whole s → (reading s).end ≡ 0 → Leaves s (joined (reading s).settings) d (left s d)
    left-accepted w h = left-read (joined (reading s).settings) (ap (λ (o : Outcome). o.packed) (whole-accepted s w h)) (kept-fits s)

  pub left-not-utf8 : length s ≤ 4096 → length s ≤ length d → well_formed s ≡ false → Leaves s [] d (left s d)
  unfolding filled
  left-not-utf8 a b e =
      let z : List ℕ = replicate (length s) 0 in
      let f : 0 + length z ≤ length d = omega (arith, length-replicate {A = ℕ} (length s) 0) in
      subst (Leaves s [] d)
      (ap (λ (n : ℕ). put d 0 (replicate n 0)) (sub-zero (length s)) ∙ sym (written-room d 0 z f) ∙ (Answers.not-utf8 s d a b e).1)
      (filled-leaves s [] d (omega arith) b)
