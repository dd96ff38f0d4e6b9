-- A loop that writes a fixed count of digits from the last one backwards: d₀ is the memory before it, d after the digits but the first k, and m what is left of the number.
-- Assumes nothing.
use mathlib.Core.Path.{◌≡◌, sym, ap, ◌∙◌}
use mathlib.Core.Bool.{Bool}
use mathlib.Core.List.{List, [], ◌∷◌, ◌++◌, append_assoc, append-nil}
use Prim.Native.Nat.{ℕ, suc, ◌+◌, ◌/◌, ◌%◌, ◌<◌, ◌≤◌}
use native.Mathlib.Nat.{add-zero}
use native.Mathlib.Omega.{arith}
use lib.ListN.{length, get_or, take, drop, set}
use lib.Seq.{take-suc, append_snoc, set_at, length-take-le}
use Rattle.byte.specs.Put.{put, written, after}
use Rattle.byte.proofs.Writing.{put-nil, length-put, written-room, after-room}
use Rattle.decimal.specs.Decimal.{digit_byte, fixed_digits}
use Rattle.decimal.proofs.Fixed.{fixed-length}

-- a byte written in front of what stands there already
pub put-before : (d : List ℕ) (at b : ℕ) (x : List ℕ) → at < length d → set (put d (suc at) x) at b ≡ put d at (b ∷ x)
unfolding put
put-before d at b x h =
    let P : List ℕ = take at d in
    let y : ℕ = get_or d at 0 in
    let R : List ℕ = drop (suc at + length x) d in
    let e : take (suc at) d ++ x ++ R ≡ P ++ y ∷ (x ++ R) =
    ap (λ (l : List ℕ). l ++ x ++ R) (take-suc d at 0 h) ∙ append_assoc (P ++ (y ∷ [])) x R ∙ append_snoc P y (x ++ R) in
    let r : suc at + length x ≡ at + suc (length x) = omega arith in
    ap (λ (l : List ℕ). set l at b) e
    ∙ set_at P y (x ++ R) b at (length-take-le at d (omega arith))
    ∙ sym (append_assoc P (b ∷ x) R)
    ∙ ap (λ (k : ℕ). P ++ (b ∷ x) ++ drop k d) r

pub record Backward (base : ℕ) (upper : Bool) (width n : ℕ) (d₀ : List ℕ) (at : ℕ) (d : List ℕ) (m k : ℕ) : Type 0 where
  pub done : List ℕ
  pub whole : fixed_digits base upper width n ≡ fixed_digits base upper k m ++ done
  pub count : k + length done ≡ width
  pub is : d ≡ put d₀ (at + k) done

module _ (base : ℕ) (upper : Bool) (width n : ℕ) (d₀ : List ℕ) (at : ℕ) where
  pub backward-start : Backward base upper width n d₀ at d₀ n width
  backward-start =
      record {
        done = [];
        whole = sym (append-nil (fixed_digits base upper width n));
        count = omega arith;
        is = sym (put-nil d₀ (at + width));
      }

  module _ (room : at + width ≤ length d₀) (d : List ℕ) (m : ℕ) where
    pub backward-length : (k : ℕ) → Backward base upper width n d₀ at d m k → length d ≡ length d₀
    backward-length k B = ap length B.is ∙ length-put d₀ (at + k) B.done (omega (arith, B.count))

    -- a turn: the last digit of m goes in front
    pub backward-more : (k j b : ℕ) → k ≡ suc j → b ≡ digit_byte upper (m % base) → Backward base upper width n d₀ at d m k
        → Backward base upper width n d₀ at (set d (at + j) b) (m / base) j
    unfolding fixed_digits
    backward-more k j b e g B =
        let f : fixed_digits base upper (suc j) m ≡ fixed_digits base upper j (m / base) ++ (b ∷ []) = rw g in
        let a : at + k ≡ suc (at + j) = omega arith in
        record {
          done = b ∷ B.done;
          whole = B.whole ∙ rw (e, f) (append_snoc (fixed_digits base upper j (m / base)) b B.done);
          count = omega (arith, B.count);
          is = rw (B.is, a) (put-before d₀ (at + j) b B.done (omega (arith, B.count)));
        }

    -- no digit is left
    pub backward-end : Backward base upper width n d₀ at d m 0
        → (at + width ≡ after d₀ at (fixed_digits base upper width n)) × (d ≡ written d₀ at (fixed_digits base upper width n))
    unfolding fixed_digits
    backward-end B =
        let F : List ℕ = fixed_digits base upper width n in
        let w : F ≡ B.done = B.whole in
        let l : length F ≡ width = fixed-length base upper width n in
        let fit : at + length F ≤ length d₀ = omega arith in
        (sym (after-room d₀ at F fit ∙ ap (λ (k : ℕ). at + k) l), B.is ∙ rw (add-zero at, ← w) (sym (written-room d₀ at F fit)))
