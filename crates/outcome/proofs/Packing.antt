-- The decode buffer while a text is read: what is packed stands at its start, and the bytes behind the text's length are as they were.
-- Assumes nothing.
use Prim.Native.Nat.{ℕ, ◌+◌, ◌-◌, ◌≤◌}
use mathlib.Core.Path.{◌≡◌, refl, sym, ap, ◌∙◌}
use mathlib.Core.List.{List, [], ◌++◌}
use native.Mathlib.Omega.{arith}
use lib.ListN.{length, take, drop, replicate, length-append, length-replicate}
use lib.Seq.{take_at, drop-drop, length-take-le}
use Rattle.byte.specs.Byte.{part_of}
use Rattle.byte.specs.Put.{put, written, after}
use Rattle.byte.proofs.Parts.{part-is}
use Rattle.byte.proofs.Writing.{length-put, before-put, behind-put, part-put, written-room, after-room}

-- n is the text's length, d₀ the buffer at first, d the buffer now, b what is packed
pub record Packed (n : ℕ) (d₀ b d : List ℕ) : Type 0 where
  pub stands : take (length b) d ≡ b
  pub behind : drop n d ≡ drop n d₀
  pub same : length d ≡ length d₀

pub packed_none : (n : ℕ) (d : List ℕ) → Packed n d [] d
packed_none n d = record { stands = refl; behind = refl; same = refl }

module _ (n : ℕ) (d₀ b d : List ℕ) (p : Packed n d₀ b d) (long : n ≤ length d₀) where
  -- a value written behind what is packed
  module _ (v : List ℕ) (room : length b + length v ≤ n) where
    fits : length b + length v ≤ length d
    fits = omega (arith, p.same)

    pub value_written : written d (length b) v ≡ put d (length b) v
    value_written = written-room d (length b) v fits

    pub value_after : after d (length b) v ≡ length b + length v
    value_after = after-room d (length b) v fits

    behind-value : drop n (put d (length b) v) ≡ drop n d₀
    behind-value =
        let e : length b + length v + (n - (length b + length v)) ≡ n = omega arith in
        ap (λ (k : ℕ). drop k (put d (length b) v)) (sym e) ∙ sym (drop-drop (n - (length b + length v)) (length b + length v) (put d (length b) v))
        ∙ ap (drop (n - (length b + length v))) (behind-put d (length b) v fits)
        ∙ drop-drop (n - (length b + length v)) (length b + length v) d ∙ ap (λ (k : ℕ). drop k d) e ∙ p.behind

    pub value-stands : part_of (length b) (length b + length v) (put d (length b) v) ≡ v
    value-stands =
        let e : length b + length v - length b ≡ length v = omega arith in
        part-is (length b) (length b + length v) (put d (length b) v) ∙ rw e (part-put d (length b) v fits)

    pub value-left : Packed n d₀ b (put d (length b) v)
    value-left = record { stands = before-put d (length b) v fits ∙ p.stands; behind = behind-value; same = length-put d (length b) v fits ∙ p.same }

    pub value-packed : Packed n d₀ (b ++ v) (put d (length b) v)
    unfolding put
    value-packed =
        let k : length (take (length b) d) ≡ length b = length-take-le (length b) d (omega (arith, fits)) in
        let h : length (take (length b) d ++ v) ≡ length (b ++ v) = length-append (take (length b) d) v ∙ omega (arith, k, length-append b v) in
        record {
          stands = take_at (take (length b) d ++ v) (drop (length b + length v) d) (length (b ++ v)) h ∙ ap (λ (l : List ℕ). l ++ v) p.stands;
          behind = behind-value;
          same = length-put d (length b) v fits ∙ p.same;
        }

  -- zeros written behind what is packed, up to the text's length
  pub zeros-behind : length b ≤ n → written d (length b) (replicate (n - length b) 0) ≡ put d₀ 0 (b ++ replicate (n - length b) 0)
  unfolding put
  zeros-behind low =
      let z : List ℕ = replicate (n - length b) 0 in
      let l : length z ≡ n - length b = length-replicate {A = ℕ} (n - length b) 0 in
      let e : length b + length z ≡ n = omega (arith, l) in
      let f : 0 + length (b ++ z) ≡ n = omega (arith, l, length-append b z) in
      let r : length b + length z ≤ length d = omega (arith, e, p.same) in
      written-room d (length b) z r
      ∙ ap (λ (x : List ℕ). x ++ z ++ drop (length b + length z) d) p.stands
      ∙ ap (λ (k : ℕ). b ++ z ++ drop k d) e ∙ ap (λ (x : List ℕ). b ++ z ++ x) p.behind ∙ ap (λ (k : ℕ). b ++ z ++ drop k d₀) (sym f)

  pub zeros-all : written d 0 (replicate n 0) ≡ put d₀ 0 (replicate n 0)
  unfolding put
  zeros-all =
      let z : List ℕ = replicate n 0 in
      let l : 0 + length z ≡ n = omega (arith, length-replicate {A = ℕ} n 0) in
      let r : 0 + length z ≤ length d = omega (arith, l, p.same) in
      written-room d 0 z r
      ∙ ap (λ (k : ℕ). z ++ drop k d) l ∙ ap (λ (x : List ℕ). z ++ x) p.behind ∙ ap (λ (k : ℕ). z ++ drop k d₀) (sym l)
