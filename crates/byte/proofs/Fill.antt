-- A loop that writes a list x into a lent slice d₀ from the place at on, a byte a turn: what holds after k bytes, with `rest` still to come.
-- Assumes nothing.
use mathlib.Core.Path.{◌≡◌, refl, sym, ap, ◌∙◌}
use mathlib.Core.List.{List, [], ◌∷◌, ◌++◌}
use Prim.Native.Nat.{ℕ, zero, suc, ◌+◌, ◌<◌, ◌≤◌, zero-le, suc-le-suc}
use native.Mathlib.Numerals.{add-one}
use native.Mathlib.Omega.{arith}
use lib.ListN.{length, get_or, drop, take, set, drop_of_length-le}
use lib.Seq.{paste, paste-zero, paste-suc, length-paste, take-length, drop-cons}
use Rattle.byte.specs.Put.{put, written, after}
use Rattle.byte.proofs.Writing.{written-room, after-room}

-- what stands at the front of the rest of a list stands in the list
pub record Front (x : List ℕ) (k b : ℕ) (r : List ℕ) : Type 0 where
  pub low : k < length x
  pub at : get_or x k 0 ≡ b
  pub rest : drop (suc k) x ≡ r

pub front : (x : List ℕ) (k b : ℕ) (r : List ℕ) → drop k x ≡ b ∷ r → Front x k b r
front [] zero b r e = let z : ◌≡◌ {A = ℕ} 0 1 = cc in record { low = omega arith; at = cc; rest = cc }
front [] (suc k) b r e = let z : ◌≡◌ {A = ℕ} 0 1 = cc in record { low = omega arith; at = cc; rest = cc }
front (y ∷ x) zero b r e = record { low = omega arith; at = cc; rest = cc }
front (y ∷ x) (suc k) b r e = let f = front x k b r e in record { low = suc-le-suc f.low; at = f.at; rest = f.rest }

-- nothing is left of a list: as many were passed as it has
pub ended : (x : List ℕ) (k : ℕ) → k ≤ length x → drop k x ≡ [] → k ≡ length x
ended [] k h e = omega arith
ended (y ∷ x) zero h e = cc
ended (y ∷ x) (suc k) h e = ap suc (ended x k (omega arith) e)

pub record Filling (d₀ : List ℕ) (at : ℕ) (x rest d : List ℕ) (k : ℕ) : Type 0 where
  pub is : d ≡ paste d₀ at x k
  pub left : drop k x ≡ rest
  pub low : k ≤ length x

-- all is written: what the loop leaves, and the place behind it
pub record Filled (d₀ : List ℕ) (at : ℕ) (x d : List ℕ) (k : ℕ) : Type 0 where
  pub whole : k ≡ length x
  pub answer : at + k ≡ after d₀ at x
  pub leaves : d ≡ written d₀ at x

module _ (d₀ : List ℕ) (at : ℕ) (x : List ℕ) where
  pub fill_start : Filling d₀ at x x d₀ 0
  fill_start = record { is = paste-zero d₀ at x; left = refl; low = zero-le }

  module _ (room : at + length x ≤ length d₀) (d : List ℕ) (k : ℕ) where
    pub fill-length : (rest : List ℕ) → Filling d₀ at x rest d k → length d ≡ length d₀
    fill-length rest f = ap length f.is ∙ length-paste d₀ at x k (omega arith) f.low

    pub fill-room : (b : ℕ) (r : List ℕ) → Filling d₀ at x (b ∷ r) d k → at + k < length d
    fill-room b r f = omega (arith, fill-length (b ∷ r) f, (front x k b r f.left).low)

    pub fill_more : (b : ℕ) (r : List ℕ) → Filling d₀ at x (b ∷ r) d k → Filling d₀ at x r (set d (at + k) b) (k + 1)
    fill_more b r f =
        let n = front x k b r f.left in
        let h : at + k < length d₀ = omega (arith, n.low) in
        record {
          is = rw (add-one, f.is, ← n.at) (paste-suc d₀ at x k 0 h n.low);
          left = rw add-one n.rest;
          low = omega (arith, n.low);
        }

    pub fill_done : Filling d₀ at x [] d k → Filled d₀ at x d k
    unfolding put
    fill_done f =
        let e : k ≡ length x = ended x k f.low f.left in
        record {
          whole = e;
          answer = sym (after-room d₀ at x room ∙ ap (λ (n : ℕ). at + n) (sym e));
          leaves = f.is ∙ ap (paste d₀ at x) e ∙ ap (λ (l : List ℕ). take at d₀ ++ l ++ drop (at + length x) d₀) (take-length x) ∙ sym (written-room d₀ at x room);
        }

    -- the same where the code goes by the place in x
    pub fill-at : (b : ℕ) → k < length x → get_or x k 0 ≡ b → Filling d₀ at x (drop k x) d k → Filling d₀ at x (drop (k + 1) x) (set d (at + k) b) (k + 1)
    fill-at b h e f =
        let g : Filling d₀ at x (b ∷ drop (suc k) x) d k = record { is = f.is; left = drop-cons x k 0 h ∙ ap (λ (y : ℕ). y ∷ drop (suc k) x) e; low = f.low } in
        let n : Filling d₀ at x (drop (suc k) x) (set d (at + k) b) (k + 1) = fill_more b (drop (suc k) x) g in
        rw (← add-one k) at n

    pub fill_end : length x ≤ k → Filling d₀ at x (drop k x) d k → Filled d₀ at x d k
    fill_end h f = fill_done (rw (drop_of_length-le x h) at f)
