-- Writing that stops on the way: what is written behind it completes it.
-- Assumes nothing.
use mathlib.Core.Path.{◌≡◌, sym, ap, ◌∙◌}
use mathlib.Core.List.{List, ◌++◌}
use Prim.Native.Nat.{ℕ, ◌+◌, ◌≤◌}
use native.Mathlib.Omega.{arith}
use lib.ListN.{length, take, drop, take-append-drop}
use lib.Seq.{length-take-le}
use Rattle.byte.specs.Put.{put, written, after}
use Rattle.byte.proofs.Writing.{written-room, after-room, written-append, after-append}
use Rattle.byte.proofs.Fill.{Filling}

module _ (d₀ : List ℕ) (at : ℕ) (x : List ℕ) (room : at + length x ≤ length d₀) (d : List ℕ) (k : ℕ) (rest : List ℕ) (f : Filling d₀ at x rest d k) where
  abbrev y : List ℕ
  y = take k x

  long : length y ≡ k
  long = length-take-le k x f.low

  room-first : at + length y ≤ length d₀
  room-first = omega (arith, long, f.low)

  whole : y ++ rest ≡ x
  whole = ap (λ (l : List ℕ). y ++ l) (sym f.left) ∙ take-append-drop k x

  room_whole : at + length (y ++ rest) ≤ length d₀
  room_whole = omega (arith, ap length whole)

  so_far : d ≡ written d₀ at y
  unfolding put
  so_far = f.is ∙ ap (λ (n : ℕ). take at d₀ ++ y ++ drop (at + n) d₀) (sym long) ∙ sym (written-room d₀ at y room-first)

  place : at + k ≡ after d₀ at y
  place = sym (after-room d₀ at y room-first ∙ ap (λ (n : ℕ). at + n) long)

  pub rest-after : after d (at + k) rest ≡ after d₀ at x
  rest-after =
      ap (λ (l : List ℕ). after l (at + k) rest) so_far
      ∙ ap (λ (n : ℕ). after (written d₀ at y) n rest) place
      ∙ after-append d₀ at y rest room_whole
      ∙ ap (after d₀ at) whole

  pub rest-written : written d (at + k) rest ≡ written d₀ at x
  rest-written =
      ap (λ (l : List ℕ). written l (at + k) rest) so_far
      ∙ ap (λ (n : ℕ). written (written d₀ at y) n rest) place
      ∙ written-append d₀ at y rest room_whole
      ∙ ap (written d₀ at) whole
