-- One turn of a loop that appends the pieces of a value to a list, for elements of any type: it goes on, stops at a fault, or ends.
-- Assumes nothing.
use Prim.Native.Nat.{ℕ, ◌+◌, ◌-◌, ◌<◌, ◌≤◌}
use mathlib.Core.Path.{◌≡◌, refl, sym, ap, ◌∙◌}
use mathlib.Core.Bool.{Bool, true, false}
use mathlib.Core.List.{List, [], ◌∷◌}
use native.Mathlib.Omega.{arith}
use lib.ListN.{length, take, drop, length-take, length-drop}
use borrow.Author.Tests.{lt-ltb, le-ltb}
use Rattle.split.specs.Split.{first_at, split}
use Rattle.split.proofs.Split.{split-here, split-more, split-last, first-within}
use Rattle.std.specs.Prelude.{Ok, Err}
use Rattle.lists.specs.declared.Fault.{Fault}
use Rattle.lists.specs.Fault.{is_fine}
use Rattle.lists.specs.Append.{Piece, Slots, More, more, pushed, kept, append, append_from, pieces_from, listed}

-- an element where there is room, and where there is none
module _ {A : Type 0} (full : Fault) (s : Slots A) (a : A) where
  pub kept-room : s.count < 16 → more (Ok tt) (pushed s a) ≡ kept full s a
  kept-room h = rw (lt-ltb s.count 16 h)

  pub kept_full : 16 ≤ s.count → more (Err full) s ≡ kept full s a
  kept_full h = rw (le-ltb s.count 16 h)

module _ {A : Type 0} (full : Fault) (old s : Slots A) where
  append-on : (p : Piece A) (ps : List (Piece A)) → is_fine (append full s p).fault ≡ true → append_from full old s (p ∷ ps) ≡ append_from full old (append full s p).slots ps
  unfolding append_from
  append-on p ps e = rw e

  append-stop : (p : Piece A) (ps : List (Piece A)) → is_fine (append full s p).fault ≡ false → append_from full old s (p ∷ ps) ≡ more (append full s p).fault old
  unfolding append_from
  append-stop p ps e = rw e

  append-end : append_from full old s [] ≡ more (Ok tt) s
  unfolding append_from
  append-end = refl

-- the pieces that are left from a place of the value on
unfoldable pub left : {A : Type 0} → (ℕ → List ℕ → Piece A) → ℕ → List ℕ → ℕ → List (Piece A)
left read start v at = pieces_from read (start + at) (split 44 (drop at v))

pub left-all : {A : Type 0} (read : ℕ → List ℕ → Piece A) (start : ℕ) (v : List ℕ) → listed read start v ≡ left read start v 0
unfolding left listed
left-all read start v = let z : start ≡ start + 0 = omega arith in ap (λ (n : ℕ). pieces_from read n (split 44 v)) z

module _ {A : Type 0} (read : ℕ → List ℕ → Piece A) (full : Fault) (old s : Slots A) (start : ℕ) (v : List ℕ) (at end : ℕ)
    (found : end ≡ at + first_at 44 (drop at v)) (low : at ≤ length v) (m : More A) (is : m ≡ append full s (read (start + at) (take (end - at) (drop at v)))) where
  within : end ≤ length v
  within = omega (arith, first-within 44 v at low)

  long : length (take (end - at) (drop at v)) ≡ end - at
  long = length-take (end - at) (drop at v) ∙ omega (arith, within, length-drop at v)

  next : start + at + length (take (end - at) (drop at v)) + 1 ≡ start + (end + 1)
  next = omega (arith, long)

  fine : (t : Bool) → is_fine m.fault ≡ t → is_fine (append full s (read (start + at) (take (end - at) (drop at v)))).fault ≡ t
  fine t e = ap (λ (x : More A). is_fine x.fault) (sym is) ∙ e

  pub turn_on : is_fine m.fault ≡ true → end < length v → append_from full old s (left read start v at) ≡ append_from full old m.slots (left read start v (end + 1))
  unfolding left pieces_from
  turn_on e h =
      rw (split-more 44 v at end found h) (append-on full old s _ _ (fine true e)
      ∙ ap (λ (x : More A). append_from full old x.slots (pieces_from read (start + at + length (take (end - at) (drop at v)) + 1) (split 44 (drop (end + 1) v)))) (sym is)
      ∙ ap (λ (n : ℕ). append_from full old m.slots (pieces_from read n (split 44 (drop (end + 1) v)))) next)

  pub turn_last : is_fine m.fault ≡ true → length v ≤ end → append_from full old s (left read start v at) ≡ more (Ok tt) m.slots
  unfolding left pieces_from
  turn_last e h =
      rw (split-last 44 v at end found h) (append-on full old s _ _ (fine true e) ∙ append-end full old _ ∙ ap (λ (x : More A). more (Ok tt) x.slots) (sym is))

  pub turn-stop : is_fine m.fault ≡ false → append_from full old s (left read start v at) ≡ more m.fault old
  unfolding left pieces_from
  turn-stop e = rw (split-here 44 v at end found) (append-stop full old s _ _ (fine false e) ∙ ap (λ (x : More A). more x.fault old) (sym is))
