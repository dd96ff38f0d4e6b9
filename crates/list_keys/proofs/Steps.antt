-- One turn of the loop that appends a value's pieces: it stops at a fault, ends, or goes on; and what a port's piece is.
-- Assumes nothing.
use Prim.Native.Nat.{ℕ, ◌+◌, ◌-◌, ◌<◌, ◌≤◌}
use mathlib.Core.Path.{◌≡◌, refl, sym, ap, ◌∙◌}
use mathlib.Core.Bool.{Bool, true, false}
use mathlib.Core.List.{List}
use lib.ListN.{length, take, drop}
use borrow.Author.Tests.{eq-eqb, ne_eqb}
use Rattle.std.specs.Prelude.{Result, Ok, Err, ⊤}
use Rattle.split.specs.Split.{first_at}
use Rattle.number.specs.Number.{unsigned_of}
use Rattle.lists.specs.declared.Fault.{Fault}
use Rattle.lists.specs.Fault.{is_fine}
use Rattle.lists.specs.Append.{Piece, Slots, More, more, append, append_from, append_all, listed}
use Rattle.lists.specs.Lists.{port_read, port_piece}
use Rattle.lists.proofs.Turns.{left, turn_on, turn_last, turn-stop}
use Rattle.list_keys.specs.Pieces.{entry_or_fault, Adds}

pub port-empty : (v : List ℕ) → length v ≡ 0 → Ok 5432 ≡ entry_or_fault (port_piece v)
unfolding port_piece
port-empty v h = rw (eq-eqb (length v) 0 h)

pub port-full : (v : List ℕ) → (length v ≡ 0 → ⊥) → entry_or_fault (port_read (unsigned_of 65535 v)) ≡ entry_or_fault (port_piece v)
unfolding port_piece
port-full v h = rw (ne_eqb (length v) 0 h)

-- what appending a piece answered and left, and what of the value was left before it
module _ {A : Type 0} (read : ℕ → List ℕ → Piece A) (full : Fault) (old s next : Slots A) (start : ℕ) (v : List ℕ) (at end : ℕ)
    (found : end ≡ at + first_at 44 (drop at v)) (low : at ≤ length v) (r : Result ⊤ Fault)
    (value : r ≡ (append full s (read (start + at) (take (end - at) (drop at v)))).fault)
    (after : next ≡ (append full s (read (start + at) (take (end - at) (drop at v)))).slots)
    (all : append_all full old (listed read start v) ≡ append_from full old s (left read start v at)) where
  abbrev answer : More A
  answer = append full s (read (start + at) (take (end - at) (drop at v)))

  pub stops : (f : Fault) → r ≡ Err f → (q : Result ⊤ Fault) → q ≡ Err f → Adds q next (append_all full old (listed read start v))
  stops f e q d =
      let bad : is_fine answer.fault ≡ false = ap is_fine (sym value ∙ e) in
      let whole : append_all full old (listed read start v) ≡ more answer.fault old = all ∙ turn-stop read full old s start v at end found low answer refl bad in
      rw whole (d ∙ sym e ∙ value, λ fine. let z : ◌≡◌ {A = Bool} false true = sym bad ∙ fine in cc)

  pub ends : r ≡ Ok tt → length v ≤ end → Adds (Ok tt) next (append_all full old (listed read start v))
  ends e h =
      let good : is_fine answer.fault ≡ true = ap is_fine (sym value ∙ e) in
      let whole : append_all full old (listed read start v) ≡ more (Ok tt) answer.slots = all ∙ turn_last read full old s start v at end found low answer refl good h in
      rw whole (refl, λ fine. after)

  pub goes-on : r ≡ Ok tt → end < length v → append_all full old (listed read start v) ≡ append_from full old next (left read start v (end + 1))
  goes-on e h =
      let good : is_fine answer.fault ≡ true = ap is_fine (sym value ∙ e) in
      all ∙ turn_on read full old s start v at end found low answer refl good h ∙ ap (λ (x : Slots A). append_from full old x (left read start v (end + 1))) (sym after)
