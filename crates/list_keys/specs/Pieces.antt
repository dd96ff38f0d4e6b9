-- What a piece is as a result, and what is promised of a list that pieces are appended to.
-- Assumes nothing.
use Rattle.std.specs.Prelude.{◌≡◌, true, Result, Ok, Err, ⊤}
use Rattle.lists.specs.declared.Fault.{Fault}
use Rattle.lists.specs.Fault.{is_fine}
use Rattle.lists.specs.Append.{Piece, good, bad, Slots, More}

abbrev pub entry_or_fault : {A : Type 0} → Piece A → Result A Fault
entry_or_fault (good a) = Ok a
entry_or_fault (bad f) = Err f

-- the fault is the one that appending has; with none, the list is the one after it
abbrev pub Adds : {A : Type 0} → Result ⊤ Fault → Slots A → More A → Type 0
Adds r after m = (r ≡ m.fault) × (is_fine m.fault ≡ true → after ≡ m.slots)
