-- How a value's pieces are appended to a list of sixteen places, for elements of any type.
-- Assumes nothing.
use Rattle.std.specs.Prelude.{ℕ, ◌+◌, List, [], ◌∷◌, ltb, length, set, Result, Ok, Err, ⊤}
use Rattle.split.specs.Split.{split}
use Rattle.byte.specs.Byte.{pick}
use Rattle.lists.specs.declared.Fault.{Fault}
use Rattle.lists.specs.Fault.{is_fine}

-- what a piece stands for: an element, or why it is refused
pub data Piece (A : Type 0) : Type 0 where
  good : A → Piece A
  bad : Fault → Piece A

-- a list of places, of which the first count are used
pub record Slots (A : Type 0) : Type 0 where
  pub list : List A
  pub count : ℕ

abbrev pub slots : {A : Type 0} → List A → ℕ → Slots A
slots l n = record { list = l; count = n }

-- a list after something was to be appended: whether that is refused, and the list then
pub record More (A : Type 0) : Type 0 where
  pub fault : Result ⊤ Fault
  pub slots : Slots A

abbrev pub more : {A : Type 0} → Result ⊤ Fault → Slots A → More A
more f s = record { fault = f; slots = s }

abbrev pub pushed : {A : Type 0} → Slots A → A → Slots A
pushed s a = record { list = set s.list s.count a; count = s.count + 1 }

-- "Hosts, hostaddrs, ports: at most 16 each"; one that has no room is refused by the fault `full`
abbrev pub kept : {A : Type 0} → Fault → Slots A → A → More A
kept full s a = pick (ltb s.count 16) (more (Ok tt) (pushed s a)) (more (Err full) s)

-- "a piece's form and range are judged before room for it"
abbrev pub append : {A : Type 0} → Fault → Slots A → Piece A → More A
append full s (good a) = kept full s a
append full s (bad f) = more (Err f) s

-- "pieces left to right"; a refusal leaves the list as it was before the first of them
unfoldable pub append_from : {A : Type 0} → Fault → Slots A → Slots A → List (Piece A) → More A
append_from full old s [] = more (Ok tt) s
append_from full old s (p ∷ ps) =
    pick (is_fine (append full s p).fault) (append_from full old (append full s p).slots ps) (more (append full s p).fault old)

abbrev pub append_all : {A : Type 0} → Fault → Slots A → List (Piece A) → More A
append_all full s ps = append_from full s s ps

-- pieces that stand one behind the other from a place on, a comma between each two: what each stands for, by its place and its bytes
unfoldable pub pieces_from : {A : Type 0} → (ℕ → List ℕ → Piece A) → ℕ → List (List ℕ) → List (Piece A)
pieces_from read at [] = []
pieces_from read at (w ∷ ws) = read at w ∷ pieces_from read (at + length w + 1) ws

-- "split at commas" (byte 44), a value that stands from the place at on
unfoldable pub listed : {A : Type 0} → (ℕ → List ℕ → Piece A) → ℕ → List ℕ → List (Piece A)
listed read at v = pieces_from read at (split 44 v)
