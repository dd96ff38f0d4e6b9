-- UTF-8 judged byte by byte: how many bytes a character still lacks, and between which two the next one lies.
-- Assumes nothing.
use Rattle.std.specs.Prelude.{ℕ, ◌-◌, Bool, List, [], ◌∷◌, ltb, eqb}
use Rattle.byte.specs.Byte.{pick, between}
use Rattle.utf8_state.specs.declared.State.{State}
use Rattle.utf8_tail.specs.Tail.{least, greatest}

-- left bytes are lacking, the next of them lies between lo and hi, those behind it are tails
abbrev pub state : ℕ → ℕ → ℕ → State
state left lo hi = record { left = left; lo = lo; hi = hi }

-- no character has begun, or the last one is whole
abbrev pub start_state : State
start_state = state 0 0x80 0xbf

-- a byte is lacking that no byte can be, so that it stays broken
abbrev pub broken : State
broken = state 1 1 0

-- after a character's first byte
unfoldable pub first_state : ℕ → State
first_state a =
    pick (ltb a 0x80) start_state
    (pick (between 0xc2 0xdf a) (state 1 0x80 0xbf)
    (pick (between 0xe0 0xef a) (state 2 (least a) (greatest a))
    (pick (between 0xf0 0xf4 a) (state 3 (least a) (greatest a)) broken)))

-- after one byte more
unfoldable pub next_state : State → ℕ → State
next_state t b =
    pick (eqb t.left 0) (first_state b)
    (pick (between t.lo t.hi b) (state (t.left - 1) 0x80 0xbf) broken)

-- whether what was read so far is a sequence of whole characters
unfoldable pub whole_state : State → Bool
whole_state t = eqb t.left 0

-- after the bytes of a list
unfoldable pub state_after : State → List ℕ → State
state_after t [] = t
state_after t (b ∷ s) = state_after (next_state t b) s
