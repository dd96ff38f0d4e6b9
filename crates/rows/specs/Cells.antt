-- The cells that a setting writes: those of the row `fields`, where a field's cells begin at a place of its own (crate rows), and one of the row `fours`.
-- Assumes nothing.
use Rattle.std.specs.Prelude.{ℕ, ◌+◌, List, eqb, ltb, set, Result, Ok, Err}
use Rattle.byte.specs.Byte.{pick}
use Rattle.number.specs.declared.NumberError.{NumberError}

-- a text: that it is set, its start, its length
abbrev pub text_put : ℕ → ℕ → ℕ → List ℕ → List ℕ
text_put at start len f = pick (ltb at 30) (set (set (set f at 1) (at + 1) start) (at + 2) len) f

-- a word, by its number; 0 is no word
abbrev pub word_put : ℕ → ℕ → List ℕ → List ℕ
word_put at n f = pick (eqb n 0) f (pick (ltb at 32) (set f at n) f)

-- a time: that it is set, its seconds; 0 seconds leave it as it stands
abbrev pub time_put : ℕ → Result ℕ NumberError → List ℕ → List ℕ
time_put at (Ok n) f = pick (eqb n 0) f (pick (ltb at 31) (set (set f at 1) (at + 1) n) f)
time_put at (Err e) f = f

-- keepalives_idle, which 0 seconds leave as it stands
abbrev pub idle_put : Result ℕ NumberError → List ℕ → List ℕ
idle_put (Ok n) f = pick (eqb n 0) f (set f 26 n)
idle_put (Err e) f = f

-- keepalives: 0 is off
abbrev pub keepalives_put : Result ℕ NumberError → List ℕ → List ℕ
keepalives_put (Ok n) f = set f 27 n
keepalives_put (Err e) f = f

-- keepalives_retries: that it is set, in `fields` ..
abbrev pub retries_put : Result ℕ NumberError → List ℕ → List ℕ
retries_put (Ok n) f = set f 28 1
retries_put (Err e) f = f

-- .. and its number, first in `fours`
abbrev pub retries_in : Result ℕ NumberError → List ℕ → List ℕ
retries_in (Ok n) q = set q 0 n
retries_in (Err e) q = q
