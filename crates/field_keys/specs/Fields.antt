-- What a value of a word or a number is as a result.
-- Assumes nothing.
use Rattle.std.specs.Prelude.{ℕ, eqb, Result, Ok, Err}
use Rattle.byte.specs.Byte.{pick}
use Rattle.number.specs.declared.NumberError.{NumberError}
use Rattle.lists.specs.declared.Fault.{Fault}
use Rattle.lists.specs.Fault.{fault_from}

abbrev pub number_or_fault : Result ℕ NumberError → Result ℕ Fault
number_or_fault (Ok n) = Ok n
number_or_fault (Err e) = Err (fault_from e)

-- the field of a word once its number is read, which is 0 where the key has no such word
abbrev pub word_after : {A : Type 0} → (ℕ → A) → A → ℕ → A
word_after of old n = pick (eqb n 0) old (of n)
