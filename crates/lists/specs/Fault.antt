-- Why a setting is refused, and the number that a refusal hands back.
-- Assumes nothing.
use Rattle.std.specs.Prelude.{ℕ, Bool, true, false, eqb, Result, Ok, Err, ⊤}
use Rattle.byte.specs.Byte.{pick}
use Rattle.number.specs.declared.NumberError.{NumberError}
use Rattle.lists.specs.declared.Fault.{Fault}
use Rattle.lists.specs.declared.Fault.TheVariants.{UnknownKey, Word, Form, Range, NoAddress, ManyHosts, ManyHostaddrs, ManyPorts}

-- 4 "unknown key"; 5 "known key, value not allowed", whatever is wrong with it; 13, 14, 15 "a 17th host, hostaddr, port"
abbrev pub fault_number : Fault → ℕ
fault_number UnknownKey = 4
fault_number Word = 5
fault_number Form = 5
fault_number Range = 5
fault_number NoAddress = 5
fault_number ManyHosts = 13
fault_number ManyHostaddrs = 14
fault_number ManyPorts = 15

-- what is judged of a setting: that it is not refused, or why it is
abbrev pub is_fine : Result ⊤ Fault → Bool
is_fine (Ok x) = true
is_fine (Err f) = false

-- 0 where nothing is refused
abbrev pub number_of : Result ⊤ Fault → ℕ
number_of (Ok x) = 0
number_of (Err f) = fault_number f

-- "a key number (0 but for 5)"
abbrev pub key_of : Result ⊤ Fault → ℕ → ℕ
key_of r key = pick (eqb (number_of r) 5) key 0

-- a number of wrong form, or beyond its range
abbrev pub fault_from : NumberError → Fault
fault_from NumberError.Form = Form
fault_from NumberError.Range = Range
