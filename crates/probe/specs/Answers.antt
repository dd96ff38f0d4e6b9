-- The leaves' answers as a C caller takes them: plain records of numbers.
-- Assumes nothing.
use Rattle.std.specs.Prelude.{ℕ, ℤ, pos, Option, Some, None, Result, Ok, Err}
use Rattle.utf8.specs.declared.Char.{Char}
use Rattle.utf8_state.specs.declared.State.{State}
use Rattle.percent_check.specs.declared.Checked.{Checked}
use Rattle.number.specs.declared.NumberError.{NumberError}
use Rattle.address.specs.declared.Kind.{Kind}
use Rattle.address.specs.declared.Address.{Address}
use Rattle.probe.specs.declared.Symbol.{Symbol}
use Rattle.probe.specs.declared.Lacking.{Lacking}
use Rattle.probe.specs.declared.Measured.{Measured}
use Rattle.probe.specs.declared.Unsigned.{Unsigned}
use Rattle.probe.specs.declared.Integer.{Integer}
use Rattle.probe.specs.declared.Located.{Located}

-- a character: its code point and its length
abbrev pub symbol : Char → Symbol
symbol c = record { code = c.code; len = c.len }

-- what a character still lacks
abbrev pub lacking : State → Lacking
lacking s = record { left = s.left; lo = s.lo; hi = s.hi }

-- and back
abbrev pub state_of : ℕ → ℕ → ℕ → State
state_of left lo hi = record { left = left; lo = lo; hi = hi }

-- the length of a decoded text, and whether it is UTF-8
abbrev pub measured : Checked → Measured
measured m = record { len = m.len; utf8 = m.utf8 }

abbrev pub unsigned : ℕ → ℕ → Unsigned
unsigned kind value = record { kind = kind; value = value }

abbrev pub integer : ℕ → ℤ → Integer
integer kind value = record { kind = kind; value = value }

-- a number that was read is kind 0, a fault of form kind 1, one of range kind 2
abbrev pub fault_kind : NumberError → ℕ
fault_kind NumberError.Form = 1
fault_kind NumberError.Range = 2

abbrev pub told : Result ℕ NumberError → Unsigned
told (Ok n) = unsigned 0 n
told (Err e) = unsigned (fault_kind e) 0

abbrev pub told_signed : Result ℤ NumberError → Integer
told_signed (Ok n) = integer 0 n
told_signed (Err e) = integer (fault_kind e) (pos 0)

abbrev pub located : ℕ → ℕ → ℕ → Located
located kind high low = record { kind = kind; high = high; low = low }

-- an IPv4 address is kind 4 and one number, an IPv6 address kind 6 and two
abbrev pub told_kind : Kind → Located
told_kind (Kind.V4 v) = located 4 0 v
told_kind (Kind.V6 h l) = located 6 h l

-- a text that is no address is kind 0
abbrev pub told_address : Option Address → Located
told_address (Some a) = told_kind a.kind
told_address None = located 0 0 0
