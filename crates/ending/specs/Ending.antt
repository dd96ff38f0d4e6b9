-- How a reading ends: the three numbers that are handed back.
-- Assumes nothing.
use Rattle.std.specs.Prelude.{ℕ}
use Rattle.ending.specs.declared.Ending.{Ending}

abbrev pub ending : ℕ → ℕ → ℕ → Ending
ending number key count = record { number = number; key = key; count = count }
