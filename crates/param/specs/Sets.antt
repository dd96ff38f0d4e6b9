-- One setting applied to a record.
-- Assumes nothing.
use Rattle.std.specs.Prelude.{◌≡◌, true, Result, ⊤}
use Rattle.lists.specs.declared.Fault.{Fault}
use Rattle.lists.specs.Fault.{is_fine}
use Rattle.config.specs.declared.Config.{Config}
use Rattle.apply.specs.Apply.{Applied}

-- the fault is the one that the setting has on the record before; with none, the record is the one after it
abbrev pub Sets : Result ⊤ Fault → Applied → Config → Type 0
Sets r a after = (r ≡ a.fault) × (is_fine a.fault ≡ true → after ≡ a.config)
