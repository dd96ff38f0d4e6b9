-- What a port's piece is, told from what is read of it.
-- Assumes nothing.
use Prim.Native.Nat.{ℕ}
use mathlib.Core.Path.{◌≡◌, refl}
use mathlib.Core.Bool.{Bool, true, false}
use mathlib.Core.List.{List}
use lib.ListN.{length}
use lib.Dec.{eqb}
use Rattle.std.specs.Prelude.{Ok}
use Rattle.byte.specs.Byte.{pick}
use Rattle.number.specs.Number.{unsigned_of}
use Rattle.lists.specs.Append.{good}
use Rattle.lists.specs.Lists.{port_read, port_piece, port_number}

pub port-number : (v : List ℕ) → port_read (port_number v) ≡ port_piece v
unfolding port_number port_piece
port-number v = by (eqb (length v) 0)
  where
    by : (t : Bool) → port_read (pick t (Ok 5432) (unsigned_of 65535 v)) ≡ pick t (good 5432) (port_read (unsigned_of 65535 v))
    by true = refl
    by false = refl
