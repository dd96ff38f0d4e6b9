-- The record that the first rows stand for is the default one.
-- Assumes nothing.
use Prim.Native.Nat.{ℕ}
use mathlib.Core.Path.{◌≡◌, refl}
use mathlib.Core.List.{List}
use lib.ListN.{replicate}
use Rattle.config.specs.Config.{defaults}
use Rattle.rows.specs.Rows.{hosts_of, addresses_of, config_of, first_fields}

first_rows : config_of first_fields (replicate 48 0) (replicate 48 0) (replicate 17 0) (replicate 16 0) ≡ defaults
unfolding config_of hosts_of addresses_of first_fields defaults
first_rows = refl

pub first-is : (f : List ℕ) → f ≡ first_fields → config_of f (replicate 48 0) (replicate 48 0) (replicate 17 0) (replicate 16 0) ≡ defaults
first-is f e = rw e first_rows
