-- Which kind of setting a key of a URI gives.
-- Assumes nothing.
use Rattle.std.specs.Prelude.{ℕ, List}
use Rattle.byte.specs.Ascii.{bytes}
use Rattle.byte.specs.Byte.{pick}
use Rattle.byte.specs.Same.{same}
use Rattle.name_table.specs.Find.{key_number}
use Rattle.utf8.specs.Utf8.{well_formed}

-- the kind that a key gives: one host from a URI is 20
unfoldable pub param_kind : List ℕ → ℕ
param_kind k = pick (same k (bytes "host")) 20 (key_number k)

-- and 21 for a key that is not UTF-8
unfoldable pub key_kind : List ℕ → ℕ
key_kind k = pick (well_formed k) (param_kind k) 21
