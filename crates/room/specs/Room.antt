-- How many bytes the report of a record has at most, by the record's lengths and counts alone, counted in threes: an escaped byte takes three.
-- Assumes nothing.
use Rattle.std.specs.Prelude.{ℕ, ◌+◌, ◌*◌, ◌/◌, Bool, ◌&&◌, List, [], ◌∷◌, ltb, take, Option, Some, None}
use Rattle.lists.specs.declared.Place.{Place}
use Rattle.lists.specs.declared.HostKind.{HostKind}
use Rattle.lists.specs.declared.Host.{Host}
use Rattle.config.specs.declared.Config.{Config}
use Rattle.config.specs.Sound.{counted}

unfoldable pub text_threes : Option Place → ℕ
text_threes (Some p) = p.len
text_threes None = 0

unfoldable pub kind_len : HostKind → ℕ
kind_len (HostKind.Tcp p) = p.len
kind_len (HostKind.Unix p) = p.len

-- a host's line has `host=unix:` and its end besides the text: 11 bytes
unfoldable pub host_threes : List Host → ℕ
host_threes [] = 0
host_threes (h ∷ hs) = 4 + kind_len h.kind + host_threes hs

-- 381 bytes for what every report can have, 49 for an address, 26 for a port
unfoldable pub threes : Config → ℕ
threes c =
    127 + 17 * c.hostaddr.count + 9 * c.port.count + text_threes c.user + text_threes c.dbname + text_threes c.options + text_threes c.application_name + host_threes (take c.host.count c.host.list)

unfoldable pub surely_fits : ℕ → Config → Bool
surely_fits n c = counted c && ltb (threes c) (n / 3)
