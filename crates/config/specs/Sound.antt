-- Which records a report takes: 17 is given where "the record given has a list count above 16, or a set text or counted host that lies outside the decode buffer".
-- Assumes nothing.
use Rattle.std.specs.Prelude.{ℕ, ◌-◌, Bool, true, ◌&&◌, List, [], ◌∷◌, leb, take, Option, Some, None}
use Rattle.lists.specs.declared.Place.{Place}
use Rattle.lists.specs.declared.HostKind.{HostKind}
use Rattle.lists.specs.declared.Host.{Host}
use Rattle.lists.specs.declared.Hosts.{Hosts}
use Rattle.config.specs.declared.Config.{Config}

-- no list count is above 16
unfoldable pub counted : Config → Bool
counted c = leb c.host.count 16 && leb c.hostaddr.count 16 && leb c.port.count 16

-- a place in a buffer of n bytes: its start is not above n, and its length not above what is left
unfoldable pub place_in : ℕ → Place → Bool
place_in n p = leb p.start n && leb p.len (n - p.start)

-- a set text lies inside; an unset one lies nowhere
unfoldable pub text_in : ℕ → Option Place → Bool
text_in n (Some p) = place_in n p
text_in n None = true

unfoldable pub kind_in : ℕ → HostKind → Bool
kind_in n (HostKind.Tcp p) = place_in n p
kind_in n (HostKind.Unix p) = place_in n p

unfoldable pub all_in : ℕ → List Host → Bool
all_in n [] = true
all_in n (h ∷ hs) = kind_in n h.kind && all_in n hs

-- the counted hosts lie inside
unfoldable pub hosts_in : ℕ → Hosts → Bool
hosts_in n h = all_in n (take h.count h.list)

unfoldable pub sound : ℕ → Config → Bool
sound n c =
    counted c && text_in n c.user && text_in n c.password && text_in n c.dbname && text_in n c.options && text_in n c.application_name && hosts_in n c.host
