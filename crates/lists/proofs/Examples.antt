-- Values at the edges of the three lists: what each leaves of an empty list, or of a full one, by computation.
-- Assumes nothing.
use mathlib.Core.Path.{◌≡◌, refl}
use mathlib.Core.List.{List, [], ◌∷◌, map}
use Prim.Native.Nat.{ℕ}
use Prim.Native.String.{String}
use lib.ListN.{replicate, take}
use Rattle.byte.specs.Ascii.{bytes}
use Rattle.byte.specs.Byte.{between}
use Rattle.byte.specs.Digit.{digit_of}
use Rattle.byte.specs.Same.{same}
use Rattle.split.specs.Split.{split}
use Rattle.number.specs.Digits.{all_digits, value_in, value_from}
use Rattle.number.specs.Number.{digits_in, unsigned_of}
use Rattle.address.specs.declared.Kind.{Kind}
use Rattle.address.specs.declared.Address.{Address}
use Rattle.address.specs.Address as address
use Rattle.ipv4.specs.V4 as ipv4
use Rattle.lists.specs.declared.HostKind.{HostKind}
use Rattle.lists.specs.declared.Host.{Host}
use Rattle.lists.specs.declared.Hosts.{Hosts}
use Rattle.lists.specs.declared.Addresses.{Addresses}
use Rattle.lists.specs.declared.Ports.{Ports}
use Rattle.lists.specs.Fault.{number_of}
use Rattle.lists.specs.Append.{append_from, pieces_from, listed}
use Rattle.lists.specs.Lists.{MoreHosts, MoreAddresses, MorePorts, port_piece, address_piece, host_of, host_piece, ports_after, addresses_after, hosts_after, host_pushed, host_after}

-- how many ports there are already (each 1), a value, the number that it gives, and the ports then
abbrev ports : List (ℕ × String × ℕ × List ℕ)
ports =
    (0, "65535", 0, 65535 ∷ [])
    ∷ (0, "65536", 5, [])
    ∷ (0, "+5432,", 0, 5432 ∷ 5432 ∷ [])
    ∷ (0, "", 0, 5432 ∷ [])
    ∷ (0, "7,08", 0, 7 ∷ 8 ∷ [])
    ∷ (1, "2,x,3", 5, 1 ∷ [])
    ∷ (0, "1,2,3,4,5,6,7,8,9,10,11,12,13,14,15,16,17", 15, [])
    ∷ (16, "2", 15, replicate 16 1)
    ∷ (16, "x", 5, replicate 16 1)
    ∷ (17, "2", 15, replicate 16 1)
    ∷ []

abbrev ports_at : ℕ → Ports
ports_at n = record { list = replicate 16 1; count = n }

abbrev ports_then : MorePorts → ℕ × List ℕ
ports_then m = (number_of m.fault, take m.ports.count m.ports.list)

-- a value of hostaddr on an empty list, and the addresses then
abbrev four : ℕ → Address
four n = record { kind = Kind.V4 n }

abbrev six : ℕ → ℕ → Address
six high low = record { kind = Kind.V6 high low }

abbrev addresses : List (String × ℕ × List Address)
addresses =
    ("::1,1.2.3.4", 0, six 0 1 ∷ four 0x1020304 ∷ [])
    ∷ ("::1,01.2.3.4", 5, [])
    ∷ ("", 5, [])
    ∷ ("::1,", 5, [])
    ∷ ("::,::,::,::,::,::,::,::,::,::,::,::,::,::,::,::,x", 5, [])
    ∷ ("::,::,::,::,::,::,::,::,::,::,::,::,::,::,::,::,::", 14, [])
    ∷ []

abbrev no_addresses : Addresses
no_addresses = record { list = replicate 16 (four 0); count = 0 }

abbrev addresses_then : MoreAddresses → ℕ × List Address
addresses_then m = (number_of m.fault, take m.addresses.count m.addresses.list)

-- a value of host that stands from the place 10 on, and the hosts then
abbrev tcp : ℕ → ℕ → Host
tcp start len = record { kind = HostKind.Tcp (record { start = start; len = len }) }

abbrev unix : ℕ → ℕ → Host
unix start len = record { kind = HostKind.Unix (record { start = start; len = len }) }

abbrev hosts : List (ℕ × String × ℕ × List Host)
hosts =
    (0, "db1,/run/pg", 0, tcp 10 3 ∷ unix 14 7 ∷ [])
    ∷ (0, "", 0, tcp 10 0 ∷ [])
    ∷ (0, ",[x", 0, tcp 10 0 ∷ tcp 11 2 ∷ [])
    ∷ (0, ",,,,,,,,,,,,,,,,", 13, [])
    ∷ (16, "[x", 13, replicate 16 (tcp 0 0))
    ∷ []

abbrev hosts_at : ℕ → Hosts
hosts_at n = record { list = replicate 16 (tcp 0 0); count = n }

abbrev hosts_then : MoreHosts → ℕ × List Host
hosts_then m = (number_of m.fault, take m.hosts.count m.hosts.list)

-- one host from a URI, which keeps its commas
abbrev one_host : List (ℕ × String × ℕ × List Host)
one_host =
    (0, "a,b", 0, tcp 10 3 ∷ [])
    ∷ (0, "/a,b", 0, unix 10 4 ∷ [])
    ∷ (0, "", 0, tcp 10 0 ∷ [])
    ∷ (16, "", 13, replicate 16 (tcp 0 0))
    ∷ []

pub port-examples : map (λ (r : ℕ × String × ℕ × List ℕ). ports_then (ports_after (ports_at r.0) (bytes r.1))) ports ≡ map (λ (r : ℕ × String × ℕ × List ℕ). (r.2, r.3)) ports
unfolding ports_after append_from pieces_from listed port_piece split unsigned_of digits_in all_digits value_in value_from digit_of between
port-examples = refl

pub address-examples : map (λ (r : String × ℕ × List Address). addresses_then (addresses_after no_addresses (bytes r.0))) addresses ≡ map (λ (r : String × ℕ × List Address). (r.1, r.2)) addresses
unfolding addresses_after append_from pieces_from listed address_piece address.address_of ipv4.v4_of ipv4.parts_of ipv4.part_of address.v6_of address.gap_at address.side_of address.groups_of address.group_of address.quad split digits_in all_digits value_in value_from digit_of between same
address-examples = refl

pub host-examples :
    (map (λ (r : ℕ × String × ℕ × List Host). hosts_then (hosts_after (hosts_at r.0) 10 (bytes r.1))) hosts ≡ map (λ (r : ℕ × String × ℕ × List Host). (r.2, r.3)) hosts)
    × (map (λ (r : ℕ × String × ℕ × List Host). hosts_then (host_after (hosts_at r.0) 10 (bytes r.1))) one_host ≡ map (λ (r : ℕ × String × ℕ × List Host). (r.2, r.3)) one_host)
unfolding hosts_after host_after host_pushed append_from pieces_from listed host_piece host_of split
host-examples = (refl, refl)
