-- Hosts, addresses and ports: what a piece of each stands for, and the lists after a value's pieces.
-- Assumes nothing.
use Rattle.std.specs.Prelude.{ℕ, List, eqb, length, get_or, Option, Some, None, Result, Ok, Err, ⊤}
use Rattle.byte.specs.Byte.{pick}
use Rattle.number.specs.declared.NumberError.{NumberError}
use Rattle.number.specs.Number.{unsigned_of}
use Rattle.address.specs.declared.Address.{Address}
use Rattle.address.specs.Address.{address_of}
use Rattle.lists.specs.declared.Fault.{Fault}
use Rattle.lists.specs.declared.HostKind.{HostKind}
use Rattle.lists.specs.declared.Host.{Host}
use Rattle.lists.specs.declared.Hosts.{Hosts}
use Rattle.lists.specs.declared.Addresses.{Addresses}
use Rattle.lists.specs.declared.Ports.{Ports}
use Rattle.lists.specs.Fault.{fault_from}
use Rattle.lists.specs.Append.{Piece, good, bad, Slots, More, kept, append, append_all, listed}

-- "port is 0 to 65,535"; "An empty port piece is 5432."
abbrev pub port_read : Result ℕ NumberError → Piece ℕ
port_read (Ok n) = good n
port_read (Err e) = bad (fault_from e)

unfoldable pub port_piece : List ℕ → Piece ℕ
port_piece v = pick (eqb (length v) 0) (good 5432) (port_read (unsigned_of 65535 v))

-- the same as a number
unfoldable pub port_number : List ℕ → Result ℕ NumberError
port_number v = pick (eqb (length v) 0) (Ok 5432) (unsigned_of 65535 v)

abbrev pub address_read : Option Address → Piece Address
address_read (Some a) = good a
address_read None = bad Fault.NoAddress

unfoldable pub address_piece : List ℕ → Piece Address
address_piece v = address_read (address_of v)

-- "One host that starts with `/` after decoding is a Unix path .. any other is TCP"; its place is where it stands
unfoldable pub host_of : ℕ → ℕ → ℕ → Host
host_of first start len =
    pick (eqb first 47) (record { kind = HostKind.Unix (record { start = start; len = len }) }) (record { kind = HostKind.Tcp (record { start = start; len = len }) })

unfoldable pub host_piece : ℕ → List ℕ → Piece Host
host_piece start v = good (host_of (get_or v 0 0) start (length v))

-- a list after something was to be appended: whether that is refused, and the list then, which a refusal leaves as it was
pub record MorePorts : Type 0 where
  pub fault : Result ⊤ Fault
  pub ports : Ports

pub record MoreAddresses : Type 0 where
  pub fault : Result ⊤ Fault
  pub addresses : Addresses

pub record MoreHosts : Type 0 where
  pub fault : Result ⊤ Fault
  pub hosts : Hosts

-- the list, or why it is refused
abbrev or_fault : {A : Type 0} → Result ⊤ Fault → A → Result A Fault
or_fault (Ok x) a = Ok a
or_fault (Err f) a = Err f

abbrev pub ports_or_fault : MorePorts → Result Ports Fault
ports_or_fault m = or_fault m.fault m.ports

abbrev pub addresses_or_fault : MoreAddresses → Result Addresses Fault
addresses_or_fault m = or_fault m.fault m.addresses

-- the lists as places of any type, and back
abbrev pub port_slots : Ports → Slots ℕ
port_slots p = record { list = p.list; count = p.count }

abbrev pub more_ports : More ℕ → MorePorts
more_ports m = record { fault = m.fault; ports = record { list = m.slots.list; count = m.slots.count } }

abbrev pub address_slots : Addresses → Slots Address
address_slots a = record { list = a.list; count = a.count }

abbrev pub more_addresses : More Address → MoreAddresses
more_addresses m = record { fault = m.fault; addresses = record { list = m.slots.list; count = m.slots.count } }

abbrev pub host_slots : Hosts → Slots Host
host_slots h = record { list = h.list; count = h.count }

abbrev pub more_hosts : More Host → MoreHosts
more_hosts m = record { fault = m.fault; hosts = record { list = m.slots.list; count = m.slots.count } }

-- one element more
unfoldable pub port_kept : Ports → ℕ → MorePorts
port_kept p n = more_ports (kept Fault.ManyPorts (port_slots p) n)

unfoldable pub port_pushed : Ports → List ℕ → MorePorts
port_pushed p v = more_ports (append Fault.ManyPorts (port_slots p) (port_piece v))

unfoldable pub address_kept : Addresses → Address → MoreAddresses
address_kept a x = more_addresses (kept Fault.ManyHostaddrs (address_slots a) x)

unfoldable pub address_pushed : Addresses → List ℕ → MoreAddresses
address_pushed a v = more_addresses (append Fault.ManyHostaddrs (address_slots a) (address_piece v))

unfoldable pub host_pushed : Hosts → ℕ → List ℕ → MoreHosts
host_pushed h start v = more_hosts (append Fault.ManyHosts (host_slots h) (host_piece start v))

-- "host, hostaddr and port append. These three split at commas"; a host value stands in the buffer from the place start on
unfoldable pub ports_after : Ports → List ℕ → MorePorts
ports_after p v = more_ports (append_all Fault.ManyPorts (port_slots p) (listed (λ (at : ℕ). port_piece) 0 v))

unfoldable pub addresses_after : Addresses → List ℕ → MoreAddresses
addresses_after a v = more_addresses (append_all Fault.ManyHostaddrs (address_slots a) (listed (λ (at : ℕ). address_piece) 0 v))

unfoldable pub hosts_after : Hosts → ℕ → List ℕ → MoreHosts
hosts_after h start v = more_hosts (append_all Fault.ManyHosts (host_slots h) (listed host_piece start v))

-- "Key host gives one host, commas kept", and so does each chunk of a URI
unfoldable pub host_after : Hosts → ℕ → List ℕ → MoreHosts
host_after h start v = host_pushed h start v
