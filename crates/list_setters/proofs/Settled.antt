-- A list with one more entry, or as it was where it is full: what a setter that appends makes of the record.
-- Assumes nothing.
use Rattle.std.proofs.Common.{◌≡◌, ◌∙◌, ℕ, Bool, true, false, List, refl, ap}
use lib.Dec.{eqb, ltb}
use Rattle.std.specs.Prelude.{Result, Ok, Err, ⊤}
use Rattle.byte.specs.Byte.{pick}
use Rattle.address.specs.declared.Address.{Address}
use Rattle.lists.specs.declared.Fault.{Fault}
use Rattle.lists.specs.declared.Addresses.{Addresses}
use Rattle.lists.specs.declared.Ports.{Ports}
use Rattle.lists.specs.Append.{Slots, slots, pushed, kept}
use Rattle.lists.specs.Fault.{number_of}
use Rattle.lists.specs.Lists.{port_kept, address_kept}
use Rattle.config.specs.declared.Config.{Config}
use Rattle.setters.specs.declared.Answer.{Answer}
use Rattle.setters.specs.Setter.{room, changed, set, number, address}
use Rattle.setters.proofs.Answers.{begun, settled_set}

-- the record with another list of ports
abbrev with_port : Config → Ports → Config
with_port c q = record { user = c.user; password = c.password; dbname = c.dbname; options = c.options; application_name = c.application_name; ssl_mode = c.ssl_mode; ssl_negotiation = c.ssl_negotiation; host = c.host; hostaddr = c.hostaddr; port = q; connect_timeout = c.connect_timeout; tcp_user_timeout = c.tcp_user_timeout; keepalives = c.keepalives; keepalives_idle = c.keepalives_idle; keepalives_interval = c.keepalives_interval; keepalives_retries = c.keepalives_retries; target_session_attrs = c.target_session_attrs; channel_binding = c.channel_binding; load_balance_hosts = c.load_balance_hosts }

port_by : (c : Config) (x : ℕ) (r : Result ⊤ Fault) (l : List ℕ) (n m : ℕ) (t : Bool) → ltb c.port.count 16 ≡ t
    → r ≡ (kept Fault.ManyPorts (slots c.port.list c.port.count) x).fault
    → slots l n ≡ (kept Fault.ManyPorts (slots c.port.list c.port.count) x).slots
    → m ≡ number_of r
    → (m ≡ number_of (room 10 (number x) c)) × (with_port c (record { list = l; count = n }) ≡ pick (eqb m 0) (changed 10 (number x) c) c)
unfolding room changed port_kept
port_by c x r l n m true u f s k =
    let fine : r ≡ Ok tt = rw u at f in
    let now : slots l n ≡ pushed (slots c.port.list c.port.count) x = rw u at s in
    let zero : m ≡ 0 = k ∙ ap number_of fine in
    (rw (zero, u), rw (zero, u, ap (λ (z : Slots ℕ). z.list) now, ap (λ (z : Slots ℕ). z.count) now))
port_by c x r l n m false u f s k =
    let full : r ≡ Err Fault.ManyPorts = rw u at f in
    let now : slots l n ≡ slots c.port.list c.port.count = rw u at s in
    let told : m ≡ number_of (Err Fault.ManyPorts) = k ∙ ap number_of full in
    (rw (told, u), rw (told, ap (λ (z : Slots ℕ). z.list) now, ap (λ (z : Slots ℕ). z.count) now))

pub port_settled : (c : Config) (x : ℕ) (a : Answer) → a ≡ begun c → a.number ≡ 0 → (r : Result ⊤ Fault) (l : List ℕ) (n m : ℕ)
    → r ≡ (kept Fault.ManyPorts (slots a.config.port.list a.config.port.count) x).fault
    → slots l n ≡ (kept Fault.ManyPorts (slots a.config.port.list a.config.port.count) x).slots
    → m ≡ number_of r
    → record { number = m; config = with_port a.config (record { list = l; count = n }) } ≡ set 10 (number x) c
port_settled c x a e h r l n m f s k =
    let d : a.config ≡ c = ap (λ (z : Answer). z.config) e in
    let b = port_by c x r l n m (ltb c.port.count 16) refl (rw d at f) (rw d at s) k in
    settled_set 10 (number x) c a e h m (with_port a.config (record { list = l; count = n })) b.0 (rw d b.1)

-- the record with another list of addresses
abbrev with_hostaddr : Config → Addresses → Config
with_hostaddr c q = record { user = c.user; password = c.password; dbname = c.dbname; options = c.options; application_name = c.application_name; ssl_mode = c.ssl_mode; ssl_negotiation = c.ssl_negotiation; host = c.host; hostaddr = q; port = c.port; connect_timeout = c.connect_timeout; tcp_user_timeout = c.tcp_user_timeout; keepalives = c.keepalives; keepalives_idle = c.keepalives_idle; keepalives_interval = c.keepalives_interval; keepalives_retries = c.keepalives_retries; target_session_attrs = c.target_session_attrs; channel_binding = c.channel_binding; load_balance_hosts = c.load_balance_hosts }

hostaddr_by : (c : Config) (x : Address) (r : Result ⊤ Fault) (l : List Address) (n m : ℕ) (t : Bool) → ltb c.hostaddr.count 16 ≡ t
    → r ≡ (kept Fault.ManyHostaddrs (slots c.hostaddr.list c.hostaddr.count) x).fault
    → slots l n ≡ (kept Fault.ManyHostaddrs (slots c.hostaddr.list c.hostaddr.count) x).slots
    → m ≡ number_of r
    → (m ≡ number_of (room 9 (address x) c)) × (with_hostaddr c (record { list = l; count = n }) ≡ pick (eqb m 0) (changed 9 (address x) c) c)
unfolding room changed address_kept
hostaddr_by c x r l n m true u f s k =
    let fine : r ≡ Ok tt = rw u at f in
    let now : slots l n ≡ pushed (slots c.hostaddr.list c.hostaddr.count) x = rw u at s in
    let zero : m ≡ 0 = k ∙ ap number_of fine in
    (rw (zero, u), rw (zero, u, ap (λ (z : Slots Address). z.list) now, ap (λ (z : Slots Address). z.count) now))
hostaddr_by c x r l n m false u f s k =
    let full : r ≡ Err Fault.ManyHostaddrs = rw u at f in
    let now : slots l n ≡ slots c.hostaddr.list c.hostaddr.count = rw u at s in
    let told : m ≡ number_of (Err Fault.ManyHostaddrs) = k ∙ ap number_of full in
    (rw (told, u), rw (told, ap (λ (z : Slots Address). z.list) now, ap (λ (z : Slots Address). z.count) now))

pub hostaddr_settled : (c : Config) (x : Address) (a : Answer) → a ≡ begun c → a.number ≡ 0 → (r : Result ⊤ Fault) (l : List Address) (n m : ℕ)
    → r ≡ (kept Fault.ManyHostaddrs (slots a.config.hostaddr.list a.config.hostaddr.count) x).fault
    → slots l n ≡ (kept Fault.ManyHostaddrs (slots a.config.hostaddr.list a.config.hostaddr.count) x).slots
    → m ≡ number_of r
    → record { number = m; config = with_hostaddr a.config (record { list = l; count = n }) } ≡ set 9 (address x) c
hostaddr_settled c x a e h r l n m f s k =
    let d : a.config ≡ c = ap (λ (z : Answer). z.config) e in
    let b = hostaddr_by c x r l n m (ltb c.hostaddr.count 16) refl (rw d at f) (rw d at s) k in
    settled_set 9 (address x) c a e h m (with_hostaddr a.config (record { list = l; count = n })) b.0 (rw d b.1)
