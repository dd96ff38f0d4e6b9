-- The record that five rows of numbers stand for.
-- Assumes nothing.
use Rattle.std.specs.Prelude.{ℕ, ◌+◌, Bool, List, [], ◌∷◌, ltb, get_or, drop, Option, Some, None}
use Rattle.byte.specs.Byte.{pick}
use Rattle.address.specs.declared.Kind.{Kind}
use Rattle.address.specs.declared.Address.{Address}
use Rattle.lists.specs.declared.Place.{Place}
use Rattle.lists.specs.declared.HostKind.{HostKind}
use Rattle.lists.specs.declared.Host.{Host}
use Rattle.config.specs.declared.Config.{Config}
use Rattle.apply.specs.Apply.{ssl_mode_of, ssl_negotiation_of, target_session_attrs_of, channel_binding_of, load_balance_hosts_of}

-- a number that stands for yes or no: 0 is no
abbrev pub is_on : ℕ → Bool
is_on n = ltb 0 n

-- the row `fields`, three numbers a text (whether it is set, its start, its length) ..
abbrev pub text_at : List ℕ → ℕ → Option Place
text_at f at = pick (is_on (get_or f at 0)) (Some (record { start = get_or f (at + 1) 0; len = get_or f (at + 2) 0 })) None

-- .. and two a time
abbrev pub time_at : List ℕ → ℕ → Option ℕ
time_at f at = pick (is_on (get_or f at 0)) (Some (get_or f (at + 1) 0)) None

-- the row `hosts`, three numbers a host: 0 for TCP, its start, its length
abbrev pub host_at : ℕ → ℕ → ℕ → Host
host_at kind start len =
    pick (is_on kind) (record { kind = HostKind.Unix (record { start = start; len = len }) }) (record { kind = HostKind.Tcp (record { start = start; len = len }) })

unfoldable pub hosts_of : List ℕ → List Host
hosts_of (kind ∷ start ∷ len ∷ r) = host_at kind start len ∷ hosts_of r
hosts_of (kind ∷ start ∷ []) = []
hosts_of (kind ∷ []) = []
hosts_of [] = []

-- the row `sixes`, three numbers an address: 0 for IPv4, else the two halves of an IPv6 address; and the row `fours`, which has the IPv4 address
abbrev pub address_at : ℕ → ℕ → ℕ → ℕ → Address
address_at kind high low four = pick (is_on kind) (record { kind = Kind.V6 high low }) (record { kind = Kind.V4 four })

unfoldable pub addresses_of : List ℕ → List ℕ → List Address
addresses_of (kind ∷ high ∷ low ∷ r) (four ∷ q) = address_at kind high low four ∷ addresses_of r q
addresses_of (kind ∷ high ∷ low ∷ r) [] = []
addresses_of (kind ∷ high ∷ []) q = []
addresses_of (kind ∷ []) q = []
addresses_of [] q = []

-- the record: `fields` has the texts, the words by their numbers, the times and the lists' counts; `fours` begins with keepalives_retries
unfoldable pub config_of : List ℕ → List ℕ → List ℕ → List ℕ → List ℕ → Config
config_of f hosts sixes fours ports =
    record {
      user = text_at f 0;
      password = text_at f 3;
      dbname = text_at f 6;
      options = text_at f 9;
      application_name = text_at f 12;
      ssl_mode = ssl_mode_of (get_or f 15 0);
      ssl_negotiation = ssl_negotiation_of (get_or f 16 0);
      host = record { list = hosts_of hosts; count = get_or f 29 0 };
      hostaddr = record { list = addresses_of sixes (drop 1 fours); count = get_or f 30 0 };
      port = record { list = ports; count = get_or f 31 0 };
      connect_timeout = time_at f 20;
      tcp_user_timeout = time_at f 22;
      keepalives = is_on (get_or f 27 0);
      keepalives_idle = get_or f 26 0;
      keepalives_interval = time_at f 24;
      keepalives_retries = pick (is_on (get_or f 28 0)) (Some (get_or fours 0 0)) None;
      target_session_attrs = target_session_attrs_of (get_or f 17 0);
      channel_binding = channel_binding_of (get_or f 18 0);
      load_balance_hosts = load_balance_hosts_of (get_or f 19 0);
    }

-- the row `fields` of the default record; its other rows are zeros
unfoldable pub first_fields : List ℕ
first_fields = 0 ∷ 0 ∷ 0 ∷ 0 ∷ 0 ∷ 0 ∷ 0 ∷ 0 ∷ 0 ∷ 0 ∷ 0 ∷ 0 ∷ 0 ∷ 0 ∷ 0 ∷ 2 ∷ 1 ∷ 1 ∷ 2 ∷ 1 ∷ 0 ∷ 0 ∷ 0 ∷ 0 ∷ 0 ∷ 0 ∷ 7200 ∷ 1 ∷ 0 ∷ 0 ∷ 0 ∷ 0 ∷ []
