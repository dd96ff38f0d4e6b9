-- The values that a record of numbers and bytes shows.
-- Assumes nothing.
use Rattle.std.specs.Prelude.{ℕ, ◌^◌, ◌<◌, List, [], ◌∷◌}
use Rattle.address.specs.declared.Kind.{Kind}
use Rattle.address.specs.declared.Address.{Address}
use Rattle.config.specs.Values.{HostValue, tcp, unix, Values}
use Rattle.telling.specs.Bound.{All, Maybe}

-- bytes, and numbers of 64 bits
abbrev pub Bytes : List ℕ → Type 0
Bytes x = All (λ (b : ℕ). b < 256) x

abbrev pub Small : ℕ → Type 0
Small n = n < 2 ^ 64

abbrev pub NamedBytes : HostValue → Type 0
NamedBytes (tcp x) = Bytes x
NamedBytes (unix x) = Bytes x

abbrev pub HostsBytes : List HostValue → Type 0
HostsBytes [] = Unit {0}
HostsBytes (h ∷ hs) = NamedBytes h × HostsBytes hs

abbrev pub SmallKind : Kind → Type 0
SmallKind (Kind.V4 n) = n < 2 ^ 32
SmallKind (Kind.V6 high low) = Small high × Small low

abbrev pub SmallAddresses : List Address → Type 0
SmallAddresses [] = Unit {0}
SmallAddresses (a ∷ l) = SmallKind a.kind × SmallAddresses l

-- what the types of a record say of the values that it shows (bytes below 256, numbers of at most 64 bits, addresses of 32 and 128); nothing is asked of the password
pub record Ranged (v : Values) : Type 0 where
  pub user : Maybe Bytes v.user
  pub dbname : Maybe Bytes v.dbname
  pub options : Maybe Bytes v.options
  pub name : Maybe Bytes v.application_name
  pub host : HostsBytes v.host
  pub hostaddr : SmallAddresses v.hostaddr
  pub port : All Small v.port
  pub connect : Maybe Small v.connect_timeout
  pub user-time : Maybe Small v.tcp_user_timeout
  pub idle : Small v.keepalives_idle
  pub interval : Maybe Small v.keepalives_interval
  pub retries : Maybe Small v.keepalives_retries
