-- One setting applied to a record: its kind (1 to 19 its key, 20 one host from a URI), its value, and the place of the buffer from which the value stands.
-- Assumes nothing.
use Rattle.std.specs.Prelude.{ℕ, ◌-◌, ◌^◌, Bool, List, [], ◌∷◌, eqb, ltb, ℤ, pos, negsuc, length, get_or, Option, Some, Result, Ok, Err, ⊤}
use Rattle.byte.specs.Byte.{pick}
use Rattle.names.specs.Find.{word_number}
use Rattle.number.specs.declared.NumberError.{NumberError}
use Rattle.number.specs.Number.{unsigned_of}
use Rattle.integer.specs.Integer.{signed_of}
use Rattle.lists.specs.declared.Place.{Place}
use Rattle.lists.specs.declared.Fault.{Fault}
use Rattle.lists.specs.Fault.{is_fine, fault_from}
use Rattle.lists.specs.Lists.{host_after, hosts_after, addresses_after, ports_after}
use Rattle.config.specs.declared.SslMode.{SslMode}
use Rattle.config.specs.declared.SslNegotiation.{SslNegotiation}
use Rattle.config.specs.declared.TargetSessionAttrs.{TargetSessionAttrs}
use Rattle.config.specs.declared.ChannelBinding.{ChannelBinding}
use Rattle.config.specs.declared.LoadBalanceHosts.{LoadBalanceHosts}
use Rattle.config.specs.declared.Config.{Config}

-- whether a setting is refused, and the record after it
pub record Applied : Type 0 where
  pub fault : Result ⊤ Fault
  pub config : Config

-- a text that is set, where it stands
abbrev pub text : ℕ → List ℕ → Option Place
text start v = Some (record { start = start; len = length v })

-- the words of each key, by the number that `word_number` gives: "sslmode (disable, prefer, require), sslnegotiation (postgres, direct)"
abbrev pub ssl_mode_of : ℕ → SslMode
ssl_mode_of n = pick (eqb n 1) SslMode.Disable (pick (eqb n 2) SslMode.Prefer SslMode.Require)

abbrev pub ssl_negotiation_of : ℕ → SslNegotiation
ssl_negotiation_of n = pick (eqb n 1) SslNegotiation.Postgres SslNegotiation.Direct

-- "target_session_attrs (any, read-write, read-only), channel_binding (disable, prefer, require), load_balance_hosts (disable, random)"
abbrev pub target_session_attrs_of : ℕ → TargetSessionAttrs
target_session_attrs_of n =
    pick (eqb n 1) TargetSessionAttrs.Any (pick (eqb n 2) TargetSessionAttrs.ReadWrite TargetSessionAttrs.ReadOnly)

abbrev pub channel_binding_of : ℕ → ChannelBinding
channel_binding_of n = pick (eqb n 1) ChannelBinding.Disable (pick (eqb n 2) ChannelBinding.Prefer ChannelBinding.Require)

abbrev pub load_balance_hosts_of : ℕ → LoadBalanceHosts
load_balance_hosts_of n = pick (eqb n 1) LoadBalanceHosts.Disable LoadBalanceHosts.Random

-- a word is refused where the key has no such word
abbrev pub word_fault : ℕ → Result ⊤ Fault
word_fault n = pick (eqb n 0) (Err Fault.Word) (Ok tt)

abbrev pub number_fault : Result ℕ NumberError → Result ⊤ Fault
number_fault (Ok n) = Ok tt
number_fault (Err e) = Err (fault_from e)

-- "The two timeouts, idle and interval are signed 64-bit": their seconds, 0 for zero or below
abbrev pub seconds_of : ℤ → ℕ
seconds_of (pos n) = n
seconds_of (negsuc n) = 0

abbrev pub seconds_read : Result ℤ NumberError → Result ℕ NumberError
seconds_read (Ok t) = Ok (seconds_of t)
seconds_read (Err e) = Err e

unfoldable pub seconds_in : List ℕ → Result ℕ NumberError
seconds_in v = seconds_read (signed_of v)

-- "a timeout of zero or below is accepted and leaves the field as it stands, and so with idle and interval"
abbrev pub time_of : Option ℕ → ℕ → Option ℕ
time_of old n = pick (eqb n 0) old (Some n)

abbrev pub time_after : Option ℕ → Result ℕ NumberError → Option ℕ
time_after old (Ok n) = time_of old n
time_after old (Err e) = old

abbrev pub idle_after : ℕ → Result ℕ NumberError → ℕ
idle_after old (Ok n) = pick (eqb n 0) old n
idle_after old (Err e) = old

-- "keepalives 0 to 2^64 - 1 (zero is off), retries 0 to 2^32 - 1"
abbrev pub keepalives_after : Bool → Result ℕ NumberError → Bool
keepalives_after old (Ok n) = ltb 0 n
keepalives_after old (Err e) = old

abbrev pub retries_after : Option ℕ → Result ℕ NumberError → Option ℕ
retries_after old (Ok n) = Some n
retries_after old (Err e) = old

-- why a setting is refused, or that it is not: an entry for each kind
abbrev pub faults : List ℕ → ℕ → Config → List (Result ⊤ Fault)
faults v start c =
    Err Fault.UnknownKey ∷
    Ok tt ∷
    Ok tt ∷
    Ok tt ∷
    Ok tt ∷
    Ok tt ∷
    word_fault (word_number 6 v) ∷
    word_fault (word_number 7 v) ∷
    (hosts_after c.host start v).fault ∷
    (addresses_after c.hostaddr v).fault ∷
    (ports_after c.port v).fault ∷
    number_fault (seconds_in v) ∷
    number_fault (seconds_in v) ∷
    number_fault (unsigned_of (2 ^ 64 - 1) v) ∷
    number_fault (seconds_in v) ∷
    number_fault (seconds_in v) ∷
    number_fault (unsigned_of (2 ^ 32 - 1) v) ∷
    word_fault (word_number 17 v) ∷
    word_fault (word_number 18 v) ∷
    word_fault (word_number 19 v) ∷
    (host_after c.host start v).fault ∷
    []

unfoldable pub fault_of : ℕ → List ℕ → ℕ → Config → Result ⊤ Fault
fault_of kind v start c = get_or (faults v start c) kind (Err Fault.UnknownKey)

-- the record after a setting that is not refused: each field, and the kind that changes it. "A repeated key replaces; host, hostaddr and port append."
unfoldable pub after : ℕ → List ℕ → ℕ → Config → Config
after kind v start c =
    record {
      user = pick (eqb kind 1) (text start v) c.user;
      password = pick (eqb kind 2) (text start v) c.password;
      dbname = pick (eqb kind 3) (text start v) c.dbname;
      options = pick (eqb kind 4) (text start v) c.options;
      application_name = pick (eqb kind 5) (text start v) c.application_name;
      ssl_mode = pick (eqb kind 6) (ssl_mode_of (word_number 6 v)) c.ssl_mode;
      ssl_negotiation = pick (eqb kind 7) (ssl_negotiation_of (word_number 7 v)) c.ssl_negotiation;
      host = pick (eqb kind 8) (hosts_after c.host start v).hosts (pick (eqb kind 20) (host_after c.host start v).hosts c.host);
      hostaddr = pick (eqb kind 9) (addresses_after c.hostaddr v).addresses c.hostaddr;
      port = pick (eqb kind 10) (ports_after c.port v).ports c.port;
      connect_timeout = pick (eqb kind 11) (time_after c.connect_timeout (seconds_in v)) c.connect_timeout;
      tcp_user_timeout = pick (eqb kind 12) (time_after c.tcp_user_timeout (seconds_in v)) c.tcp_user_timeout;
      keepalives = pick (eqb kind 13) (keepalives_after c.keepalives (unsigned_of (2 ^ 64 - 1) v)) c.keepalives;
      keepalives_idle = pick (eqb kind 14) (idle_after c.keepalives_idle (seconds_in v)) c.keepalives_idle;
      keepalives_interval = pick (eqb kind 15) (time_after c.keepalives_interval (seconds_in v)) c.keepalives_interval;
      keepalives_retries = pick (eqb kind 16) (retries_after c.keepalives_retries (unsigned_of (2 ^ 32 - 1) v)) c.keepalives_retries;
      target_session_attrs = pick (eqb kind 17) (target_session_attrs_of (word_number 17 v)) c.target_session_attrs;
      channel_binding = pick (eqb kind 18) (channel_binding_of (word_number 18 v)) c.channel_binding;
      load_balance_hosts = pick (eqb kind 19) (load_balance_hosts_of (word_number 19 v)) c.load_balance_hosts;
    }

-- on a refusal the record that comes back is the one that went in
unfoldable pub applied : ℕ → List ℕ → ℕ → Config → Applied
applied kind v start c =
    record { fault = fault_of kind v start c; config = pick (is_fine (fault_of kind v start c)) (after kind v start c) c }
