-- Setters worked out by computation: zero is stored, lists grow at their end, and the numbers at the edges of the counts.
-- Assumes nothing.
use Prim.Native.Nat.{ℕ}
use mathlib.Core.Path.{◌≡◌, refl}
use mathlib.Core.Bool.{true}
use mathlib.Core.List.{List, [], ◌∷◌}
use Rattle.std.specs.Prelude.{Some}
use Rattle.address.specs.declared.Kind.{Kind}
use Rattle.address.specs.declared.Address.{Address}
use Rattle.lists.specs.Lists.{port_kept, address_kept}
use Rattle.config.specs.declared.Config.{Config}
use Rattle.config.specs.Config.{defaults}
use Rattle.config.specs.Sound.{counted}
use Rattle.config.specs.Values.{shown}
use Rattle.setters.specs.Setter.{address, number, switch, room, refusal, changed, set}

-- "Zero through a setter is stored, unlike zero in a text"
pub zero-timeout : (shown [] (set 11 (number 0) defaults).config).connect_timeout ≡ Some 0
unfolding set refusal room changed counted defaults shown
zero-timeout = refl

pub zero-idle : (shown [] (set 14 (number 0) defaults).config).keepalives_idle ≡ 0
unfolding set refusal room changed counted defaults shown
zero-idle = refl

pub two-ports : (shown [] (set 10 (number 7) (set 10 (number 6) defaults).config).config).port ≡ 6 ∷ 7 ∷ []
unfolding set refusal room changed counted defaults shown port_kept
two-ports = refl

-- the default record with other counts
abbrev with-counts : ℕ → ℕ → ℕ → Config
with-counts hosts addresses ports =
    record {
      user = defaults.user;
      password = defaults.password;
      dbname = defaults.dbname;
      options = defaults.options;
      application_name = defaults.application_name;
      ssl_mode = defaults.ssl_mode;
      ssl_negotiation = defaults.ssl_negotiation;
      host = record { list = defaults.host.list; count = hosts };
      hostaddr = record { list = defaults.hostaddr.list; count = addresses };
      port = record { list = defaults.port.list; count = ports };
      connect_timeout = defaults.connect_timeout;
      tcp_user_timeout = defaults.tcp_user_timeout;
      keepalives = defaults.keepalives;
      keepalives_idle = defaults.keepalives_idle;
      keepalives_interval = defaults.keepalives_interval;
      keepalives_retries = defaults.keepalives_retries;
      target_session_attrs = defaults.target_session_attrs;
      channel_binding = defaults.channel_binding;
      load_balance_hosts = defaults.load_balance_hosts;
    }

abbrev loopback : Address
loopback = record { kind = Kind.V6 0 1 }

-- a port, an address and a switch set, for counts of hosts, addresses and ports: their numbers
abbrev three : Config → List ℕ
three c = (set 10 (number 1) c).number ∷ (set 9 (address loopback) c).number ∷ (set 13 (switch true) c).number ∷ []

abbrev table : List (List ℕ)
table =
    three (with-counts 0 0 0) ∷
    three (with-counts 16 15 15) ∷
    three (with-counts 0 0 16) ∷
    three (with-counts 0 16 0) ∷
    three (with-counts 16 16 16) ∷
    three (with-counts 17 0 0) ∷
    three (with-counts 0 17 16) ∷
    three (with-counts 0 16 17) ∷
    []

pub numbers : table
    ≡ (0 ∷ 0 ∷ 0 ∷ []) ∷ (0 ∷ 0 ∷ 0 ∷ []) ∷ (15 ∷ 0 ∷ 0 ∷ []) ∷ (0 ∷ 14 ∷ 0 ∷ []) ∷ (15 ∷ 14 ∷ 0 ∷ []) ∷ (17 ∷ 17 ∷ 17 ∷ []) ∷ (17 ∷ 17 ∷ 17 ∷ []) ∷ (17 ∷ 17 ∷ 17 ∷ []) ∷ []
unfolding set refusal room counted port_kept address_kept
numbers = refl
