-- Settings given in order to what the default record shows, by computation: an example, and refusals.
-- Assumes nothing.
use Prim.Native.Nat.{ℕ}
use Prim.Native.String.{String}
use mathlib.Core.Path.{◌≡◌, refl}
use mathlib.Core.Bool.{true}
use mathlib.Core.List.{List, [], ◌∷◌, map}
use Rattle.std.specs.Prelude.{Option, Some, None}
use Rattle.byte.specs.Ascii.{bytes}
use Rattle.byte.specs.Byte.{between}
use Rattle.byte.specs.Digit.{digit_of}
use Rattle.byte.specs.Same.{same}
use Rattle.names.specs.Names.{words_of}
use Rattle.names.specs.Find.{among, number_in, key_number, word_number}
use Rattle.split.specs.Split.{split}
use Rattle.number.specs.Digits.{all_digits, value_in, value_from}
use Rattle.number.specs.Number.{digits_in, unsigned_of}
use Rattle.integer.specs.Integer.{signed_of}
use Rattle.lists.specs.Lists.{port_piece}
use Rattle.config.specs.declared.SslMode.{SslMode}
use Rattle.config.specs.declared.SslNegotiation.{SslNegotiation}
use Rattle.config.specs.declared.TargetSessionAttrs.{TargetSessionAttrs}
use Rattle.config.specs.declared.ChannelBinding.{ChannelBinding}
use Rattle.config.specs.declared.LoadBalanceHosts.{LoadBalanceHosts}
use Rattle.config.specs.Config.{defaults}
use Rattle.config.specs.Values.{Values, HostValue, tcp, unix, shown}
use Rattle.setting.specs.Setting.{Setting, keyed, one_host, kind_of, value_of}
use Rattle.apply.specs.Apply.{seconds_in}
use Rattle.view.specs.Given.{list_refused, entries_of, host_value, refused, given, Told, plain, tell_refusal, told}
use Rattle.view.specs.Hidden.{hidden, hidden_told}

abbrev key : String → String → Setting
key k v = keyed (bytes k) (bytes v)

-- what is shown with a user, a password, hosts, ports and a connect timeout, and the defaults else
abbrev showing : Option (List ℕ) → Option (List ℕ) → List HostValue → List ℕ → Option ℕ → Values
showing user password hosts ports timeout =
    record {
      user = user;
      password = password;
      dbname = None;
      options = None;
      application_name = None;
      ssl_mode = SslMode.Prefer;
      ssl_negotiation = SslNegotiation.Postgres;
      host = hosts;
      hostaddr = [];
      port = ports;
      connect_timeout = timeout;
      tcp_user_timeout = None;
      keepalives = true;
      keepalives_idle = 7200;
      keepalives_interval = None;
      keepalives_retries = None;
      target_session_attrs = TargetSessionAttrs.Any;
      channel_binding = ChannelBinding.Prefer;
      load_balance_hosts = LoadBalanceHosts.Disable;
    }

abbrev accepted : ℕ → Values → Told
accepted n w = record { number = 0; key = 0; count = n; values = w }

-- settings, with what is told of them but the password's value
abbrev table : List (List Setting × Told)
table =
    ([], accepted 0 (showing None None [] [] None))
    ∷ (
      key "host" "db1,/run/pg" ∷ key "user" "ann" ∷ key "password" "a b" ∷ key "port" "6000," ∷ [],
      accepted 4 (showing (Some (bytes "ann")) (Some []) (tcp (bytes "db1") ∷ unix (bytes "/run/pg") ∷ []) (6000 ∷ 5432 ∷ []) None),
    )
    ∷ (
      one_host (bytes "a,b") ∷ key "connect_timeout" "5" ∷ key "connect_timeout" "0" ∷ key "user" "" ∷ key "user" "x" ∷ [],
      accepted 5 (showing (Some (bytes "x")) None (tcp (bytes "a,b") ∷ []) [] (Some 5)),
    )
    ∷ (key "user" "a" ∷ key "port" "1,65536" ∷ key "username" "a" ∷ [], tell_refusal 5 10 1)
    ∷ (key "sslmode" "Prefer" ∷ [], tell_refusal 5 6 0)
    ∷ (key "host" ",,,,,,,,,,,,,,," ∷ one_host [] ∷ [], tell_refusal 13 0 1)
    ∷ (key "port" ",,,,,,,,,,,,,,," ∷ key "port" "x" ∷ [], tell_refusal 5 10 1)
    ∷ []

pub examples : map (λ (r : List Setting × Told). hidden_told (told plain 0 r.0 0)) table ≡ map (λ (r : List Setting × Told). hidden_told r.1) table
unfolding defaults shown hidden told given refused list_refused entries_of host_value kind_of value_of key_number word_number number_in among same words_of split port_piece seconds_in signed_of unsigned_of digits_in all_digits value_in value_from digit_of between
examples = refl
