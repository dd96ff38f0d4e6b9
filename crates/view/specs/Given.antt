-- One setting on what is shown: whether its value is refused, and what is shown then. No place stands here.
-- Assumes nothing.
use Rattle.std.specs.Prelude.{ℕ, ◌+◌, ◌-◌, ◌^◌, List, [], ◌∷◌, ◌++◌, map, eqb, ltb, length, get_or, Option, Some, Result, Ok, Err, ⊤}
use Rattle.byte.specs.Byte.{pick}
use Rattle.names.specs.Find.{word_number}
use Rattle.number.specs.declared.NumberError.{NumberError}
use Rattle.number.specs.Number.{unsigned_of}
use Rattle.split.specs.Split.{split}
use Rattle.address.specs.declared.Address.{Address}
use Rattle.lists.specs.declared.Fault.{Fault}
use Rattle.lists.specs.Fault.{is_fine, number_of, key_of}
use Rattle.lists.specs.Append.{Piece, good, bad}
use Rattle.lists.specs.Lists.{port_piece, address_piece}
use Rattle.config.specs.Config.{defaults}
use Rattle.config.specs.Values.{Values, HostValue, tcp, unix, shown}
use Rattle.setting.specs.Setting.{Setting, kind_of, value_of}
use Rattle.apply.specs.Apply.{ssl_mode_of, ssl_negotiation_of, target_session_attrs_of, channel_binding_of, load_balance_hosts_of, word_fault, number_fault, seconds_in, time_after, retries_after, idle_after, keepalives_after}

-- "These three split at commas, pieces left to right; a piece's form and range are judged before room for it": the first fault, where n entries stand already
unfoldable pub list_refused : {A : Type 0} → Fault → ℕ → List (Piece A) → Result ⊤ Fault
list_refused full n [] = Ok tt
list_refused full n (good a ∷ ps) = pick (ltb n 16) (list_refused full (n + 1) ps) (Err full)
list_refused full n (bad f ∷ ps) = Err f

-- "host, hostaddr and port append": the entries that the pieces stand for
unfoldable pub entries_of : {A : Type 0} → List (Piece A) → List A
entries_of [] = []
entries_of (good a ∷ ps) = a ∷ entries_of ps
entries_of (bad f ∷ ps) = entries_of ps

-- "One host that starts with `/` after decoding is a Unix path .. any other is TCP"
unfoldable pub host_value : List ℕ → HostValue
host_value v = pick (eqb (get_or v 0 0) 47) (unix v) (tcp v)

abbrev pub host_pieces : List ℕ → List (Piece HostValue)
host_pieces v = map (λ (w : List ℕ). good (host_value w)) (split 44 v)

abbrev pub one_host_piece : List ℕ → List (Piece HostValue)
one_host_piece v = good (host_value v) ∷ []

abbrev pub address_pieces : List ℕ → List (Piece Address)
address_pieces v = map address_piece (split 44 v)

abbrev pub port_pieces : List ℕ → List (Piece ℕ)
port_pieces v = map port_piece (split 44 v)

-- "a timeout of zero or below is accepted and leaves the field as it stands"
abbrev pub time_given : Option ℕ → Result ℕ NumberError → Option ℕ
time_given old read = time_after old read

abbrev pub retries_given : Option ℕ → Result ℕ NumberError → Option ℕ
retries_given old read = retries_after old read

-- for each kind from 0 (an unknown key) to 20 (one host from a URI): what is wrong with the value
abbrev pub refusals : List ℕ → Values → List (Result ⊤ Fault)
refusals v w =
    Err Fault.UnknownKey ∷
    Ok tt ∷
    Ok tt ∷
    Ok tt ∷
    Ok tt ∷
    Ok tt ∷
    word_fault (word_number 6 v) ∷
    word_fault (word_number 7 v) ∷
    list_refused Fault.ManyHosts (length w.host) (host_pieces v) ∷
    list_refused Fault.ManyHostaddrs (length w.hostaddr) (address_pieces v) ∷
    list_refused Fault.ManyPorts (length w.port) (port_pieces v) ∷
    number_fault (seconds_in v) ∷
    number_fault (seconds_in v) ∷
    number_fault (unsigned_of (2 ^ 64 - 1) v) ∷
    number_fault (seconds_in v) ∷
    number_fault (seconds_in v) ∷
    number_fault (unsigned_of (2 ^ 32 - 1) v) ∷
    word_fault (word_number 17 v) ∷
    word_fault (word_number 18 v) ∷
    word_fault (word_number 19 v) ∷
    list_refused Fault.ManyHosts (length w.host) (one_host_piece v) ∷
    []

unfoldable pub refused : ℕ → List ℕ → Values → Result ⊤ Fault
refused kind v w = get_or (refusals v w) kind (Err Fault.UnknownKey)

-- what is shown after a setting that is not refused: "A repeated key replaces; host, hostaddr and port append."
unfoldable pub given : ℕ → List ℕ → Values → Values
given kind v w =
    record {
      user = pick (eqb kind 1) (Some v) w.user;
      password = pick (eqb kind 2) (Some v) w.password;
      dbname = pick (eqb kind 3) (Some v) w.dbname;
      options = pick (eqb kind 4) (Some v) w.options;
      application_name = pick (eqb kind 5) (Some v) w.application_name;
      ssl_mode = pick (eqb kind 6) (ssl_mode_of (word_number 6 v)) w.ssl_mode;
      ssl_negotiation = pick (eqb kind 7) (ssl_negotiation_of (word_number 7 v)) w.ssl_negotiation;
      host = pick (eqb kind 8) (w.host ++ entries_of (host_pieces v)) (pick (eqb kind 20) (w.host ++ entries_of (one_host_piece v)) w.host);
      hostaddr = pick (eqb kind 9) (w.hostaddr ++ entries_of (address_pieces v)) w.hostaddr;
      port = pick (eqb kind 10) (w.port ++ entries_of (port_pieces v)) w.port;
      connect_timeout = pick (eqb kind 11) (time_given w.connect_timeout (seconds_in v)) w.connect_timeout;
      tcp_user_timeout = pick (eqb kind 12) (time_given w.tcp_user_timeout (seconds_in v)) w.tcp_user_timeout;
      keepalives = pick (eqb kind 13) (keepalives_after w.keepalives (unsigned_of (2 ^ 64 - 1) v)) w.keepalives;
      keepalives_idle = pick (eqb kind 14) (idle_after w.keepalives_idle (seconds_in v)) w.keepalives_idle;
      keepalives_interval = pick (eqb kind 15) (time_given w.keepalives_interval (seconds_in v)) w.keepalives_interval;
      keepalives_retries = pick (eqb kind 16) (retries_given w.keepalives_retries (unsigned_of (2 ^ 32 - 1) v)) w.keepalives_retries;
      target_session_attrs = pick (eqb kind 17) (target_session_attrs_of (word_number 17 v)) w.target_session_attrs;
      channel_binding = pick (eqb kind 18) (channel_binding_of (word_number 18 v)) w.channel_binding;
      load_balance_hosts = pick (eqb kind 19) (load_balance_hosts_of (word_number 19 v)) w.load_balance_hosts;
    }

-- what a reading tells: a number, a key and a count, and what is shown then
pub record Told : Type 0 where
  pub number : ℕ
  pub key : ℕ
  pub count : ℕ
  pub values : Values

-- what the default record shows
abbrev pub plain : Values
plain = shown [] defaults

abbrev pub tell_refusal : ℕ → ℕ → ℕ → Told
tell_refusal number key count = record { number = number; key = key; count = count; values = plain }

abbrev pub tell_end : Values → ℕ → ℕ → Told
tell_end w n end = pick (eqb end 0) (record { number = 0; key = 0; count = n; values = w }) (tell_refusal end 0 n)

-- "Settings are applied in order. The first that can't be applied decides; if all can, the end decides."
unfoldable pub told : Values → ℕ → List Setting → ℕ → Told
told w n [] end = tell_end w n end
told w n (s ∷ ss) end =
    pick (is_fine (refused (kind_of s) (value_of s) w))
    (told (given (kind_of s) (value_of s) w) (n + 1) ss end)
    (tell_refusal (number_of (refused (kind_of s) (value_of s) w)) (key_of (refused (kind_of s) (value_of s) w) (kind_of s)) n)
