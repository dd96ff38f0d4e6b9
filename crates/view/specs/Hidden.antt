-- What is left of the values shown, and of settings, without a password's value.
-- Assumes nothing.
use Rattle.std.specs.Prelude.{ℕ, List, [], eqb, Option, Some, None}
use Rattle.byte.specs.Byte.{pick}
use Rattle.names.specs.Find.{key_number}
use Rattle.config.specs.Values.{Values}
use Rattle.setting.specs.Setting.{Setting, keyed, one_host}
use Rattle.view.specs.Given.{Told}

-- "the password only in being set or not"
abbrev pub only_set : Option (List ℕ) → Option (List ℕ)
only_set None = None
only_set (Some v) = Some []

-- "every setting shown but the password"
unfoldable pub hidden : Values → Values
hidden w =
    record {
      user = w.user;
      password = only_set w.password;
      dbname = w.dbname;
      options = w.options;
      application_name = w.application_name;
      ssl_mode = w.ssl_mode;
      ssl_negotiation = w.ssl_negotiation;
      host = w.host;
      hostaddr = w.hostaddr;
      port = w.port;
      connect_timeout = w.connect_timeout;
      tcp_user_timeout = w.tcp_user_timeout;
      keepalives = w.keepalives;
      keepalives_idle = w.keepalives_idle;
      keepalives_interval = w.keepalives_interval;
      keepalives_retries = w.keepalives_retries;
      target_session_attrs = w.target_session_attrs;
      channel_binding = w.channel_binding;
      load_balance_hosts = w.load_balance_hosts;
    }

abbrev pub hidden_told : Told → Told
hidden_told t = record { number = t.number; key = t.key; count = t.count; values = hidden t.values }

-- a value of some kind, empty where it is a password's (key 2)
abbrev pub veil_value : ℕ → List ℕ → List ℕ
veil_value kind v = pick (eqb kind 2) [] v

-- a setting without the value that it sets under password
unfoldable pub veil : Setting → Setting
veil (keyed key v) = keyed key (veil_value (key_number key) v)
veil (one_host v) = one_host v
