-- A setter that is not refused, on what is shown: no place and no count stands here.
-- Assumes nothing.
use Rattle.std.specs.Prelude.{ℕ, [], ◌∷◌, ◌++◌, eqb, Some}
use Rattle.byte.specs.Byte.{pick}
use Rattle.config.specs.Values.{Values}
use Rattle.setters.specs.Setter.{Value}

-- the new value under its key, behind the old ones where the key is a list; every other setting as it was
unfoldable pub set_shown : ℕ → Value → Values → Values
set_shown key v w =
    record {
      user = w.user;
      password = w.password;
      dbname = w.dbname;
      options = w.options;
      application_name = w.application_name;
      ssl_mode = pick (eqb key 6) v.mode w.ssl_mode;
      ssl_negotiation = pick (eqb key 7) v.negotiation w.ssl_negotiation;
      host = w.host;
      hostaddr = pick (eqb key 9) (w.hostaddr ++ (v.address ∷ [])) w.hostaddr;
      port = pick (eqb key 10) (w.port ++ (v.number ∷ [])) w.port;
      connect_timeout = pick (eqb key 11) (Some v.number) w.connect_timeout;
      tcp_user_timeout = pick (eqb key 12) (Some v.number) w.tcp_user_timeout;
      keepalives = pick (eqb key 13) v.switch w.keepalives;
      keepalives_idle = pick (eqb key 14) v.number w.keepalives_idle;
      keepalives_interval = pick (eqb key 15) (Some v.number) w.keepalives_interval;
      keepalives_retries = pick (eqb key 16) (Some v.number) w.keepalives_retries;
      target_session_attrs = pick (eqb key 17) v.target w.target_session_attrs;
      channel_binding = pick (eqb key 18) v.binding w.channel_binding;
      load_balance_hosts = pick (eqb key 19) v.balance w.load_balance_hosts;
    }
