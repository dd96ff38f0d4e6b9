-- The default record.
-- Assumes nothing.
use Rattle.std.specs.Prelude.{ℕ, true, replicate, Option, None}
use Rattle.address.specs.declared.Kind.{Kind}
use Rattle.lists.specs.declared.Place.{Place}
use Rattle.lists.specs.declared.HostKind.{HostKind}
use Rattle.config.specs.declared.SslMode.{SslMode}
use Rattle.config.specs.declared.SslNegotiation.{SslNegotiation}
use Rattle.config.specs.declared.TargetSessionAttrs.{TargetSessionAttrs}
use Rattle.config.specs.declared.ChannelBinding.{ChannelBinding}
use Rattle.config.specs.declared.LoadBalanceHosts.{LoadBalanceHosts}
use Rattle.config.specs.declared.Config.{Config}

-- unused places are zero, unused hosts TCP, unused addresses 0.0.0.0
abbrev pub nowhere : Place
nowhere = record { start = 0; len = 0 }

abbrev pub unset : Option Place
unset = None

abbrev pub never : Option ℕ
never = None

-- sslmode prefer, sslnegotiation postgres, keepalives on, idle 7200, target any, channel binding prefer, load balancing disable; all else unset or empty
unfoldable pub defaults : Config
defaults =
    record {
      user = unset;
      password = unset;
      dbname = unset;
      options = unset;
      application_name = unset;
      ssl_mode = SslMode.Prefer;
      ssl_negotiation = SslNegotiation.Postgres;
      host = record { list = replicate 16 (record { kind = HostKind.Tcp nowhere }); count = 0 };
      hostaddr = record { list = replicate 16 (record { kind = Kind.V4 0 }); count = 0 };
      port = record { list = replicate 16 0; count = 0 };
      connect_timeout = never;
      tcp_user_timeout = never;
      keepalives = true;
      keepalives_idle = 7200;
      keepalives_interval = never;
      keepalives_retries = never;
      target_session_attrs = TargetSessionAttrs.Any;
      channel_binding = ChannelBinding.Prefer;
      load_balance_hosts = LoadBalanceHosts.Disable;
    }
