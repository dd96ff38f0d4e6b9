-- What a record shows, given the decode buffer that its places lie in: values, and no places.
-- Assumes nothing.
use Rattle.std.specs.Prelude.{ℕ, Bool, List, map, take, drop, Option, option_map}
use Rattle.address.specs.declared.Address.{Address}
use Rattle.lists.specs.declared.Place.{Place}
use Rattle.lists.specs.declared.HostKind.{HostKind}
use Rattle.lists.specs.declared.Host.{Host}
use Rattle.lists.specs.declared.Hosts.{Hosts}
use Rattle.lists.specs.declared.Addresses.{Addresses}
use Rattle.lists.specs.declared.Ports.{Ports}
use Rattle.config.specs.declared.SslMode.{SslMode}
use Rattle.config.specs.declared.SslNegotiation.{SslNegotiation}
use Rattle.config.specs.declared.TargetSessionAttrs.{TargetSessionAttrs}
use Rattle.config.specs.declared.ChannelBinding.{ChannelBinding}
use Rattle.config.specs.declared.LoadBalanceHosts.{LoadBalanceHosts}
use Rattle.config.specs.declared.Config.{Config}

-- a host: its kind and its bytes
pub data HostValue : Type 0 where
  tcp : List ℕ → HostValue
  unix : List ℕ → HostValue

pub record Values : Type 0 where
  pub user : Option (List ℕ)
  pub password : Option (List ℕ)
  pub dbname : Option (List ℕ)
  pub options : Option (List ℕ)
  pub application_name : Option (List ℕ)
  pub ssl_mode : SslMode
  pub ssl_negotiation : SslNegotiation
  pub host : List HostValue
  pub hostaddr : List Address
  pub port : List ℕ
  pub connect_timeout : Option ℕ
  pub tcp_user_timeout : Option ℕ
  pub keepalives : Bool
  pub keepalives_idle : ℕ
  pub keepalives_interval : Option ℕ
  pub keepalives_retries : Option ℕ
  pub target_session_attrs : TargetSessionAttrs
  pub channel_binding : ChannelBinding
  pub load_balance_hosts : LoadBalanceHosts

-- the bytes at a place
unfoldable pub place_shown : List ℕ → Place → List ℕ
place_shown b p = take p.len (drop p.start b)

abbrev pub text_shown : List ℕ → Option Place → Option (List ℕ)
text_shown b t = option_map (place_shown b) t

abbrev pub kind_shown : List ℕ → HostKind → HostValue
kind_shown b (HostKind.Tcp p) = tcp (place_shown b p)
kind_shown b (HostKind.Unix p) = unix (place_shown b p)

abbrev pub host_shown : List ℕ → Host → HostValue
host_shown b h = kind_shown b h.kind

-- the counted entries of a list
abbrev pub hosts_shown : List ℕ → Hosts → List HostValue
hosts_shown b h = map (host_shown b) (take h.count h.list)

abbrev pub addresses_shown : Addresses → List Address
addresses_shown a = take a.count a.list

abbrev pub ports_shown : Ports → List ℕ
ports_shown p = take p.count p.list

abbrev pub seconds_shown : Option ℕ → Option ℕ
seconds_shown s = s

abbrev pub retries_shown : Option ℕ → Option ℕ
retries_shown r = r

unfoldable pub shown : List ℕ → Config → Values
shown b c =
    record {
      user = text_shown b c.user;
      password = text_shown b c.password;
      dbname = text_shown b c.dbname;
      options = text_shown b c.options;
      application_name = text_shown b c.application_name;
      ssl_mode = c.ssl_mode;
      ssl_negotiation = c.ssl_negotiation;
      host = hosts_shown b c.host;
      hostaddr = addresses_shown c.hostaddr;
      port = ports_shown c.port;
      connect_timeout = seconds_shown c.connect_timeout;
      tcp_user_timeout = seconds_shown c.tcp_user_timeout;
      keepalives = c.keepalives;
      keepalives_idle = c.keepalives_idle;
      keepalives_interval = seconds_shown c.keepalives_interval;
      keepalives_retries = retries_shown c.keepalives_retries;
      target_session_attrs = c.target_session_attrs;
      channel_binding = c.channel_binding;
      load_balance_hosts = c.load_balance_hosts;
    }
