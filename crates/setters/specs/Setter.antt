-- The setters of numbers and words: one definition for all thirteen, by the key of the setting.
-- Assumes nothing.
use Rattle.std.specs.Prelude.{ℕ, Bool, false, eqb, Some, Result, Ok, Err, ⊤}
use Rattle.byte.specs.Byte.{pick}
use Rattle.address.specs.declared.Kind.{Kind}
use Rattle.address.specs.declared.Address.{Address}
use Rattle.lists.specs.declared.Fault.{Fault}
use Rattle.lists.specs.Fault.{fault_number, number_of}
use Rattle.lists.specs.Lists.{port_kept, address_kept}
use Rattle.config.specs.declared.SslMode.{SslMode}
use Rattle.config.specs.declared.SslNegotiation.{SslNegotiation}
use Rattle.config.specs.declared.TargetSessionAttrs.{TargetSessionAttrs}
use Rattle.config.specs.declared.ChannelBinding.{ChannelBinding}
use Rattle.config.specs.declared.LoadBalanceHosts.{LoadBalanceHosts}
use Rattle.config.specs.declared.Config.{Config}
use Rattle.config.specs.Sound.{counted}
use Rattle.setters.specs.declared.Answer.{Answer}

-- what a setter is given: each key looks at one part of it, and at no other
pub record Value : Type 0 where
  pub mode : SslMode
  pub negotiation : SslNegotiation
  pub target : TargetSessionAttrs
  pub binding : ChannelBinding
  pub balance : LoadBalanceHosts
  pub address : Address
  pub number : ℕ
  pub switch : Bool

-- a value of one part; the others are as good as any
abbrev nowhere : Address
nowhere = record { kind = Kind.V4 0 }

abbrev parts : SslMode → SslNegotiation → TargetSessionAttrs → ChannelBinding → LoadBalanceHosts → Address → ℕ → Bool → Value
parts m s t b l a n k =
    record { mode = m; negotiation = s; target = t; binding = b; balance = l; address = a; number = n; switch = k }

abbrev pub mode : SslMode → Value
mode m = parts m SslNegotiation.Postgres TargetSessionAttrs.Any ChannelBinding.Prefer LoadBalanceHosts.Disable nowhere 0 false

abbrev pub negotiation : SslNegotiation → Value
negotiation s = parts SslMode.Prefer s TargetSessionAttrs.Any ChannelBinding.Prefer LoadBalanceHosts.Disable nowhere 0 false

abbrev pub target : TargetSessionAttrs → Value
target t = parts SslMode.Prefer SslNegotiation.Postgres t ChannelBinding.Prefer LoadBalanceHosts.Disable nowhere 0 false

abbrev pub binding : ChannelBinding → Value
binding b = parts SslMode.Prefer SslNegotiation.Postgres TargetSessionAttrs.Any b LoadBalanceHosts.Disable nowhere 0 false

abbrev pub balance : LoadBalanceHosts → Value
balance l = parts SslMode.Prefer SslNegotiation.Postgres TargetSessionAttrs.Any ChannelBinding.Prefer l nowhere 0 false

abbrev pub address : Address → Value
address a = parts SslMode.Prefer SslNegotiation.Postgres TargetSessionAttrs.Any ChannelBinding.Prefer LoadBalanceHosts.Disable a 0 false

abbrev pub number : ℕ → Value
number n = parts SslMode.Prefer SslNegotiation.Postgres TargetSessionAttrs.Any ChannelBinding.Prefer LoadBalanceHosts.Disable nowhere n false

abbrev pub switch : Bool → Value
switch k = parts SslMode.Prefer SslNegotiation.Postgres TargetSessionAttrs.Any ChannelBinding.Prefer LoadBalanceHosts.Disable nowhere 0 k

-- hostaddr and port append, where there is room; every other setter has room
unfoldable pub room : ℕ → Value → Config → Result ⊤ Fault
room key v c =
    pick (eqb key 9) (address_kept c.hostaddr v.address).fault (pick (eqb key 10) (port_kept c.port v.number).fault (Ok tt))

-- "Any list count above 16 gives every setter 17, then a 17th port or hostaddr 15 or 14"
unfoldable pub refusal : ℕ → Value → Config → ℕ
refusal key v c = pick (counted c) (number_of (room key v c)) 17

-- the record with a setting changed: each field, and the key that changes it. "Seconds are 0 to 2^64 - 1": zero is stored, unlike zero in a text.
unfoldable pub changed : ℕ → Value → Config → Config
changed key v c =
    record {
      user = c.user;
      password = c.password;
      dbname = c.dbname;
      options = c.options;
      application_name = c.application_name;
      ssl_mode = pick (eqb key 6) v.mode c.ssl_mode;
      ssl_negotiation = pick (eqb key 7) v.negotiation c.ssl_negotiation;
      host = c.host;
      hostaddr = pick (eqb key 9) (address_kept c.hostaddr v.address).addresses c.hostaddr;
      port = pick (eqb key 10) (port_kept c.port v.number).ports c.port;
      connect_timeout = pick (eqb key 11) (Some v.number) c.connect_timeout;
      tcp_user_timeout = pick (eqb key 12) (Some v.number) c.tcp_user_timeout;
      keepalives = pick (eqb key 13) v.switch c.keepalives;
      keepalives_idle = pick (eqb key 14) v.number c.keepalives_idle;
      keepalives_interval = pick (eqb key 15) (Some v.number) c.keepalives_interval;
      keepalives_retries = pick (eqb key 16) (Some v.number) c.keepalives_retries;
      target_session_attrs = pick (eqb key 17) v.target c.target_session_attrs;
      channel_binding = pick (eqb key 18) v.binding c.channel_binding;
      load_balance_hosts = pick (eqb key 19) v.balance c.load_balance_hosts;
    }

-- the whole answer; on a refusal "the record unchanged"
unfoldable pub set : ℕ → Value → Config → Answer
set key v c = record { number = refusal key v c; config = pick (eqb (refusal key v c) 0) (changed key v c) c }

-- what becomes of the record where it has room, or why it has none
abbrev pub made : Result ⊤ Fault → Config → Result Config Fault
made (Ok x) next = Ok next
made (Err f) next = Err f

-- an answer, by what was made of the record
abbrev pub settled : Result Config Fault → Config → Answer
settled (Ok next) c = record { number = 0; config = next }
settled (Err f) c = record { number = fault_number f; config = c }

unfoldable pub answer_of : Result Config Fault → Config → Answer
answer_of r c = pick (counted c) (settled r c) (record { number = 17; config = c })
