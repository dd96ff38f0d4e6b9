-- What a field of a record reads as in the report.
-- Assumes nothing.
use Rattle.std.specs.Prelude.{ℕ, Bool, true, false, List, [], ◌∷◌, Option, Some, None}
use Rattle.byte.specs.Byte.{pick}
use Rattle.line.specs.Line.{host_value, number_value}
use Rattle.config.specs.declared.SslMode.{SslMode}
use Rattle.config.specs.declared.SslNegotiation.{SslNegotiation}
use Rattle.config.specs.declared.TargetSessionAttrs.{TargetSessionAttrs}
use Rattle.config.specs.declared.ChannelBinding.{ChannelBinding}
use Rattle.config.specs.declared.LoadBalanceHosts.{LoadBalanceHosts}
use Rattle.config.specs.Values.{HostValue, tcp, unix}

-- the number of each word among those of its key: sslmode (disable, prefer, require),
abbrev pub mode_number : SslMode → ℕ
mode_number SslMode.Disable = 1
mode_number SslMode.Prefer = 2
mode_number SslMode.Require = 3

-- sslnegotiation (postgres, direct),
abbrev pub negotiation_number : SslNegotiation → ℕ
negotiation_number SslNegotiation.Postgres = 1
negotiation_number SslNegotiation.Direct = 2

-- target_session_attrs (any, read-write, read-only),
abbrev pub target_number : TargetSessionAttrs → ℕ
target_number TargetSessionAttrs.Any = 1
target_number TargetSessionAttrs.ReadWrite = 2
target_number TargetSessionAttrs.ReadOnly = 3

-- channel_binding (disable, prefer, require),
abbrev pub binding_number : ChannelBinding → ℕ
binding_number ChannelBinding.Disable = 1
binding_number ChannelBinding.Prefer = 2
binding_number ChannelBinding.Require = 3

-- load_balance_hosts (disable, random)
abbrev pub balance_number : LoadBalanceHosts → ℕ
balance_number LoadBalanceHosts.Disable = 1
balance_number LoadBalanceHosts.Random = 2

-- what may be unset: no value, or one
abbrev pub optional : {A : Type 0} → (A → List (List ℕ)) → Option A → List (List (List ℕ))
optional f None = []
optional f (Some x) = f x ∷ []

abbrev pub named_host : HostValue → List (List ℕ)
named_host (tcp x) = host_value false x
named_host (unix x) = host_value true x

-- "keepalives 0 or 1"
abbrev pub switch_value : Bool → List (List ℕ)
switch_value on = number_value (pick on 1 0)
