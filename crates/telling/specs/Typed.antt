-- What the types of a record say of its numbers.
-- Assumes nothing.
use Rattle.std.specs.Prelude.{ℕ, ◌^◌, ◌<◌}
use Rattle.config.specs.declared.Config.{Config}
use Rattle.config.specs.Values.{addresses_shown, ports_shown}
use Rattle.telling.specs.Bound.{All, Maybe}
use Rattle.telling.specs.Ranged.{Small, SmallAddresses}

pub record Typed (c : Config) : Type 0 where
  pub hostaddr : SmallAddresses (addresses_shown c.hostaddr)
  pub port : All (λ (n : ℕ). n < 2 ^ 16) (ports_shown c.port)
  pub connect : Maybe Small c.connect_timeout
  pub user-time : Maybe Small c.tcp_user_timeout
  pub idle : Small c.keepalives_idle
  pub interval : Maybe Small c.keepalives_interval
  pub retries : Maybe (λ (n : ℕ). n < 2 ^ 32) c.keepalives_retries
