-- How long a report can be: 1,507 bytes and three for each byte of the texts that it shows.
-- Assumes nothing.
use Prim.Native.Nat.{ℕ, ◌+◌, ◌*◌, ◌^◌, ◌<◌, ◌≤◌}
use mathlib.Core.Path.{ap}
use mathlib.Core.Bool.{true, false}
use mathlib.Core.List.{List, [], ◌∷◌, map}
use Rattle.std.specs.Prelude.{Option, Some, None}
use native.Mathlib.Omega.{arith}
use lib.ListN.{length}
use Rattle.names.specs.Names.{key_name}
use Rattle.escape.specs.Escape.{text_value}
use Rattle.draw.proofs.Escape.{text-size}
use Rattle.line.specs.Line.{number_value, lines}
use Rattle.line.proofs.Lines.{lines-size-none, lines-size-cons}
use Rattle.line.proofs.Values.{number-joined, digits-most}
use Rattle.field.specs.Field.{mode_number, negotiation_number, target_number, binding_number, balance_number, optional, named_host}
use Rattle.config.specs.Values.{HostValue, tcp, unix, Values}
use Rattle.report.specs.Report.{values, report}
use Rattle.report.proofs.Most.{size, one_size, secret-most, seconds-most, idle-most, switch-most, word-most, mode-most, negotiation-most, target-most, binding-most, balance-most, host-most, addresses-most, total, total-is}
use Rattle.telling.specs.Bound.{text_bytes, name_bytes, host_bytes, shown_bytes, All, Maybe, Sized}

-- what may be unset
module _ (key : ℕ) where
  text-most : (t : Option (List ℕ)) → size (lines key (optional text_value t)) ≤ length (key_name key) + 2 + 3 * text_bytes t
  text-most None = omega (arith, lines-size-none key)
  text-most (Some x) = one_size key (text_value x) (3 * length x) (text-size x)

  retries-most : (t : Option ℕ) → Maybe (λ (n : ℕ). n < 2 ^ 32) t → size (lines key (optional number_value t)) ≤ length (key_name key) + 12
  retries-most None h = omega (arith, lines-size-none key)
  retries-most (Some n) h = omega (arith, one_size key (number_value n) 10 (omega (arith, ap length (number-joined n), digits-most 9 n (omega arith) (omega arith))))

-- the lists
name-most : (h : HostValue) → size (named_host h) ≤ 5 + 3 * name_bytes h
name-most (tcp x) = host-most false x
name-most (unix x) = host-most true x

hosts-most : (hs : List HostValue) → size (lines 8 (map named_host hs)) ≤ (length (key_name 8) + 7) * length hs + 3 * host_bytes hs
unfolding host_bytes key_name
hosts-most [] = omega (arith, lines-size-none 8)
hosts-most (h ∷ hs) = omega (arith, lines-size-cons 8 (named_host h) (map named_host hs), name-most h, hosts-most hs)

ports-most : (ps : List ℕ) → All (λ (n : ℕ). n < 2 ^ 16) ps → size (lines 10 (map number_value ps)) ≤ (length (key_name 10) + 7) * length ps
unfolding key_name
ports-most [] h = omega (arith, lines-size-none 10)
ports-most (p ∷ ps) h =
    omega (arith, lines-size-cons 10 (number_value p) (map number_value ps), ap length (number-joined p), digits-most 4 p (omega (arith, h.0)) (omega (arith, h.0)), ports-most ps h.1)

pub report-most : (v : Values) → Sized v → length (report v) ≤ 1507 + 3 * shown_bytes v
unfolding report values total key_name shown_bytes
report-most v s =
    omega (
      arith,
      total-is 1 (values v),
      text-most 1 v.user,
      secret-most 2 v.password,
      text-most 3 v.dbname,
      text-most 4 v.options,
      text-most 5 v.application_name,
      word-most 6 (mode_number v.ssl_mode) 7 (mode-most v.ssl_mode),
      word-most 7 (negotiation_number v.ssl_negotiation) 8 (negotiation-most v.ssl_negotiation),
      hosts-most v.host,
      addresses-most v.hostaddr,
      ports-most v.port s.port,
      seconds-most 11 v.connect_timeout,
      seconds-most 12 v.tcp_user_timeout,
      switch-most 13 v.keepalives,
      idle-most 14 v.keepalives_idle,
      seconds-most 15 v.keepalives_interval,
      retries-most 16 v.keepalives_retries s.retries,
      word-most 17 (target_number v.target_session_attrs) 10 (target-most v.target_session_attrs),
      word-most 18 (binding_number v.channel_binding) 7 (binding-most v.channel_binding),
      word-most 19 (balance_number v.load_balance_hosts) 7 (balance-most v.load_balance_hosts),
      s.hosts,
      s.addresses,
      s.ports,
    )

-- texts of at most 4,096 bytes together
pub report-bound : (v : Values) → Sized v → shown_bytes v ≤ 4096 → length (report v) ≤ 13795
report-bound v s h = omega (arith, report-most v s)
