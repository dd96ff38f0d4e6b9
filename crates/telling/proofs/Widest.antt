-- The bound is met, so none is smaller: values whose texts have 4,096 bytes and whose report has 13,795.
-- Assumes nothing.
use Prim.Native.Nat.{ℕ, zero, suc, ◌+◌, ◌*◌, ◌-◌, ◌^◌}
use mathlib.Core.Path.{◌≡◌, refl, ap, ◌∙◌}
use mathlib.Core.Bool.{true}
use mathlib.Core.List.{List, [], ◌∷◌}
use Rattle.std.specs.Prelude.{Some}
use native.Mathlib.Omega.{arith}
use lib.ListN.{length, replicate, drop, length-replicate, length-append}
use Rattle.byte.specs.Byte.{between}
use Rattle.names.specs.Names.{key_name, word_name, words_of}
use Rattle.decimal.specs.Decimal.{digit_byte, fixed_digits, decimal_by, decimal}
use Rattle.address.specs.declared.Kind.{Kind}
use Rattle.draw.specs.Parts.{joined}
use Rattle.escape.specs.Escape.{escape, text_value}
use Rattle.draw.proofs.Escape.{text-none, text-cons}
use Rattle.line.specs.Line.{secret_value, word_value, host_value, number_value, four_value, quad_value, kind_value, line, lines, lines_from}
use Rattle.line.proofs.Lines.{lines-size-none, lines-size-cons, from-size-cons}
use Rattle.config.specs.declared.SslMode.{SslMode}
use Rattle.config.specs.declared.SslNegotiation.{SslNegotiation}
use Rattle.config.specs.declared.TargetSessionAttrs.{TargetSessionAttrs}
use Rattle.config.specs.declared.ChannelBinding.{ChannelBinding}
use Rattle.config.specs.declared.LoadBalanceHosts.{LoadBalanceHosts}
use Rattle.config.specs.Values.{unix, Values}
use Rattle.report.specs.Report.{values, report}
use Rattle.telling.specs.Bound.{host_bytes, shown_bytes, Sized}

-- every line there is, each as long as it can be, but for the user's text
pub widest : List ℕ → Values
widest x =
    record {
      user = Some x;
      password = Some [];
      dbname = Some [];
      options = Some [];
      application_name = Some [];
      ssl_mode = SslMode.Require;
      ssl_negotiation = SslNegotiation.Postgres;
      host = replicate 16 (unix []);
      hostaddr = replicate 16 (record { kind = Kind.V6 0 0 });
      port = replicate 16 65535;
      connect_timeout = Some (2 ^ 64 - 1);
      tcp_user_timeout = Some (2 ^ 64 - 1);
      keepalives = true;
      keepalives_idle = 2 ^ 64 - 1;
      keepalives_interval = Some (2 ^ 64 - 1);
      keepalives_retries = Some (2 ^ 32 - 1);
      target_session_attrs = TargetSessionAttrs.ReadWrite;
      channel_binding = ChannelBinding.Require;
      load_balance_hosts = LoadBalanceHosts.Disable;
    }

others : (x : List ℕ) → length (joined (lines_from 2 (drop 1 (values (widest x))))) ≡ 1501
unfolding widest values lines_from lines line joined key_name word_name words_of text_value secret_value word_value host_value number_value four_value quad_value kind_value escape between decimal decimal_by fixed_digits digit_byte
others x = refl

first : (x : List ℕ) → length (report (widest x)) ≡ length (joined (lines 1 (text_value x ∷ []))) + length (joined (lines_from 2 (drop 1 (values (widest x)))))
unfolding widest values report
first x = from-size-cons 1 (text_value x ∷ []) (drop 1 (values (widest x)))

user-key : length (key_name 1) ≡ 4
unfolding key_name
user-key = refl

nul-long : length (escape 0) ≡ 3
unfolding escape between fixed_digits digit_byte
nul-long = refl

-- bytes that are escaped take three each
nuls-long : (n : ℕ) → length (joined (text_value (replicate n 0))) ≡ 3 * n
nuls-long zero = ap length text-none
nuls-long (suc n) = ap length (text-cons 0 (replicate n 0)) ∙ length-append (escape 0) (joined (text_value (replicate n 0))) ∙ omega (arith, nul-long, nuls-long n)

pub bound-met : length (report (widest (replicate 4096 0))) ≡ 13795
bound-met =
    let x : List ℕ = replicate 4096 0 in
    first x ∙ omega (arith, lines-size-cons 1 (text_value x) [], lines-size-none 1, user-key, nuls-long 4096, others x)

pub widest-sized : Sized (widest (replicate 4096 0))
unfolding widest
widest-sized = record { hosts = omega arith; addresses = omega arith; ports = omega arith; port = omega arith; retries = omega arith }

pub widest-texts : shown_bytes (widest (replicate 4096 0)) ≡ 4096
unfolding widest shown_bytes host_bytes
widest-texts = omega (arith, length-replicate {A = ℕ} 4096 0)
