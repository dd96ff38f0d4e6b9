-- A worked example, and lines of every kind, by computation.
-- Assumes nothing.
use Prim.Native.Nat.{ℕ, ◌^◌, ◌-◌}
use Prim.Native.String.{String}
use mathlib.Core.Path.{◌≡◌, refl}
use mathlib.Core.Bool.{true, false}
use mathlib.Core.List.{List, [], ◌∷◌, ◌++◌}
use Rattle.std.specs.Prelude.{Some, None}
use Rattle.byte.specs.Ascii.{bytes}
use Rattle.byte.specs.Byte.{between}
use Rattle.names.specs.Names.{key_name, word_name, words_of}
use Rattle.decimal.specs.Decimal.{digit_byte, fixed_digits, decimal_by, decimal}
use Rattle.address.specs.declared.Kind.{Kind}
use Rattle.draw.specs.Parts.{joined}
use Rattle.escape.specs.Escape.{escape, text_value}
use Rattle.line.specs.Line.{secret_value, word_value, host_value, number_value, four_value, quad_value, kind_value, line, lines, lines_from}
use Rattle.config.specs.declared.SslMode.{SslMode}
use Rattle.config.specs.declared.SslNegotiation.{SslNegotiation}
use Rattle.config.specs.declared.TargetSessionAttrs.{TargetSessionAttrs}
use Rattle.config.specs.declared.ChannelBinding.{ChannelBinding}
use Rattle.config.specs.declared.LoadBalanceHosts.{LoadBalanceHosts}
use Rattle.config.specs.Values.{tcp, unix, Values}
use Rattle.report.specs.Report.{values, report}

-- lines of text
abbrev pub text : List String → List ℕ
text [] = []
text (l ∷ ls) = bytes l ++ (0x0A ∷ []) ++ text ls

-- "`host=db1,/run/pg user=ann password='a b' port=6000,`"
pub worked : Values
worked =
    record {
      user = Some (bytes "ann");
      password = Some (bytes "a b");
      dbname = None;
      options = None;
      application_name = None;
      ssl_mode = SslMode.Prefer;
      ssl_negotiation = SslNegotiation.Postgres;
      host = tcp (bytes "db1") ∷ unix (bytes "/run/pg") ∷ [];
      hostaddr = [];
      port = 6000 ∷ 5432 ∷ [];
      connect_timeout = None;
      tcp_user_timeout = None;
      keepalives = true;
      keepalives_idle = 7200;
      keepalives_interval = None;
      keepalives_retries = None;
      target_session_attrs = TargetSessionAttrs.Any;
      channel_binding = ChannelBinding.Prefer;
      load_balance_hosts = LoadBalanceHosts.Disable;
    }

pub worked-report : report worked ≡ text
    ("user=ann" ∷
    "password=_" ∷
    "sslmode=prefer" ∷
    "sslnegotiation=postgres" ∷
    "host=tcp:db1" ∷
    "host=unix:/run/pg" ∷
    "port=6000" ∷
    "port=5432" ∷
    "keepalives=1" ∷
    "keepalives_idle=7200" ∷
    "target_session_attrs=any" ∷
    "channel_binding=prefer" ∷
    "load_balance_hosts=disable" ∷
    [])
unfolding worked report values lines_from lines line joined key_name word_name words_of text_value secret_value word_value host_value number_value escape between decimal decimal_by fixed_digits digit_byte
worked-report = refl

-- every key, and values at the edges: empty texts, bytes that are escaped, the greatest numbers, both kinds of address
pub edges : Values
edges =
    record {
      user = Some [];
      password = Some [];
      dbname = Some (0 ∷ 0x20 ∷ 0x21 ∷ 0x25 ∷ 0x7E ∷ 0x7F ∷ 0xFF ∷ []);
      options = Some (bytes "-c a=b");
      application_name = Some (0xC3 ∷ 0xA9 ∷ []);
      ssl_mode = SslMode.Require;
      ssl_negotiation = SslNegotiation.Direct;
      host = tcp [] ∷ [];
      hostaddr = record { kind = Kind.V4 (2 ^ 32 - 1) } ∷ record { kind = Kind.V4 0 } ∷ record { kind = Kind.V6 0x20010db800000000 0x1 } ∷ [];
      port = 0 ∷ 65535 ∷ [];
      connect_timeout = Some 10;
      tcp_user_timeout = Some (2 ^ 63 - 1);
      keepalives = false;
      keepalives_idle = 2 ^ 64 - 1;
      keepalives_interval = Some 0;
      keepalives_retries = Some (2 ^ 32 - 1);
      target_session_attrs = TargetSessionAttrs.ReadWrite;
      channel_binding = ChannelBinding.Require;
      load_balance_hosts = LoadBalanceHosts.Random;
    }

pub edges-report : report edges ≡ text
    ("user=" ∷
    "password=_" ∷
    "dbname=%00%20!%25~%7F%FF" ∷
    "options=-c%20a=b" ∷
    "application_name=%C3%A9" ∷
    "sslmode=require" ∷
    "sslnegotiation=direct" ∷
    "host=tcp:" ∷
    "hostaddr=255.255.255.255" ∷
    "hostaddr=0.0.0.0" ∷
    "hostaddr=2001:0db8:0000:0000:0000:0000:0000:0001" ∷
    "port=0" ∷
    "port=65535" ∷
    "connect_timeout=10" ∷
    "tcp_user_timeout=9223372036854775807" ∷
    "keepalives=0" ∷
    "keepalives_idle=18446744073709551615" ∷
    "keepalives_interval=0" ∷
    "keepalives_retries=4294967295" ∷
    "target_session_attrs=read-write" ∷
    "channel_binding=require" ∷
    "load_balance_hosts=random" ∷
    [])
unfolding edges report values lines_from lines line joined key_name word_name words_of text_value secret_value word_value host_value number_value four_value quad_value kind_value escape between decimal decimal_by fixed_digits digit_byte
edges-report = refl
