-- Settings applied to the default record in order, up to the first that is refused: the number, the key and the fields that come back, by computation.
-- Assumes nothing.
use mathlib.Core.Path.{◌≡◌, refl}
use mathlib.Core.Bool.{Bool, true, false}
use mathlib.Core.List.{List, [], ◌∷◌, map}
use Prim.Native.Nat.{ℕ}
use Prim.Native.String.{String}
use Rattle.std.specs.Prelude.{Option, Some, None}
use Rattle.byte.specs.Ascii.{bytes}
use Rattle.byte.specs.Byte.{pick, between}
use Rattle.byte.specs.Digit.{digit_of}
use Rattle.byte.specs.Same.{same}
use Rattle.names.specs.Names.{words_of}
use Rattle.names.specs.Find.{among, number_in, key_number, word_number}
use Rattle.split.specs.Split.{split}
use Rattle.number.specs.Digits.{all_digits, value_in, value_from}
use Rattle.number.specs.Number.{digits_in, unsigned_of}
use Rattle.integer.specs.Integer.{signed_of}
use Rattle.ipv4.specs.V4 as ipv4
use Rattle.address.specs.Address as address
use Rattle.lists.specs.declared.Place.{Place}
use Rattle.lists.specs.Fault.{is_fine, number_of, key_of}
use Rattle.lists.specs.Append.{append_from, pieces_from, listed}
use Rattle.lists.specs.Lists.{port_piece, address_piece, host_of, host_piece, ports_after, addresses_after, hosts_after}
use Rattle.config.specs.declared.SslMode.{SslMode}
use Rattle.config.specs.declared.SslNegotiation.{SslNegotiation}
use Rattle.config.specs.declared.TargetSessionAttrs.{TargetSessionAttrs}
use Rattle.config.specs.declared.ChannelBinding.{ChannelBinding}
use Rattle.config.specs.declared.LoadBalanceHosts.{LoadBalanceHosts}
use Rattle.config.specs.declared.Config.{Config}
use Rattle.config.specs.Config.{defaults}
use Rattle.config.specs.Values.{seconds_shown, retries_shown, ports_shown}
use Rattle.apply.specs.Apply.{seconds_in, fault_of, after, applied}

abbrev Settings : Type 0
Settings = List (String × String)

-- each value stands from the place 0 on
abbrev outcome : Config → Settings → ℕ × ℕ × Config
outcome c [] = (0, 0, c)
outcome c (s ∷ ss) =
    let kind = key_number (bytes s.0) in
    let a = applied kind (bytes s.1) 0 c in
    pick (is_fine a.fault) (outcome a.config ss) (number_of a.fault, key_of a.fault kind, a.config)

-- connect_timeout, tcp_user_timeout, keepalives, idle, interval, retries
abbrev Numbers : Type 0
Numbers = List (Option ℕ)

abbrev flag : Bool → ℕ
flag true = 1
flag false = 0

abbrev numbers : Config → Numbers
numbers c =
    seconds_shown c.connect_timeout
    ∷ seconds_shown c.tcp_user_timeout
    ∷ Some (flag c.keepalives)
    ∷ Some c.keepalives_idle
    ∷ seconds_shown c.keepalives_interval
    ∷ retries_shown c.keepalives_retries
    ∷ []

abbrev as_default : Numbers
as_default = None ∷ None ∷ Some 1 ∷ Some 7200 ∷ None ∷ None ∷ []

abbrev number_table : List (Settings × ℕ × ℕ × Numbers)
number_table =
    ([], 0, 0, as_default)
    ∷ (("connect_timeout", "5") ∷ ("connect_timeout", "0") ∷ [], 0, 0, Some 5 ∷ None ∷ Some 1 ∷ Some 7200 ∷ None ∷ None ∷ [])
    ∷ (("connect_timeout", "-5") ∷ [], 0, 0, as_default)
    ∷ (("connect_timeout", "9223372036854775807") ∷ [], 0, 0, Some 9223372036854775807 ∷ None ∷ Some 1 ∷ Some 7200 ∷ None ∷ None ∷ [])
    ∷ (("connect_timeout", "9223372036854775808") ∷ [], 5, 11, as_default)
    ∷ (("tcp_user_timeout", "+7") ∷ [], 0, 0, None ∷ Some 7 ∷ Some 1 ∷ Some 7200 ∷ None ∷ None ∷ [])
    ∷ (("tcp_user_timeout", "-9223372036854775808") ∷ [], 0, 0, as_default)
    ∷ (("tcp_user_timeout", "-9223372036854775809") ∷ [], 5, 12, as_default)
    ∷ (("keepalives", "-1") ∷ [], 5, 13, as_default)
    ∷ (("keepalives", "0") ∷ [], 0, 0, None ∷ None ∷ Some 0 ∷ Some 7200 ∷ None ∷ None ∷ [])
    ∷ (("keepalives", "0") ∷ ("keepalives", "18446744073709551615") ∷ [], 0, 0, as_default)
    ∷ (("keepalives", "18446744073709551616") ∷ [], 5, 13, as_default)
    ∷ (("keepalives_idle", "60") ∷ ("keepalives_idle", "-0") ∷ [], 0, 0, None ∷ None ∷ Some 1 ∷ Some 60 ∷ None ∷ None ∷ [])
    ∷ (("keepalives_interval", "00060") ∷ [], 0, 0, None ∷ None ∷ Some 1 ∷ Some 7200 ∷ Some 60 ∷ None ∷ [])
    ∷ (("keepalives_interval", "") ∷ [], 5, 15, as_default)
    ∷ (("keepalives_retries", "0") ∷ [], 0, 0, None ∷ None ∷ Some 1 ∷ Some 7200 ∷ None ∷ Some 0 ∷ [])
    ∷ (("keepalives_retries", "4294967295") ∷ [], 0, 0, None ∷ None ∷ Some 1 ∷ Some 7200 ∷ None ∷ Some 4294967295 ∷ [])
    ∷ (("keepalives_retries", "4294967296") ∷ [], 5, 16, as_default)
    ∷ (("Keepalives", "0") ∷ [], 4, 0, as_default)
    ∷ (("", "0") ∷ [], 4, 0, as_default)
    ∷ []

abbrev Words : Type 0
Words = SslMode × SslNegotiation × TargetSessionAttrs × ChannelBinding × LoadBalanceHosts

abbrev words : Config → Words
words c =
    (c.ssl_mode, c.ssl_negotiation, c.target_session_attrs, c.channel_binding, c.load_balance_hosts)

abbrev word_table : List (Settings × ℕ × ℕ × Words)
word_table = (
  ("sslmode", "disable")
      ∷ ("sslnegotiation", "direct")
      ∷ ("target_session_attrs", "read-only")
      ∷ ("channel_binding", "require")
      ∷ ("load_balance_hosts", "random")
      ∷ [],
  0,
  0,
  (SslMode.Disable, SslNegotiation.Direct, TargetSessionAttrs.ReadOnly, ChannelBinding.Require, LoadBalanceHosts.Random),
)
    ∷ (
      ("sslmode", "require")
          ∷ ("sslmode", "prefer")
          ∷ ("target_session_attrs", "read-write")
          ∷ ("channel_binding", "disable")
          ∷ ("sslmode", "Require")
          ∷ [],
      5,
      6,
      (SslMode.Prefer, SslNegotiation.Postgres, TargetSessionAttrs.ReadWrite, ChannelBinding.Disable, LoadBalanceHosts.Disable),
    )
    ∷ (
      ("load_balance_hosts", "prefer")
          ∷ [],
      5,
      19,
      (SslMode.Prefer, SslNegotiation.Postgres, TargetSessionAttrs.Any, ChannelBinding.Prefer, LoadBalanceHosts.Disable),
    )
    ∷ []

-- how long each of the five texts is, and the ports
abbrev long : Option Place → Option ℕ
long (Some p) = Some p.len
long None = None

abbrev texts : Config → Numbers
texts c = long c.user ∷ long c.password ∷ long c.dbname ∷ long c.options ∷ long c.application_name ∷ []

abbrev texts_and_ports : Config → Numbers × List ℕ
texts_and_ports c = (texts c, ports_shown c.port)

abbrev text_table : List (Settings × ℕ × ℕ × Numbers × List ℕ)
text_table =
    (("user", "") ∷ ("password", "a b") ∷ ("port", "6000,") ∷ [], 0, 0, Some 0 ∷ Some 3 ∷ None ∷ None ∷ None ∷ [], 6000 ∷ 5432 ∷ [])
    ∷ (("dbname", "abc") ∷ ("options", "-c") ∷ ("application_name", "x") ∷ ("dbname", "d") ∷ [], 0, 0, None ∷ None ∷ Some 1 ∷ Some 2 ∷ Some 1 ∷ [], [])
    ∷ (("port", "65535") ∷ ("port", "65536") ∷ [], 5, 10, None ∷ None ∷ None ∷ None ∷ None ∷ [], 65535 ∷ [])
    ∷ (("port", "7,x") ∷ [], 5, 10, None ∷ None ∷ None ∷ None ∷ None ∷ [], [])
    ∷ (("port", "1,2,3,4,5,6,7,8,9,10,11,12,13,14,15,16,17") ∷ [], 15, 0, None ∷ None ∷ None ∷ None ∷ None ∷ [], [])
    ∷ (("hostaddr", "::1,01.2.3.4") ∷ [], 5, 9, None ∷ None ∷ None ∷ None ∷ None ∷ [], [])
    ∷ (("host", ",,,,,,,,,,,,,,,") ∷ ("host", "[x") ∷ [], 13, 0, None ∷ None ∷ None ∷ None ∷ None ∷ [], [])
    ∷ (("username", "a") ∷ ("user", "a") ∷ [], 4, 0, None ∷ None ∷ None ∷ None ∷ None ∷ [], [])
    ∷ []

-- what a row says, and what the definitions do
abbrev seen : {A : Type 0} → (Config → A) → ℕ × ℕ × Config → ℕ × ℕ × A
seen f o = (o.0, o.1, f o.2)

pub number-examples :
    map (λ (r : Settings × ℕ × ℕ × Numbers). seen numbers (outcome defaults r.0)) number_table
    ≡ map (λ (r : Settings × ℕ × ℕ × Numbers). (r.1, r.2, r.3)) number_table
unfolding defaults applied fault_of after seconds_in signed_of unsigned_of digits_in all_digits value_in value_from digit_of between key_number number_in among same
number-examples = refl

pub word-examples :
    map (λ (r : Settings × ℕ × ℕ × Words). seen words (outcome defaults r.0)) word_table ≡ map (λ (r : Settings × ℕ × ℕ × Words). (r.1, r.2, r.3)) word_table
unfolding defaults applied fault_of after word_number words_of key_number number_in among same
word-examples = refl

pub text-examples :
    map (λ (r : Settings × ℕ × ℕ × Numbers × List ℕ). seen texts_and_ports (outcome defaults r.0)) text_table
    ≡ map (λ (r : Settings × ℕ × ℕ × Numbers × List ℕ). (r.1, r.2, (r.3, r.4))) text_table
unfolding defaults applied fault_of after ports_after addresses_after hosts_after append_from pieces_from listed port_piece address_piece host_piece host_of split address.address_of ipv4.v4_of ipv4.parts_of ipv4.part_of address.v6_of address.gap_at address.side_of address.groups_of address.group_of address.quad unsigned_of digits_in all_digits value_in value_from digit_of between key_number number_in among same
text-examples = refl
