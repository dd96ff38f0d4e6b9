-- A report read back: its lines, the key and the value of each, and the values that the texts stand for.
-- Assumes nothing.
use Rattle.std.specs.Prelude.{ℕ, suc, zero, ◌+◌, ◌*◌, ◌^◌, Bool, List, [], ◌∷◌, map, eqb, length, get_or, take, drop, Option, Some, None}
use Rattle.byte.specs.Byte.{pick}
use Rattle.names.specs.Find.{key_number, word_number}
use Rattle.number.specs.Digits.{value_in}
use Rattle.split.specs.Split.{first_at, split}
use Rattle.percent.specs.Percent.{decoded}
use Rattle.address.specs.declared.Kind.{Kind}
use Rattle.address.specs.declared.Address.{Address}
use Rattle.config.specs.declared.SslMode.{SslMode}
use Rattle.config.specs.declared.SslNegotiation.{SslNegotiation}
use Rattle.config.specs.declared.TargetSessionAttrs.{TargetSessionAttrs}
use Rattle.config.specs.declared.ChannelBinding.{ChannelBinding}
use Rattle.config.specs.declared.LoadBalanceHosts.{LoadBalanceHosts}
use Rattle.config.specs.Values.{HostValue, tcp, unix, Values}

-- a line's key and its value: what stands before and behind the first `=` (byte 61)
unfoldable pub key_in : List ℕ → ℕ
key_in row = key_number (take (first_at 61 row) row)

unfoldable pub value_of : List ℕ → List ℕ
value_of row = drop (first_at 61 row + 1) row

-- the values of the lines of a key, in order
unfoldable pub values_of : ℕ → List (List ℕ) → List (List ℕ)
values_of key [] = []
values_of key (row ∷ rows) = pick (eqb (key_in row) key) (value_of row ∷ values_of key rows) (values_of key rows)

-- the first of them, where there is one
abbrev pub first_back : {A : Type 0} → (List ℕ → A) → List (List ℕ) → Option A
first_back f [] = None
first_back f (x ∷ xs) = Some (f x)

-- the only one
abbrev pub only_back : {A : Type 0} → (List ℕ → A) → List (List ℕ) → A
only_back f [] = f []
only_back f (x ∷ xs) = f x

-- words, by their number among those of the key
abbrev pub mode_back : ℕ → SslMode
mode_back zero = SslMode.Disable
mode_back (suc zero) = SslMode.Disable
mode_back (suc (suc zero)) = SslMode.Prefer
mode_back (suc (suc (suc n))) = SslMode.Require

abbrev pub negotiation_back : ℕ → SslNegotiation
negotiation_back zero = SslNegotiation.Postgres
negotiation_back (suc zero) = SslNegotiation.Postgres
negotiation_back (suc (suc n)) = SslNegotiation.Direct

abbrev pub target_back : ℕ → TargetSessionAttrs
target_back zero = TargetSessionAttrs.Any
target_back (suc zero) = TargetSessionAttrs.Any
target_back (suc (suc zero)) = TargetSessionAttrs.ReadWrite
target_back (suc (suc (suc n))) = TargetSessionAttrs.ReadOnly

abbrev pub binding_back : ℕ → ChannelBinding
binding_back zero = ChannelBinding.Disable
binding_back (suc zero) = ChannelBinding.Disable
binding_back (suc (suc zero)) = ChannelBinding.Prefer
binding_back (suc (suc (suc n))) = ChannelBinding.Require

abbrev pub balance_back : ℕ → LoadBalanceHosts
balance_back zero = LoadBalanceHosts.Disable
balance_back (suc zero) = LoadBalanceHosts.Disable
balance_back (suc (suc n)) = LoadBalanceHosts.Random

-- escapes are what document 01's own percent decoding takes back
abbrev pub text_back : List ℕ → List ℕ
text_back x = decoded x

-- `unix:` or `tcp:`, told by the first byte
unfoldable pub host_back : List ℕ → HostValue
host_back x = pick (eqb (get_or x 0 0) 117) (unix (text_back (drop 5 x))) (tcp (text_back (drop 4 x)))

abbrev pub number_back : List ℕ → ℕ
number_back x = value_in 10 x

-- four numbers as one, the first weighing most
unfoldable pub weigh : ℕ → List ℕ → ℕ
weigh base ns = get_or ns 0 0 * base ^ 3 + get_or ns 1 0 * base ^ 2 + get_or ns 2 0 * base + get_or ns 3 0

-- IPv6 where there is a `:` (byte 58), IPv4 where there is none; dots are byte 46
unfoldable pub kind_back : List ℕ → Kind
kind_back x =
    pick (eqb (first_at 58 x) (length x))
    (Kind.V4 (weigh 256 (map (value_in 10) (split 46 x))))
    (Kind.V6 (weigh (2 ^ 16) (map (value_in 16) (split 58 x))) (weigh (2 ^ 16) (drop 4 (map (value_in 16) (split 58 x)))))

abbrev pub address_back : List ℕ → Address
address_back x = record { kind = kind_back x }

abbrev pub switch_back : List ℕ → Bool
switch_back x = eqb (value_in 10 x) 1

-- the whole, from its lines
unfoldable pub rows_back : List (List ℕ) → Values
rows_back rows =
    record {
      user = first_back text_back (values_of 1 rows);
      password = first_back (λ (x : List ℕ). []) (values_of 2 rows);
      dbname = first_back text_back (values_of 3 rows);
      options = first_back text_back (values_of 4 rows);
      application_name = first_back text_back (values_of 5 rows);
      ssl_mode = only_back (λ (x : List ℕ). mode_back (word_number 6 x)) (values_of 6 rows);
      ssl_negotiation = only_back (λ (x : List ℕ). negotiation_back (word_number 7 x)) (values_of 7 rows);
      host = map host_back (values_of 8 rows);
      hostaddr = map address_back (values_of 9 rows);
      port = map number_back (values_of 10 rows);
      connect_timeout = first_back number_back (values_of 11 rows);
      tcp_user_timeout = first_back number_back (values_of 12 rows);
      keepalives = only_back switch_back (values_of 13 rows);
      keepalives_idle = only_back number_back (values_of 14 rows);
      keepalives_interval = first_back number_back (values_of 15 rows);
      keepalives_retries = first_back number_back (values_of 16 rows);
      target_session_attrs = only_back (λ (x : List ℕ). target_back (word_number 17 x)) (values_of 17 rows);
      channel_binding = only_back (λ (x : List ℕ). binding_back (word_number 18 x)) (values_of 18 rows);
      load_balance_hosts = only_back (λ (x : List ℕ). balance_back (word_number 19 x)) (values_of 19 rows);
    }

unfoldable pub read_back : List ℕ → Values
read_back text = rows_back (split 10 text)
