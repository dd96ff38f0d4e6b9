-- How long the lines of a key can be, and a report by its record's lengths and counts.
-- Assumes nothing.
use Prim.Native.Nat.{ℕ, ◌+◌, ◌*◌, ◌/◌, ◌≤◌}
use mathlib.Core.Path.{◌≡◌, ap, ◌∙◌}
use mathlib.Core.Bool.{Bool, true, false}
use mathlib.Core.List.{List, [], ◌∷◌, map}
use Rattle.std.specs.Prelude.{Option, Some, None}
use native.Mathlib.Omega.{arith}
use lib.Dec.{ltb}
use lib.ListN.{length, take, drop, length-append, length-take}
use borrow.Author.Tests.{ltb-true}
use Rattle.byte.specs.Ascii.{bytes}
use Rattle.byte.specs.Byte.{pick}
use Rattle.byte.proofs.Laws.{and_right}
use Rattle.names.specs.Names.{key_name, word_name, words_of}
use Rattle.decimal.specs.Decimal.{decimal}
use Rattle.decimal.proofs.Laws.{decimal-most}
use Rattle.address.specs.declared.Address.{Address}
use Rattle.draw.specs.Parts.{joined}
use Rattle.escape.specs.Escape.{text_value}
use Rattle.draw.proofs.Escape.{text-size}
use Rattle.line.specs.Line.{secret_value, word_value, host_value, number_value, address_value, lines, lines_from}
use Rattle.line.proofs.Lines.{lines-size-none, lines-size-cons, from-size-none, from-size-cons}
use Rattle.line.proofs.Values.{secret-joined, word-joined, number-joined, host-joined, digits-most, kind-size}
use Rattle.lists.specs.declared.Place.{Place}
use Rattle.lists.specs.declared.HostKind.{HostKind}
use Rattle.lists.specs.declared.Host.{Host}
use Rattle.field.specs.Field.{mode_number, negotiation_number, target_number, binding_number, balance_number, optional, named_host, switch_value}
use Rattle.config.specs.declared.SslMode.{SslMode}
use Rattle.config.specs.declared.SslNegotiation.{SslNegotiation}
use Rattle.config.specs.declared.TargetSessionAttrs.{TargetSessionAttrs}
use Rattle.config.specs.declared.ChannelBinding.{ChannelBinding}
use Rattle.config.specs.declared.LoadBalanceHosts.{LoadBalanceHosts}
use Rattle.config.specs.declared.Config.{Config}
use Rattle.config.specs.Sound.{counted}
use Rattle.config.specs.Values.{place_shown, text_shown, host_shown, kind_shown, seconds_shown, retries_shown, shown}
use Rattle.room.specs.Room.{text_threes, kind_len, host_threes, threes, surely_fits}
use Rattle.report.specs.Report.{values, report}

-- the bytes of a text in parts
abbrev pub size : List (List ℕ) → ℕ
size xs = length (joined xs)

-- what may be unset
module _ (key : ℕ) where
  pub one_size : (value : List (List ℕ)) (most : ℕ) → size value ≤ most → size (lines key (value ∷ [])) ≤ length (key_name key) + 2 + most
  one_size value most h = omega (arith, lines-size-cons key value [], lines-size-none key)

  pub secret-most : (t : Option (List ℕ)) → size (lines key (optional (λ (x : List ℕ). secret_value) t)) ≤ length (key_name key) + 3
  secret-most None = omega (arith, lines-size-none key)
  secret-most (Some x) = omega (arith, one_size secret_value 1 (omega (arith, ap length secret-joined)))

  twenty : (n : ℕ) → size (number_value n) ≤ 20
  twenty n = omega (arith, ap length (number-joined n), decimal-most n)

  pub seconds-most : (t : Option ℕ) → size (lines key (optional number_value t)) ≤ length (key_name key) + 22
  seconds-most None = omega (arith, lines-size-none key)
  seconds-most (Some n) = omega (arith, one_size (number_value n) 20 (twenty n))

  pub idle-most : (n : ℕ) → size (lines key (number_value n ∷ [])) ≤ length (key_name key) + 22
  idle-most n = omega (arith, one_size (number_value n) 20 (twenty n))

  pub switch-most : (on : Bool) → size (lines key (switch_value on ∷ [])) ≤ length (key_name key) + 3
  switch-most on = omega (arith, one_size (switch_value on) 1 (omega (arith, ap length (number-joined (pick on 1 0)), by on)))
    where
      by : (t : Bool) → length (decimal (pick t 1 0)) ≤ 1
      by true = digits-most 0 1 (omega arith) (omega arith)
      by false = digits-most 0 0 (omega arith) (omega arith)

  pub word-most : (word most : ℕ) → length (word_name key word) ≤ most → size (lines key (word_value key word ∷ [])) ≤ length (key_name key) + 2 + most
  word-most word most h = one_size (word_value key word) most (omega (arith, ap length (word-joined key word)))

-- the longest word of each key
pub mode-most : (m : SslMode) → length (word_name 6 (mode_number m)) ≤ 7
unfolding word_name words_of
mode-most SslMode.Disable = omega arith
mode-most SslMode.Prefer = omega arith
mode-most SslMode.Require = omega arith

pub negotiation-most : (m : SslNegotiation) → length (word_name 7 (negotiation_number m)) ≤ 8
unfolding word_name words_of
negotiation-most SslNegotiation.Postgres = omega arith
negotiation-most SslNegotiation.Direct = omega arith

pub target-most : (m : TargetSessionAttrs) → length (word_name 17 (target_number m)) ≤ 10
unfolding word_name words_of
target-most TargetSessionAttrs.Any = omega arith
target-most TargetSessionAttrs.ReadWrite = omega arith
target-most TargetSessionAttrs.ReadOnly = omega arith

pub binding-most : (m : ChannelBinding) → length (word_name 18 (binding_number m)) ≤ 7
unfolding word_name words_of
binding-most ChannelBinding.Disable = omega arith
binding-most ChannelBinding.Prefer = omega arith
binding-most ChannelBinding.Require = omega arith

pub balance-most : (m : LoadBalanceHosts) → length (word_name 19 (balance_number m)) ≤ 7
unfolding word_name words_of
balance-most LoadBalanceHosts.Disable = omega arith
balance-most LoadBalanceHosts.Random = omega arith

-- the lists
kind-most : (u : Bool) → length (pick u (bytes "unix:") (bytes "tcp:")) ≤ 5
kind-most true = omega arith
kind-most false = omega arith

pub host-most : (u : Bool) (x : List ℕ) → size (host_value u x) ≤ 5 + 3 * length x
host-most u x =
    omega (arith, ap length (host-joined u x), length-append (pick u (bytes "unix:") (bytes "tcp:")) (joined (text_value x)), kind-most u, text-size x)

pub addresses-most : (l : List Address) → size (lines 9 (map address_value l)) ≤ (length (key_name 9) + 41) * length l
unfolding key_name
addresses-most [] = omega (arith, lines-size-none 9)
addresses-most (a ∷ l) = omega (arith, lines-size-cons 9 (address_value a) (map address_value l), kind-size a.kind, addresses-most l)

-- key after key
unfoldable pub total : ℕ → List (List (List (List ℕ))) → ℕ
total key [] = 0
total key (vs ∷ more) = size (lines key vs) + total (key + 1) more

pub total-is : (key : ℕ) (all : List (List (List (List ℕ)))) → size (lines_from key all) ≡ total key all
unfolding total
total-is key [] = from-size-none key
total-is key (vs ∷ more) = from-size-cons key vs more ∙ ap (λ (n : ℕ). size (lines key vs) + n) (total-is (key + 1) more)

-- by the lengths and counts of a record, whatever its buffer holds
place-most : (b : List ℕ) (p : Place) → length (place_shown b p) ≤ p.len
unfolding place_shown
place-most b p = omega (arith, length-take p.len (drop p.start b))

text-room : (key : ℕ) (b : List ℕ) (t : Option Place) → size (lines key (optional text_value (text_shown b t))) ≤ length (key_name key) + 2 + 3 * text_threes t
unfolding text_threes
text-room key b (Some p) = omega (arith, one_size key (text_value (place_shown b p)) (3 * length (place_shown b p)) (text-size (place_shown b p)), place-most b p)
text-room key b None = omega (arith, lines-size-none key)

kind-room : (b : List ℕ) (k : HostKind) → size (named_host (kind_shown b k)) ≤ 5 + 3 * kind_len k
unfolding kind_len
kind-room b (HostKind.Tcp p) = omega (arith, host-most false (place_shown b p), place-most b p)
kind-room b (HostKind.Unix p) = omega (arith, host-most true (place_shown b p), place-most b p)

hosts-room : (b : List ℕ) (l : List Host) → size (lines 8 (map named_host (map (host_shown b) l))) ≤ 3 * host_threes l
unfolding host_threes key_name
hosts-room b [] = omega (arith, lines-size-none 8)
hosts-room b (h ∷ l) = omega (arith, lines-size-cons 8 (named_host (host_shown b h)) (map named_host (map (host_shown b) l)), kind-room b h.kind, hosts-room b l)

ports-room : (l : List ℕ) → size (lines 10 (map number_value l)) ≤ 26 * length l
unfolding key_name
ports-room [] = omega (arith, lines-size-none 10)
ports-room (p ∷ l) = omega (arith, lines-size-cons 10 (number_value p) (map number_value l), ap length (number-joined p), decimal-most p, ports-room l)

counted-most : {A : Type 0} (n : ℕ) (l : List A) → length (take n l) ≤ n
counted-most n l = omega (arith, length-take n l)

record-most : (b : List ℕ) (c : Config) → length (report (shown b c)) ≤ 3 * threes c
unfolding report values shown total key_name threes
record-most b c =
    omega (
      arith,
      total-is 1 (values (shown b c)),
      text-room 1 b c.user,
      secret-most 2 (text_shown b c.password),
      text-room 3 b c.dbname,
      text-room 4 b c.options,
      text-room 5 b c.application_name,
      word-most 6 (mode_number c.ssl_mode) 7 (mode-most c.ssl_mode),
      word-most 7 (negotiation_number c.ssl_negotiation) 8 (negotiation-most c.ssl_negotiation),
      hosts-room b (take c.host.count c.host.list),
      addresses-most (take c.hostaddr.count c.hostaddr.list),
      counted-most c.hostaddr.count c.hostaddr.list,
      ports-room (take c.port.count c.port.list),
      counted-most c.port.count c.port.list,
      seconds-most 11 (seconds_shown c.connect_timeout),
      seconds-most 12 (seconds_shown c.tcp_user_timeout),
      switch-most 13 c.keepalives,
      idle-most 14 c.keepalives_idle,
      seconds-most 15 (seconds_shown c.keepalives_interval),
      seconds-most 16 (retries_shown c.keepalives_retries),
      word-most 17 (target_number c.target_session_attrs) 10 (target-most c.target_session_attrs),
      word-most 18 (binding_number c.channel_binding) 7 (binding-most c.channel_binding),
      word-most 19 (balance_number c.load_balance_hosts) 7 (balance-most c.load_balance_hosts),
    )

pub surely : (b : List ℕ) (c : Config) (n : ℕ) → surely_fits n c ≡ true → length (report (shown b c)) ≤ n
unfolding surely_fits
surely b c n e = omega (arith, record-most b c, ltb-true (threes c) (n / 3) (and_right (counted c) (ltb (threes c) (n / 3)) e))
