-- Two setters of different keys may come in either order; a word or a number set twice is the last one.
-- Assumes nothing.
use Rattle.std.specs.Prelude.{Ok, Err, Some}
use Prim.Native.Nat.{ℕ, ◌+◌}
use mathlib.Core.Path.{◌≡◌, refl, sym, ap, ◌∙◌}
use mathlib.Core.Bool.{Bool, true, false}
use native.Mathlib.Omega.{arith}
use borrow.Author.Tests.{ltb-true, le-leb, eqb-true, ne_eqb}
use lib.Dec.{eqb, ltb, leb}
use Rattle.byte.specs.Byte.{pick}
use Rattle.address.specs.declared.Address.{Address}
use Rattle.lists.specs.declared.Fault.{Fault}
use Rattle.lists.specs.declared.Addresses.{Addresses}
use Rattle.lists.specs.declared.Ports.{Ports}
use Rattle.lists.specs.Append.{more, pushed}
use Rattle.lists.specs.Lists.{address_slots, more_addresses, address_kept, port_slots, more_ports, port_kept}
use Rattle.config.specs.declared.Config.{Config}
use Rattle.config.specs.Sound.{counted}
use Rattle.setters.specs.Setter.{Value, room, refusal, changed, set}

-- one more in a list is counted above 16 only where the list was
addresses-counted : (a : Addresses) (x : Address) → leb (address_kept a x).addresses.count 16 ≡ leb a.count 16
unfolding address_kept
addresses-counted a x = by (ltb a.count 16) refl
  where
    by : (t : Bool) → ltb a.count 16 ≡ t → leb (more_addresses (pick t (more (Ok tt) (pushed (address_slots a) x)) (more (Err Fault.ManyHostaddrs) (address_slots a)))).addresses.count 16 ≡ leb a.count 16
    by true e = let l = ltb-true a.count 16 e in le-leb (a.count + 1) 16 (omega arith) ∙ sym (le-leb a.count 16 (omega arith))
    by false e = refl

ports-counted : (p : Ports) (x : ℕ) → leb (port_kept p x).ports.count 16 ≡ leb p.count 16
unfolding port_kept
ports-counted p x = by (ltb p.count 16) refl
  where
    by : (t : Bool) → ltb p.count 16 ≡ t → leb (more_ports (pick t (more (Ok tt) (pushed (port_slots p) x)) (more (Err Fault.ManyPorts) (port_slots p)))).ports.count 16 ≡ leb p.count 16
    by true e = let l = ltb-true p.count 16 e in le-leb (p.count + 1) 16 (omega arith) ∙ sym (le-leb p.count 16 (omega arith))
    by false e = refl

-- picks under two tests that don't both hold
module _ {A : Type 0} where
  same-either : {B : Type 0} (f : A → B) (q : Bool) (new old : A) → f new ≡ f old → f (pick q new old) ≡ f old
  same-either f true new old h = h
  same-either f false new old h = refl

  apart : {B : Type 0} (q t : Bool) → (q ≡ true → t ≡ false) → (f : A → B) (new old : A) (b : B) → pick q (f (pick t new old)) b ≡ pick q (f old) b
  apart true t h f new old b = rw (h refl)
  apart false t h f new old b = refl

  swapped : (q t : Bool) → (q ≡ true → t ≡ false) → (f g : A → A) (old : A) → pick q (f (pick t (g old) old)) (pick t (g old) old) ≡ pick t (g (pick q (f old) old)) (pick q (f old) old)
  swapped true t h f g old = rw (h refl)
  swapped false true h f g old = refl
  swapped false false h f g old = refl

  last : (q : Bool) (a b old : A) → pick q a (pick q b old) ≡ pick q a old
  last true a b old = refl
  last false a b old = refl

still-counted : (key : ℕ) (v : Value) (c : Config) → counted (changed key v c) ≡ counted c
unfolding counted changed
still-counted key v c =
    rw (
      same-either (λ (a : Addresses). leb a.count 16) (eqb key 9) (address_kept c.hostaddr v.address).addresses c.hostaddr (addresses-counted c.hostaddr v.address),
      same-either (λ (p : Ports). leb p.count 16) (eqb key 10) (port_kept c.port v.number).ports c.port (ports-counted c.port v.number),
    )

-- the answer of a setter, by its number
abbrev left : Bool → ℕ → Value → Config → Config
left q key v c = pick q (changed key v c) c

set-left : (key : ℕ) (v : Value) (c : Config) → (set key v c).config ≡ left (eqb (refusal key v c) 0) key v c
unfolding set
set-left key v c = refl

set-number : (key : ℕ) (v : Value) (c : Config) → (set key v c).number ≡ refusal key v c
unfolding set
set-number key v c = refl

module _ (k j : ℕ) (other : k ≡ j → ⊥) (v w : Value) where
  differ : (n : ℕ) → eqb k n ≡ true → eqb j n ≡ false
  differ n e = let f = eqb-true k n e in ne_eqb j n (λ (g : j ≡ n). other (f ∙ sym g))

  room_apart : (c : Config) → room k v (changed j w c) ≡ room k v c
  unfolding room changed
  room_apart c =
      rw (
        apart (eqb k 9) (eqb j 9) (differ 9) (λ (a : Addresses). (address_kept a v.address).fault) (address_kept c.hostaddr w.address).addresses c.hostaddr
            (pick (eqb k 10) (port_kept (pick (eqb j 10) (port_kept c.port w.number).ports c.port) v.number).fault (Ok tt)),
        apart (eqb k 10) (eqb j 10) (differ 10) (λ (p : Ports). (port_kept p v.number).fault) (port_kept c.port w.number).ports c.port (Ok tt),
      )

  refusal-apart : (c : Config) → refusal k v (changed j w c) ≡ refusal k v c
  unfolding refusal
  refusal-apart c = rw (still-counted j w c, room_apart c)

  refusal-left : (q : Bool) (c : Config) → refusal k v (left q j w c) ≡ refusal k v c
  refusal-left true c = refusal-apart c
  refusal-left false c = refl

  both-changed : (c : Config) → changed k v (changed j w c) ≡ changed j w (changed k v c)
  unfolding changed
  both-changed c =
      λ i.
      record {
        user = c.user;
        password = c.password;
        dbname = c.dbname;
        options = c.options;
        application_name = c.application_name;
        ssl_mode = swapped (eqb k 6) (eqb j 6) (differ 6) (λ _. v.mode) (λ _. w.mode) c.ssl_mode i;
        ssl_negotiation = swapped (eqb k 7) (eqb j 7) (differ 7) (λ _. v.negotiation) (λ _. w.negotiation) c.ssl_negotiation i;
        host = c.host;
        hostaddr = swapped (eqb k 9) (eqb j 9) (differ 9) (λ (a : Addresses). (address_kept a v.address).addresses) (λ (a : Addresses). (address_kept a w.address).addresses) c.hostaddr i;
        port = swapped (eqb k 10) (eqb j 10) (differ 10) (λ (p : Ports). (port_kept p v.number).ports) (λ (p : Ports). (port_kept p w.number).ports) c.port i;
        connect_timeout = swapped (eqb k 11) (eqb j 11) (differ 11) (λ _. Some v.number) (λ _. Some w.number) c.connect_timeout i;
        tcp_user_timeout = swapped (eqb k 12) (eqb j 12) (differ 12) (λ _. Some v.number) (λ _. Some w.number) c.tcp_user_timeout i;
        keepalives = swapped (eqb k 13) (eqb j 13) (differ 13) (λ _. v.switch) (λ _. w.switch) c.keepalives i;
        keepalives_idle = swapped (eqb k 14) (eqb j 14) (differ 14) (λ _. v.number) (λ _. w.number) c.keepalives_idle i;
        keepalives_interval = swapped (eqb k 15) (eqb j 15) (differ 15) (λ _. Some v.number) (λ _. Some w.number) c.keepalives_interval i;
        keepalives_retries = swapped (eqb k 16) (eqb j 16) (differ 16) (λ _. Some v.number) (λ _. Some w.number) c.keepalives_retries i;
        target_session_attrs = swapped (eqb k 17) (eqb j 17) (differ 17) (λ _. v.target) (λ _. w.target) c.target_session_attrs i;
        channel_binding = swapped (eqb k 18) (eqb j 18) (differ 18) (λ _. v.binding) (λ _. w.binding) c.channel_binding i;
        load_balance_hosts = swapped (eqb k 19) (eqb j 19) (differ 19) (λ _. v.balance) (λ _. w.balance) c.load_balance_hosts i;
      }

  both_left : (q t : Bool) (c : Config) → left q k v (left t j w c) ≡ left t j w (left q k v c)
  both_left true true c = both-changed c
  both_left true false c = refl
  both_left false true c = refl
  both_left false false c = refl

  -- a setter's number is what it would be without the other
  pub own-number : (c : Config) → (set k v (set j w c).config).number ≡ (set k v c).number
  own-number c =
      set-number k v (set j w c).config
      ∙ ap (refusal k v) (set-left j w c)
      ∙ refusal-left (eqb (refusal j w c) 0) c
      ∙ sym (set-number k v c)

  left_after : (c : Config) → (set k v (set j w c).config).config ≡ left (eqb (refusal k v c) 0) k v (left (eqb (refusal j w c) 0) j w c)
  left_after c =
      ap (λ (d : Config). (set k v d).config) (set-left j w c)
      ∙ set-left k v (left (eqb (refusal j w c) 0) j w c)
      ∙ ap (λ (n : ℕ). left (eqb n 0) k v (left (eqb (refusal j w c) 0) j w c)) (refusal-left (eqb (refusal j w c) 0) c)

-- setters of different keys leave the same record in either order, and each answers the number that it would answer alone
pub either_order : (k j : ℕ) → (k ≡ j → ⊥) → (v w : Value) (c : Config)
    → ((set k v (set j w c).config).config ≡ (set j w (set k v c).config).config)
    × ((set k v (set j w c).config).number ≡ (set k v c).number)
    × ((set j w (set k v c).config).number ≡ (set j w c).number)
either_order k j other v w c = (
  left_after k j other v w c
      ∙ both_left k j other v w (eqb (refusal k v c) 0) (eqb (refusal j w c) 0) c
      ∙ sym (left_after j k (λ (e : j ≡ k). other (sym e)) w v c),
  own-number k j other v w c,
  own-number j k (λ (e : j ≡ k). other (sym e)) w v c,
)

-- a word or a number that is set twice
module _ (k : ℕ) (v w : Value) (no_address : k ≡ 9 → ⊥) (no-port : k ≡ 10 → ⊥) where
  last-changed : (c : Config) → changed k w (changed k v c) ≡ changed k w c
  unfolding changed
  last-changed c =
      λ i.
      record {
        user = c.user;
        password = c.password;
        dbname = c.dbname;
        options = c.options;
        application_name = c.application_name;
        ssl_mode = last (eqb k 6) w.mode v.mode c.ssl_mode i;
        ssl_negotiation = last (eqb k 7) w.negotiation v.negotiation c.ssl_negotiation i;
        host = c.host;
        hostaddr = no_more (eqb k 9) (ne_eqb k 9 no_address) (λ (a : Addresses). (address_kept a w.address).addresses) (address_kept c.hostaddr v.address).addresses c.hostaddr i;
        port = no_more (eqb k 10) (ne_eqb k 10 no-port) (λ (p : Ports). (port_kept p w.number).ports) (port_kept c.port v.number).ports c.port i;
        connect_timeout = last (eqb k 11) (Some w.number) (Some v.number) c.connect_timeout i;
        tcp_user_timeout = last (eqb k 12) (Some w.number) (Some v.number) c.tcp_user_timeout i;
        keepalives = last (eqb k 13) w.switch v.switch c.keepalives i;
        keepalives_idle = last (eqb k 14) w.number v.number c.keepalives_idle i;
        keepalives_interval = last (eqb k 15) (Some w.number) (Some v.number) c.keepalives_interval i;
        keepalives_retries = last (eqb k 16) (Some w.number) (Some v.number) c.keepalives_retries i;
        target_session_attrs = last (eqb k 17) w.target v.target c.target_session_attrs i;
        channel_binding = last (eqb k 18) w.binding v.binding c.channel_binding i;
        load_balance_hosts = last (eqb k 19) w.balance v.balance c.load_balance_hosts i;
      }
    where
      no_more : {A : Type 0} (q : Bool) → q ≡ false → (f : A → A) (new old : A) → pick q (f (pick q new old)) (pick q new old) ≡ pick q (f old) old
      no_more true e f new old = cc
      no_more false e f new old = refl

  roomy : (x : Value) (c : Config) → room k x c ≡ (Ok tt)
  unfolding room
  roomy x c = rw (ne_eqb k 9 no_address, ne_eqb k 10 no-port)

  same-refusal : (q : Bool) (x : Value) (c : Config) → refusal k w (left q k x c) ≡ refusal k w c
  unfolding refusal
  same-refusal true x c = rw (still-counted k x c, roomy w (changed k x c), roomy w c)
  same-refusal false x c = refl

  last-left : (q : Bool) (c : Config) → left q k w (left q k v c) ≡ left q k w c
  last-left true c = last-changed c
  last-left false c = refl

  same_test : (c : Config) → eqb (refusal k w c) 0 ≡ eqb (refusal k v c) 0
  unfolding refusal
  same_test c = rw (roomy w c, roomy v c)

  -- the last one is what counts
  pub last-counts : (c : Config) → set k w (set k v c).config ≡ set k w c
  unfolding set
  last-counts c =
      let q : Bool = eqb (refusal k v c) 0 in
      let e = same-refusal q v c in
      λ i. record { number = e i; config = (ap (λ (n : ℕ). left (eqb n 0) k w (left q k v c)) e ∙ by) i }
    where
      by : left (eqb (refusal k w c) 0) k w (left (eqb (refusal k v c) 0) k v c) ≡ left (eqb (refusal k w c) 0) k w c
      by = ap (λ (t : Bool). left (eqb (refusal k w c) 0) k w (left t k v c)) (sym (same_test c)) ∙ last-left (eqb (refusal k w c) 0) c
