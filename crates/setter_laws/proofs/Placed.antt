-- Every record that a host can get has lists of sixteen places, and a setter leaves a sound record sound: the default record, one that was read, and what setters make of them.
-- Assumes nothing.
use Rattle.std.specs.Prelude.{Ok, Err}
use Prim.Native.Nat.{ℕ, ◌+◌, ◌<◌, ◌≤◌}
use mathlib.Core.Path.{◌≡◌, refl, sym, ap, ◌∙◌}
use mathlib.Core.Bool.{Bool, true, false, ◌&&◌}
use mathlib.Core.List.{List}
use native.Mathlib.Omega.{arith}
use borrow.Author.Tests.{lt-ltb, eqb-true}
use lib.Dec.{eqb, ltb}
use lib.ListN.{length, length-set}
use Rattle.byte.specs.Byte.{pick}
use Rattle.address.specs.declared.Address.{Address}
use Rattle.lists.specs.declared.Fault.{Fault}
use Rattle.lists.specs.declared.Addresses.{Addresses}
use Rattle.lists.specs.declared.Ports.{Ports}
use Rattle.lists.specs.Append.{more, pushed}
use Rattle.lists.specs.Lists.{address_slots, more_addresses, address_kept, port_slots, more_ports, port_kept}
use Rattle.config.specs.declared.Config.{Config}
use Rattle.config.specs.Config.{defaults}
use Rattle.config.specs.Sound.{counted, text_in, hosts_in, sound}
use Rattle.outcome.specs.Outcome.{answer, left}
use Rattle.setters.specs.Setter.{Value, refusal, changed, set}
use Rattle.demands.proofs.Shows.{read-in, read-sound}
use Rattle.setter_laws.proofs.Numbers.{Fit, fit-counted, judged}
use Rattle.setter_laws.proofs.Seen.{Placed}

pub defaults-placed : Placed defaults
unfolding defaults
defaults-placed = record { addresses = refl; ports = refl }

-- whatever the text and the decode buffer are
pub read-placed : (s d : List ℕ) → Placed (answer s (length d)).config
read-placed s d = record { addresses = (read-in s d).addresses.places; ports = (read-in s d).ports.places }

-- an element more takes no place more
address-places : (a : Addresses) (x : Address) → length (address_kept a x).addresses.list ≡ length a.list
unfolding address_kept
address-places a x = by (ltb a.count 16)
  where
    by : (t : Bool) → length (more_addresses (pick t (more (Ok tt) (pushed (address_slots a) x)) (more (Err Fault.ManyHostaddrs) (address_slots a)))).addresses.list ≡ length a.list
    by true = rw length-set
    by false = refl

port-places : (p : Ports) (x : ℕ) → length (port_kept p x).ports.list ≡ length p.list
unfolding port_kept
port-places p x = by (ltb p.count 16)
  where
    by : (t : Bool) → length (more_ports (pick t (more (Ok tt) (pushed (port_slots p) x)) (more (Err Fault.ManyPorts) (port_slots p)))).ports.list ≡ length p.list
    by true = rw length-set
    by false = refl

either : {A : Type 0} (P : A → Type 0) (q : Bool) (new old : A) → P new → P old → P (pick q new old)
either P true new old h k = h
either P false new old h k = k

-- where there was room, at most sixteen are counted
few-addresses : (q : Bool) (a : Addresses) (x : Address) → (q ≡ true → a.count < 16) → a.count ≤ 16 → (pick q (address_kept a x).addresses a).count ≤ 16
unfolding address_kept
few-addresses true a x room h =
    let r : a.count < 16 = room refl in
    let n : a.count + 1 ≤ 16 = omega arith in
    rw (lt-ltb a.count 16 r) n
few-addresses false a x room h = h

few-ports : (q : Bool) (p : Ports) (x : ℕ) → (q ≡ true → p.count < 16) → p.count ≤ 16 → (pick q (port_kept p x).ports p).count ≤ 16
unfolding port_kept
few-ports true p x room h =
    let r : p.count < 16 = room refl in
    let n : p.count + 1 ≤ 16 = omega arith in
    rw (lt-ltb p.count 16 r) n
few-ports false p x room h = h

module _ (key : ℕ) (v : Value) (c : Config) where
  changed-placed : Placed c → Placed (changed key v c)
  unfolding changed
  changed-placed p =
      record {
        addresses =
            either (λ (a : Addresses). length a.list ≡ 16) (eqb key 9) (address_kept c.hostaddr v.address).addresses c.hostaddr
            (address-places c.hostaddr v.address ∙ p.addresses) p.addresses;
        ports =
            either (λ (a : Ports). length a.list ≡ 16) (eqb key 10) (port_kept c.port v.number).ports c.port
            (port-places c.port v.number ∙ p.ports) p.ports;
      }

  pub set-placed : Placed c → Placed (set key v c).config
  unfolding set
  set-placed p = either Placed (eqb (refusal key v c) 0) (changed key v c) c (changed-placed p) p

  changed-fit : (set key v c).number ≡ 0 → Fit (changed key v c)
  unfolding changed
  changed-fit done =
      let j = (judged key v c).zero done in
      record {
        hosts = j.0.hosts;
        addresses = few-addresses (eqb key 9) c.hostaddr v.address (λ (e : eqb key 9 ≡ true). j.1 (eqb-true key 9 e)) j.0.addresses;
        ports = few-ports (eqb key 10) c.port v.number (λ (e : eqb key 10 ≡ true). j.2 (eqb-true key 10 e)) j.0.ports;
      }

  changed-counted : (set key v c).number ≡ 0 → counted (changed key v c) ≡ counted c
  changed-counted done = fit-counted (changed key v c) (changed-fit done) ∙ sym (fit-counted c ((judged key v c).zero done).0)

  changed-sound : (n : ℕ) → (set key v c).number ≡ 0 → sound n (changed key v c) ≡ sound n c
  unfolding sound changed
  changed-sound n done =
      ap (λ (t : Bool). t && text_in n c.user && text_in n c.password && text_in n c.dbname && text_in n c.options && text_in n c.application_name && hosts_in n c.host)
      (changed-counted done)

  -- no setter changes what a report says of the record's soundness, refused or not
  pub set-sound : (n : ℕ) → sound n (set key v c).config ≡ sound n c
  unfolding set
  set-sound n = by (eqb (refusal key v c) 0) refl
    where
      by : (t : Bool) → eqb (refusal key v c) 0 ≡ t → sound n (pick t (changed key v c) c) ≡ sound n c
      by true e = changed-sound n (eqb-true (refusal key v c) 0 e)
      by false e = refl

-- so a record that was read and then set is never refused with 17 by a report over the buffer that the text left
pub read-set-sound : (s d : List ℕ) (key : ℕ) (v : Value) → sound (length (left s d)) (set key v (answer s (length d)).config).config ≡ true
read-set-sound s d key v = set-sound key v (answer s (length d)).config (length (left s d)) ∙ read-sound s d
