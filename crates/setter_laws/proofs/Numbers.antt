-- When a setter is refused, with which number, and that it changes nothing then.
-- Assumes nothing.
use Rattle.std.specs.Prelude.{Ok, Err}
use Prim.Native.Nat.{ℕ, ◌<◌, ◌≤◌}
use mathlib.Core.Path.{◌≡◌, refl, sym, ◌∙◌}
use mathlib.Core.Bool.{Bool, true, false, ◌&&◌}
use native.Mathlib.Omega.{arith}
use borrow.Author.Tests.{ltb-true, ltb-false, leb-true, eqb-true, lt-ltb, le-ltb, le-leb, eq-eqb, ne_eqb}
use lib.Dec.{eqb, ltb, leb}
use Rattle.byte.specs.Byte.{pick}
use Rattle.address.specs.declared.Address.{Address}
use Rattle.lists.specs.declared.Fault.{Fault}
use Rattle.lists.specs.declared.Addresses.{Addresses}
use Rattle.lists.specs.declared.Ports.{Ports}
use Rattle.lists.specs.Fault.{number_of}
use Rattle.lists.specs.Append.{more, pushed}
use Rattle.lists.specs.Lists.{address_slots, more_addresses, address_kept, port_slots, more_ports, port_kept}
use Rattle.config.specs.declared.Config.{Config}
use Rattle.config.specs.Sound.{counted}
use Rattle.setters.specs.Setter.{Value, room, refusal, set}
use Rattle.setters.proofs.Answers.{refused-same}

-- the number of a refusal by five tests: the counts fit, key 9 and room for an address, key 10 and room for a port
abbrev told : Bool → Bool → Bool → Bool → Bool → ℕ
told q k a l p = pick q (pick k (pick a 0 14) (pick l (pick p 0 15) 0)) 17

address-number : (a : Addresses) (x : Address) → number_of (address_kept a x).fault ≡ pick (ltb a.count 16) 0 14
unfolding address_kept
address-number a x = by (ltb a.count 16)
  where
    by : (t : Bool) → number_of (more_addresses (pick t (more (Ok tt) (pushed (address_slots a) x)) (more (Err Fault.ManyHostaddrs) (address_slots a)))).fault ≡ pick t 0 14
    by true = refl
    by false = refl

port-number : (p : Ports) (x : ℕ) → number_of (port_kept p x).fault ≡ pick (ltb p.count 16) 0 15
unfolding port_kept
port-number p x = by (ltb p.count 16)
  where
    by : (t : Bool) → number_of (more_ports (pick t (more (Ok tt) (pushed (port_slots p) x)) (more (Err Fault.ManyPorts) (port_slots p)))).fault ≡ pick t 0 15
    by true = refl
    by false = refl

room-number : (key : ℕ) (v : Value) (c : Config) → number_of (room key v c) ≡ pick (eqb key 9) (pick (ltb c.hostaddr.count 16) 0 14) (pick (eqb key 10) (pick (ltb c.port.count 16) 0 15) 0)
unfolding room
room-number key v c = by (eqb key 9) (eqb key 10)
  where
    by : (k l : Bool) → number_of (pick k (address_kept c.hostaddr v.address).fault (pick l (port_kept c.port v.number).fault (Ok tt)))
        ≡ pick k (pick (ltb c.hostaddr.count 16) 0 14) (pick l (pick (ltb c.port.count 16) 0 15) 0)
    by true l = address-number c.hostaddr v.address
    by false true = port-number c.port v.number
    by false false = refl

number-told : (key : ℕ) (v : Value) (c : Config) → (set key v c).number ≡ told (counted c) (eqb key 9) (ltb c.hostaddr.count 16) (eqb key 10) (ltb c.port.count 16)
unfolding set refusal
number-told key v c = rw (room-number key v c)

-- what the five tests say where the number is known
told-17 : (q k a l p : Bool) → told q k a l p ≡ 17 → q ≡ false
told-17 false k a l p h = refl
told-17 true true true l p h = absurd (omega (arith, h))
told-17 true true false l p h = absurd (omega (arith, h))
told-17 true false a true true h = absurd (omega (arith, h))
told-17 true false a true false h = absurd (omega (arith, h))
told-17 true false a false p h = absurd (omega (arith, h))

told-14 : (q k a l p : Bool) → told q k a l p ≡ 14 → (q ≡ true) × (k ≡ true) × (a ≡ false)
told-14 false k a l p h = absurd (omega (arith, h))
told-14 true true true l p h = absurd (omega (arith, h))
told-14 true true false l p h = (refl, refl, refl)
told-14 true false a true true h = absurd (omega (arith, h))
told-14 true false a true false h = absurd (omega (arith, h))
told-14 true false a false p h = absurd (omega (arith, h))

told-15 : (q k a l p : Bool) → told q k a l p ≡ 15 → (q ≡ true) × (l ≡ true) × (p ≡ false)
told-15 false k a l p h = absurd (omega (arith, h))
told-15 true true true l p h = absurd (omega (arith, h))
told-15 true true false l p h = absurd (omega (arith, h))
told-15 true false a true true h = absurd (omega (arith, h))
told-15 true false a true false h = (refl, refl, refl)
told-15 true false a false p h = absurd (omega (arith, h))

told-0 : (q k a l p : Bool) → told q k a l p ≡ 0 → (q ≡ true) × (k ≡ true → a ≡ true) × (k ≡ false → l ≡ true → p ≡ true)
told-0 false k a l p h = absurd (omega (arith, h))
told-0 true true true l p h = (refl, (λ _. refl), (λ e _. cc))
told-0 true true false l p h = absurd (omega (arith, h))
told-0 true false a true true h = (refl, (λ e. cc), (λ _ _. refl))
told-0 true false a true false h = absurd (omega (arith, h))
told-0 true false a false p h = (refl, (λ e. cc), (λ _ e. cc))

told_free : (k a l p : Bool) → (k ≡ true → a ≡ true) → (l ≡ true → p ≡ true) → told true k a l p ≡ 0
told_free true a l p h g = rw (h refl)
told_free false a true p h g = rw (g refl)
told_free false a false p h g = refl

-- "Any list count above 16": none is
pub record Fit (c : Config) : Type 0 where
  pub hosts : c.host.count ≤ 16
  pub addresses : c.hostaddr.count ≤ 16
  pub ports : c.port.count ≤ 16

and_left : (x y : Bool) → x && y ≡ true → x ≡ true
and_left true y h = refl
and_left false y h = h

and_right : (x y : Bool) → x && y ≡ true → y ≡ true
and_right true y h = h
and_right false y h = cc

pub counted-fit : (c : Config) → counted c ≡ true → Fit c
unfolding counted
counted-fit c h =
    let t = and_left (leb c.host.count 16 && leb c.hostaddr.count 16) (leb c.port.count 16) h in
    record {
      hosts = leb-true c.host.count 16 (and_left (leb c.host.count 16) (leb c.hostaddr.count 16) t);
      addresses = leb-true c.hostaddr.count 16 (and_right (leb c.host.count 16) (leb c.hostaddr.count 16) t);
      ports = leb-true c.port.count 16 (and_right (leb c.host.count 16 && leb c.hostaddr.count 16) (leb c.port.count 16) h);
    }

pub fit-counted : (c : Config) → Fit c → counted c ≡ true
unfolding counted
fit-counted c h = rw (le-leb c.host.count 16 h.hosts, le-leb c.hostaddr.count 16 h.addresses, le-leb c.port.count 16 h.ports)

not-both : (t : Bool) → (t ≡ true → ⊥) → t ≡ false
not-both true h = absurd (h refl)
not-both false h = refl

-- "Any list count above 16 gives every setter 17, then a 17th port or hostaddr 15 or 14, the record unchanged": each number exactly when
pub record Judged (key : ℕ) (v : Value) (c : Config) : Type 0 where
  pub uncounted : (Fit c → ⊥) → (set key v c).number ≡ 17
  pub seventeen : (set key v c).number ≡ 17 → Fit c → ⊥
  pub full-addresses : Fit c → key ≡ 9 → c.hostaddr.count ≡ 16 → (set key v c).number ≡ 14
  pub fourteen : (set key v c).number ≡ 14 → Fit c × (key ≡ 9) × (c.hostaddr.count ≡ 16)
  pub full-ports : Fit c → key ≡ 10 → c.port.count ≡ 16 → (set key v c).number ≡ 15
  pub fifteen : (set key v c).number ≡ 15 → Fit c × (key ≡ 10) × (c.port.count ≡ 16)
  pub roomy : Fit c → (key ≡ 9 → c.hostaddr.count < 16) → (key ≡ 10 → c.port.count < 16) → (set key v c).number ≡ 0
  pub zero : (set key v c).number ≡ 0 → Fit c × (key ≡ 9 → c.hostaddr.count < 16) × (key ≡ 10 → c.port.count < 16)
  pub unchanged : ((set key v c).number ≡ 0 → ⊥) → (set key v c).config ≡ c

module _ (key : ℕ) (v : Value) (c : Config) where
  abbrev address_room : Bool
  address_room = ltb c.hostaddr.count 16

  abbrev port_room : Bool
  port_room = ltb c.port.count 16

  known : (n : ℕ) → (set key v c).number ≡ n → told (counted c) (eqb key 9) address_room (eqb key 10) port_room ≡ n
  known n h = sym (number-told key v c) ∙ h

  not-nine : key ≡ 10 → eqb key 9 ≡ false
  not-nine e = ne_eqb key 9 (λ (f : key ≡ 9). omega (arith, e, f))

  pub judged : Judged key v c
  judged =
      record {
        uncounted = λ h. number-told key v c ∙ rw (not-both (counted c) (λ e. h (counted-fit c e)));
        seventeen = λ h f. let z : false ≡ true = sym (told-17 (counted c) (eqb key 9) address_room (eqb key 10) port_room (known 17 h)) ∙ fit-counted c f in let n : ◌≡◌ {A = ℕ} 0 1 = cc in omega arith;
        full-addresses = λ f k a. number-told key v c ∙ rw (fit-counted c f, eq-eqb key 9 k, le-ltb c.hostaddr.count 16 (omega (arith, a)));
        fourteen =
            λ h.
            let t = told-14 (counted c) (eqb key 9) address_room (eqb key 10) port_room (known 14 h) in
            let f = counted-fit c t.0 in
            (f, eqb-true key 9 t.1, (let l = ltb-false c.hostaddr.count 16 t.2 in let m = f.addresses in omega arith));
        full-ports = λ f k p. number-told key v c ∙ rw (fit-counted c f, not-nine k, eq-eqb key 10 k, le-ltb c.port.count 16 (omega (arith, p)));
        fifteen =
            λ h.
            let t = told-15 (counted c) (eqb key 9) address_room (eqb key 10) port_room (known 15 h) in
            let f = counted-fit c t.0 in
            (f, eqb-true key 10 t.1, (let l = ltb-false c.port.count 16 t.2 in let m = f.ports in omega arith));
        roomy = λ f a p. number-told key v c ∙ rw (fit-counted c f) (told_free (eqb key 9) address_room (eqb key 10) port_room (λ e. lt-ltb c.hostaddr.count 16 (a (eqb-true key 9 e))) (λ e. lt-ltb c.port.count 16 (p (eqb-true key 10 e))));
        zero =
            λ h.
            let t = told-0 (counted c) (eqb key 9) address_room (eqb key 10) port_room (known 0 h) in (
              counted-fit c t.0,
              (λ k. ltb-true c.hostaddr.count 16 (t.1 (eq-eqb key 9 k))),
              (λ k. ltb-true c.port.count 16 (t.2 (not-nine k) (eq-eqb key 10 k))),
            );
        unchanged = refused-same key v c;
      }
