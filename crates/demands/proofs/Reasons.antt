-- Which settings have which fault: 4 is given to unknown keys alone, 5 to keys of words and numbers, and 13, 14, 15 to hosts, hostaddrs and ports that are too many.
-- Assumes nothing.
use Prim.{Unit, tt}
use Prim.Native.Nat.{ℕ, zero, suc, ◌+◌, ◌-◌, ◌^◌, ◌≤◌, ◌<◌}
use mathlib.Core.Path.{◌≡◌, refl, sym, ap, subst, ◌∙◌}
use mathlib.Core.Bool.{Bool, true, false}
use mathlib.Core.List.{List, [], ◌∷◌}
use mathlib.Core.Logic.{◌↔◌}
use native.Mathlib.Nat.{add-zero}
use native.Mathlib.Omega.{arith}
use lib.Dec.{eqb, ltb}
use borrow.Author.Tests.{ltb-false}
use lib.ListN.{length, get_or}
use Rattle.byte.specs.Byte.{pick}
use Rattle.names.specs.Find.{word_number}
use Rattle.split.specs.Split.{split}
use Rattle.std.specs.Prelude.{Option, Some, None, Result, Ok, Err, ⊤}
use Rattle.number.specs.declared.NumberError.{NumberError}
use Rattle.number.specs.Number.{unsigned_of}
use Rattle.address.specs.declared.Address.{Address}
use Rattle.address.specs.Address.{address_of}
use Rattle.lists.specs.declared.Fault.{Fault}
use Rattle.lists.specs.Fault.{fault_number, is_fine, number_of}
use Rattle.lists.specs.Append.{Piece, good, bad, Slots, more, pushed, append, append_from, pieces_from, listed}
use Rattle.lists.specs.Lists.{port_read, port_piece, address_read, address_piece, host_piece, port_slots, address_slots, host_slots, host_pushed, ports_after, addresses_after, hosts_after, host_after}
use Rattle.config.specs.declared.Config.{Config}
use Rattle.apply.specs.Apply.{word_fault, number_fault, seconds_in, faults, fault_of, applied}
use Rattle.apply.proofs.Laws.{applied-fault}
use Rattle.setting.specs.Setting.{Setting, kind_of}
use Rattle.uri_keys.proofs.Keys.{setting-most}
use Rattle.demands.specs.Giving.{Reason, unknown-key, value, hosts, one-host, hostaddrs, ports}

abbrev Given : Config → List ℕ → ℕ → Result ⊤ Fault → Type 0
Given c v kind f = is_fine f ≡ false → Reason c v kind (number_of f)

-- a piece that is bad has a fault that passes a test
abbrev Bad : {A : Type 0} → (Result ⊤ Fault → Type 0) → Piece A → Type 0
Bad P (good a) = Unit
Bad P (bad f) = P (Err f)

-- and so has a list that its pieces are appended to: it is full only where the used places and the pieces, total at most, are more than sixteen
module _ {A : Type 0} (P : Result ⊤ Fault → Type 0) (full : Fault) (total : ℕ) (no : P (Ok tt)) (all : 16 < total → P (Err full)) where
  append-fault : (s : Slots A) (p : Piece A) → Bad P p → s.count + 1 ≤ total → P (append full s p).fault
  append-fault s (bad f) h l = h
  append-fault s (good a) h l = by (ltb s.count 16) refl
    where
      by : (k : Bool) → ltb s.count 16 ≡ k → P (pick k (more (Ok tt) (pushed s a)) (more (Err full) s)).fault
      by true e = no
      by false e = all (omega (arith, ltb-false s.count 16 e))

  append-count : (s : Slots A) (p : Piece A) → (append full s p).slots.count ≤ s.count + 1
  append-count s (bad f) = omega arith
  append-count s (good a) = by (ltb s.count 16)
    where
      by : (k : Bool) → (pick k (more (Ok tt) (pushed s a)) (more (Err full) s)).slots.count ≤ s.count + 1
      by true = omega arith
      by false = omega arith

  module _ (read : ℕ → List ℕ → Piece A) (each : (at : ℕ) (w : List ℕ) → Bad P (read at w)) (old : Slots A) where
    pieces-fault : (ws : List (List ℕ)) (at : ℕ) (s : Slots A) → s.count + length ws ≤ total → P (append_from full old s (pieces_from read at ws)).fault
    unfolding append_from pieces_from
    pieces-fault [] at s l = no
    pieces-fault (w ∷ ws) at s l =
        by (is_fine (append full s (read at w)).fault) (append-fault s (read at w) (each at w) (omega arith))
        (pieces-fault ws (at + length w + 1) (append full s (read at w)).slots (omega (arith, append-count s (read at w))))
      where
        by : (k : Bool) → P (append full s (read at w)).fault → P (append_from full old (append full s (read at w)).slots (pieces_from read (at + length w + 1) ws)).fault
            → P (pick k (append_from full old (append full s (read at w)).slots (pieces_from read (at + length w + 1) ws)) (more (append full s (read at w)).fault old)).fault
        by true a b = b
        by false a b = a

    listed-fault : (v : List ℕ) (at : ℕ) (s : Slots A) → s.count + length (split 44 v) ≤ total → P (append_from full old s (listed read at v)).fault
    unfolding listed
    listed-fault v at s l = pieces-fault (split 44 v) at s l

-- the keys of words, numbers and addresses
abbrev Valued : ℕ → Type 0
Valued kind = (6 ≤ kind) × (kind ≤ 19) × (kind ≡ 8 → ⊥)

below : (kind : ℕ) → 6 ≤ kind → kind ≤ 7 → Valued kind
below kind a b = (a, omega arith, λ (e : kind ≡ 8). omega (arith, e))

above : (kind : ℕ) → 9 ≤ kind → kind ≤ 19 → Valued kind
above kind a b = (omega arith, b, λ (e : kind ≡ 8). omega (arith, e))

-- faults of kinds that are counted from k on
infixr 5 ◌⊗◌
data Each (P : ℕ → Result ⊤ Fault → Type 0) : ℕ → List (Result ⊤ Fault) → Type 0 where
  done : {k : ℕ} → Each P k []
  ◌⊗◌ : {k : ℕ} {f : Result ⊤ Fault} {fs : List (Result ⊤ Fault)} → P k f → Each P (suc k) fs → Each P k (f ∷ fs)

look : {P : ℕ → Result ⊤ Fault → Type 0} {k : ℕ} {fs : List (Result ⊤ Fault)} → Each P k fs → (i : ℕ) → i < length fs → P (k + i) (get_or fs i (Err Fault.UnknownKey))
look done i l = absurd (omega arith)
look {P} {k} (◌⊗◌ {f = f} e es) zero l = subst (λ (n : ℕ). P n f) (sym (add-zero k)) e
look {P} {k} (◌⊗◌ {fs = fs} e es) (suc i) l =
    let m : suc k + i ≡ k + suc i = omega arith in
    subst (λ (n : ℕ). P n (get_or fs i (Err Fault.UnknownKey))) m (look es i (omega arith))

module _ (c : Config) (v : List ℕ) where
  fine : (kind : ℕ) → Given c v kind (Ok tt)
  fine kind e = let z : ◌≡◌ {A = ℕ} 0 1 = cc in absurd (omega arith)

  five : (kind : ℕ) → Valued kind → (f : Fault) → fault_number f ≡ 5 → Given c v kind (Err f)
  five kind k f e _ = subst (Reason c v kind) (sym e) (value k.0 k.1 k.2)

  word-fault : (kind : ℕ) → Valued kind → (n : ℕ) → Given c v kind (word_fault n)
  word-fault kind h n = by (eqb n 0)
    where
      by : (k : Bool) → Given c v kind (pick k (Err Fault.Word) (Ok tt))
      by true = five kind h Fault.Word refl
      by false = fine kind

  number-fault : (kind : ℕ) → Valued kind → (n : Result ℕ NumberError) → Given c v kind (number_fault n)
  number-fault kind h (Ok n) = fine kind
  number-fault kind h (Err NumberError.Form) = five kind h Fault.Form refl
  number-fault kind h (Err NumberError.Range) = five kind h Fault.Range refl

  host-piece : (kind at : ℕ) (w : List ℕ) → Bad (Given c v kind) (host_piece at w)
  unfolding host_piece
  host-piece kind at w = tt

  address-piece : (at : ℕ) (w : List ℕ) → Bad (Given c v 9) (address_piece w)
  unfolding address_piece
  address-piece at w = by (address_of w)
    where
      by : (a : Option Address) → Bad (Given c v 9) (address_read a)
      by (Some a) = tt
      by None = five 9 (above 9 (omega arith) (omega arith)) Fault.NoAddress refl

  port-piece : (at : ℕ) (w : List ℕ) → Bad (Given c v 10) (port_piece w)
  unfolding port_piece
  port-piece at w = by (eqb (length w) 0) (unsigned_of 65535 w)
    where
      by : (k : Bool) (n : Result ℕ NumberError) → Bad (Given c v 10) (pick k (good 5432) (port_read n))
      by true n = tt
      by false (Ok n) = tt
      by false (Err NumberError.Form) = five 10 (above 10 (omega arith) (omega arith)) Fault.Form refl
      by false (Err NumberError.Range) = five 10 (above 10 (omega arith) (omega arith)) Fault.Range refl

  addresses-fault : Given c v 9 (addresses_after c.hostaddr v).fault
  unfolding addresses_after
  addresses-fault =
      listed-fault (Given c v 9) Fault.ManyHostaddrs (c.hostaddr.count + length (split 44 v)) (fine 9) (λ h _. hostaddrs h) (λ (at : ℕ). address_piece) address-piece
      (address_slots c.hostaddr) v 0 (address_slots c.hostaddr) (omega arith)

  ports-fault : Given c v 10 (ports_after c.port v).fault
  unfolding ports_after
  ports-fault =
      listed-fault (Given c v 10) Fault.ManyPorts (c.port.count + length (split 44 v)) (fine 10) (λ h _. ports h) (λ (at : ℕ). port_piece) port-piece
      (port_slots c.port) v 0 (port_slots c.port) (omega arith)

module _ (v : List ℕ) (start : ℕ) (c : Config) where
  hosts-fault : Given c v 8 (hosts_after c.host start v).fault
  unfolding hosts_after
  hosts-fault =
      listed-fault (Given c v 8) Fault.ManyHosts (c.host.count + length (split 44 v)) (fine c v 8) (λ h _. hosts h) host_piece (host-piece c v 8)
      (host_slots c.host) v start (host_slots c.host) (omega arith)

  host-fault : Given c v 20 (host_after c.host start v).fault
  unfolding host_after host_pushed
  host-fault =
      append-fault (Given c v 20) Fault.ManyHosts (c.host.count + 1) (fine c v 20) (λ h _. one-host h) (host_slots c.host) (host_piece start v) (host-piece c v 20 start v)
      (omega arith)

  -- an entry for each kind
  each : Each (Given c v) 0 (faults v start c)
  each =
      (λ _. unknown-key) ⊗
      fine c v 1 ⊗
      fine c v 2 ⊗
      fine c v 3 ⊗
      fine c v 4 ⊗
      fine c v 5 ⊗
      word-fault c v 6 (below 6 (omega arith) (omega arith)) (word_number 6 v) ⊗
      word-fault c v 7 (below 7 (omega arith) (omega arith)) (word_number 7 v) ⊗
      hosts-fault ⊗
      addresses-fault c v ⊗
      ports-fault c v ⊗
      number-fault c v 11 (above 11 (omega arith) (omega arith)) (seconds_in v) ⊗
      number-fault c v 12 (above 12 (omega arith) (omega arith)) (seconds_in v) ⊗
      number-fault c v 13 (above 13 (omega arith) (omega arith)) (unsigned_of (2 ^ 64 - 1) v) ⊗
      number-fault c v 14 (above 14 (omega arith) (omega arith)) (seconds_in v) ⊗
      number-fault c v 15 (above 15 (omega arith) (omega arith)) (seconds_in v) ⊗
      number-fault c v 16 (above 16 (omega arith) (omega arith)) (unsigned_of (2 ^ 32 - 1) v) ⊗
      word-fault c v 17 (above 17 (omega arith) (omega arith)) (word_number 17 v) ⊗
      word-fault c v 18 (above 18 (omega arith) (omega arith)) (word_number 18 v) ⊗
      word-fault c v 19 (above 19 (omega arith) (omega arith)) (word_number 19 v) ⊗
      host-fault ⊗
      done

  kind-reason : (kind : ℕ) → kind ≤ 20 → is_fine (fault_of kind v start c) ≡ false → Reason c v kind (number_of (fault_of kind v start c))
  unfolding fault_of
  kind-reason kind h e =
      let z : 0 + kind ≡ kind = omega arith in
      subst (λ (n : ℕ). Reason c v n (number_of (get_or (faults v start c) kind (Err Fault.UnknownKey)))) z (look each kind (omega arith) e)

  -- a setting that can't be applied, of whatever kind
  pub reason : (x : Setting) → is_fine (applied (kind_of x) v start c).fault ≡ false → Reason c v (kind_of x) (number_of (applied (kind_of x) v start c).fault)
  reason x e =
      let f : (applied (kind_of x) v start c).fault ≡ fault_of (kind_of x) v start c = applied-fault (kind_of x) v start c in
      subst (λ (y : Result ⊤ Fault). Reason c v (kind_of x) (number_of y)) (sym f) (kind-reason (kind_of x) (setting-most x) (ap is_fine (sym f) ∙ e))

-- what a reason tells of the kind and the number
pub reason-five : {c : Config} {v : List ℕ} {kind number : ℕ} → Reason c v kind number → number ≡ 5 → (1 ≤ kind) × (kind ≤ 19)
reason-five unknown-key e = absurd (omega arith)
reason-five (value a b d) e = (omega arith, b)
reason-five (hosts h) e = absurd (omega arith)
reason-five (one-host h) e = absurd (omega arith)
reason-five (hostaddrs h) e = absurd (omega arith)
reason-five (ports h) e = absurd (omega arith)

-- 4 "unknown key"
pub reason-four : {c : Config} {v : List ℕ} {kind number : ℕ} → Reason c v kind number → (number ≡ 4) ↔ (kind ≡ 0)
reason-four unknown-key = (λ _. refl, λ _. refl)
reason-four (value a b d) = (λ e. absurd (omega arith), λ e. absurd (omega arith))
reason-four (hosts h) = (λ e. absurd (omega arith), λ e. absurd (omega arith))
reason-four (one-host h) = (λ e. absurd (omega arith), λ e. absurd (omega arith))
reason-four (hostaddrs h) = (λ e. absurd (omega arith), λ e. absurd (omega arith))
reason-four (ports h) = (λ e. absurd (omega arith), λ e. absurd (omega arith))
