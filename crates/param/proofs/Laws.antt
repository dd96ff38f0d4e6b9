-- The record after a setting, by the number of its kind, also of one that is unknown.
-- Assumes nothing.
use Prim.Native.Nat.{ℕ, zero, suc, ◌+◌, ◌^◌, ◌<◌, ◌≤◌}
use mathlib.Core.Path.{◌≡◌, ap}
use mathlib.Core.Bool.{Bool, true, false}
use mathlib.Core.List.{List}
use native.Mathlib.Omega.{arith}
use lib.ListN.{length}
use borrow.Author.Tests.{ne_eqb}
use Rattle.std.specs.Prelude.{Result, Err, ⊤}
use Rattle.byte.specs.Byte.{part_of}
use Rattle.byte.proofs.Parts.{part-most}
use Rattle.address.specs.declared.Address.{Address}
use Rattle.lists.specs.declared.Fault.{Fault}
use Rattle.lists.specs.declared.Host.{Host}
use Rattle.lists.specs.declared.Hosts.{Hosts}
use Rattle.lists.specs.declared.Addresses.{Addresses}
use Rattle.lists.specs.declared.Ports.{Ports}
use Rattle.lists.specs.Fault.{is_fine}
use Rattle.lists.specs.Append.{slots, append_all, listed}
use Rattle.lists.specs.Lists.{host_piece, address_piece, port_piece, host_slots, address_slots, port_slots, hosts_after, addresses_after, ports_after}
use Rattle.config.specs.declared.Config.{Config}
use Rattle.apply.specs.Apply.{Applied, word_fault, fault_of, after, applied}
use Rattle.apply.proofs.Laws.{None, beyond, unknown}
use Rattle.field_keys.specs.Fields.{word_after}
use Rattle.list_keys.specs.Pieces.{Adds}
use Rattle.param.specs.Sets.{Sets}

-- what was applied to the value that stands there, by the number of its kind: the fault, and with none the record
pub by_kind : (kind n : ℕ) (v w : List ℕ) (start : ℕ) (c d : Config) (r : Result ⊤ Fault) → kind ≡ n → w ≡ v
    → r ≡ fault_of n w start c → (is_fine (fault_of n w start c) ≡ true → d ≡ after n w start c) → Sets r (applied kind v start c) d
unfolding applied
by_kind kind n v w start c d r k e x g = rw (k, ← e) (x, λ f. rw f (g f))

-- 4 "unknown key"
pub other : (kind : ℕ) (v : List ℕ) (start : ℕ) (c : Config) → None 20 kind → Sets (Err Fault.UnknownKey) (applied kind v start c) c
other kind v start c h = let u = unknown kind v start c (beyond 20 kind h) in (ap (λ (a : Applied). a.fault) u, λ _. ap (λ (a : Applied). a.config) u)

-- a word that is not refused has a number
pub word-is : {A : Type 0} (of : ℕ → A) (old : A) (n : ℕ) → is_fine (word_fault n) ≡ true → word_after of old n ≡ of n
word-is of old zero e = let z : ◌≡◌ {A = Bool} false true = e in cc
word-is of old (suc n) e = rw (ne_eqb (suc n) 0 (λ z. absurd (omega arith)))

-- a list after a value's pieces
module _ (r : Result ⊤ Fault) (n start : ℕ) (v : List ℕ) where
  pub hosts-are : (h : Hosts) (l : List Host) → Adds r (slots l n) (append_all Fault.ManyHosts (host_slots h) (listed host_piece start v))
      → (r ≡ (hosts_after h start v).fault) × (is_fine (hosts_after h start v).fault ≡ true → ◌≡◌ {A = Hosts} (record { list = l; count = n }) (hosts_after h start v).hosts)
  unfolding hosts_after
  hosts-are h l x = (x.0, λ e. rw (← x.1 e))

  pub addresses-are : (a : Addresses) (l : List Address) → Adds r (slots l n) (append_all Fault.ManyHostaddrs (address_slots a) (listed (λ (at : ℕ). address_piece) 0 v))
      → (r ≡ (addresses_after a v).fault) × (is_fine (addresses_after a v).fault ≡ true → ◌≡◌ {A = Addresses} (record { list = l; count = n }) (addresses_after a v).addresses)
  unfolding addresses_after
  addresses-are a l x = (x.0, λ e. rw (← x.1 e))

  pub ports-are : (p : Ports) (l : List ℕ) → Adds r (slots l n) (append_all Fault.ManyPorts (port_slots p) (listed (λ (at : ℕ). port_piece) 0 v))
      → (r ≡ (ports_after p v).fault) × (is_fine (ports_after p v).fault ≡ true → ◌≡◌ {A = Ports} (record { list = l; count = n }) (ports_after p v).ports)
  unfolding ports_after
  ports-are p l x = (x.0, λ e. rw (← x.1 e))

-- a part of what can be lent ends at a number of 64 bits; an empty one, wherever it would start
pub within : (start end : ℕ) (s v : List ℕ) → v ≡ part_of start end s → start < 2 ^ 64 → length s < 2 ^ 64 → start + length v ≤ 18446744073709551615
within start end s v e a b = rw e (omega (arith, part-most start end s))
