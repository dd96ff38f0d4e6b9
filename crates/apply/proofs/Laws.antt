-- Laws of one setting applied: what comes back where it is refused and where it is not, and the kinds that are unknown.
-- Assumes nothing.
use Prim.{Unit}
use Prim.Native.Nat.{ℕ, zero, suc, ◌≤◌}
use mathlib.Core.Path.{◌≡◌, refl}
use mathlib.Core.Bool.{true, false}
use mathlib.Core.List.{List}
use native.Mathlib.Omega.{arith}
use lib.ListN.{get_or-eq_default}
use Rattle.std.specs.Prelude.{Ok, Err}
use Rattle.lists.specs.declared.Fault.{Fault}
use Rattle.lists.specs.Fault.{is_fine}
use Rattle.lists.proofs.Faults.{fine-none}
use Rattle.config.specs.declared.Config.{Config}
use Rattle.apply.specs.Apply.{Applied, faults, fault_of, after, applied}

module _ (kind : ℕ) (v : List ℕ) (start : ℕ) (c : Config) where
  pub applied-fault : (applied kind v start c).fault ≡ fault_of kind v start c
  unfolding applied
  applied-fault = refl

  pub applied-fine : is_fine (fault_of kind v start c) ≡ true → applied kind v start c ≡ record { fault = Ok tt; config = after kind v start c }
  unfolding applied
  applied-fine e = rw (fine-none (fault_of kind v start c) e)

  -- on a refusal the record that comes back is the one that went in
  pub applied-refused : is_fine (fault_of kind v start c) ≡ false → applied kind v start c ≡ record { fault = fault_of kind v start c; config = c }
  unfolding applied
  applied-refused e = rw e

-- 4 "unknown key": neither a key's number nor that of one host
unlisted : (kind : ℕ) (v : List ℕ) (start : ℕ) (c : Config) → (1 ≤ kind → 21 ≤ kind) → fault_of kind v start c ≡ Err Fault.UnknownKey
unfolding fault_of
unlisted zero v start c h = refl
unlisted (suc k) v start c h = get_or-eq_default (faults v start c) (Err Fault.UnknownKey) {n = suc k} (h (omega arith))

pub unknown : (kind : ℕ) (v : List ℕ) (start : ℕ) (c : Config) → (1 ≤ kind → 21 ≤ kind) → ◌≡◌ {A = Applied} (record { fault = Err Fault.UnknownKey; config = c }) (applied kind v start c)
unfolding applied
unknown kind v start c h = rw (unlisted kind v start c h)

-- a number that is none of 1 to n
abbrev pub None : ℕ → ℕ → Type 0
None zero kind = Unit
None (suc n) kind = None n kind × (kind ≡ suc n → ⊥)

pub beyond : (n kind : ℕ) → None n kind → 1 ≤ kind → suc n ≤ kind
beyond zero kind r h = h
beyond (suc n) kind r h = let l = beyond n kind r.0 h in let d = r.1 in omega arith
