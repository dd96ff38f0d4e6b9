-- Only a setting that is not refused is fine, and only that one has no number.
-- Assumes nothing.
use Prim.Native.Nat.{ℕ}
use mathlib.Core.Path.{◌≡◌, refl}
use mathlib.Core.Bool.{true, false}
use native.Mathlib.Omega.{arith}
use Rattle.std.specs.Prelude.{Result, Ok, Err, ⊤}
use Rattle.lists.specs.declared.Fault.{Fault}
use Rattle.lists.specs.Fault.{fault_number, is_fine, number_of}

pub fine-none : (r : Result ⊤ Fault) → is_fine r ≡ true → r ≡ Ok tt
fine-none (Ok x) e = refl
fine-none (Err f) e = cc

numbered : (f : Fault) → fault_number f ≡ 0 → ⊥
numbered Fault.UnknownKey z = omega arith
numbered Fault.Word z = omega arith
numbered Fault.Form z = omega arith
numbered Fault.Range z = omega arith
numbered Fault.NoAddress z = omega arith
numbered Fault.ManyHosts z = omega arith
numbered Fault.ManyHostaddrs z = omega arith
numbered Fault.ManyPorts z = omega arith

pub fault-numbered : (r : Result ⊤ Fault) → is_fine r ≡ false → number_of r ≡ 0 → ⊥
fault-numbered (Ok x) e z = let q : ◌≡◌ {A = ℕ} 0 1 = cc in omega arith
fault-numbered (Err f) e z = numbered f z
