-- The numbers that a reading's end and a setting's fault have: 0 or 6 to 12 for the one, 4, 5 or 13 to 15 for the other, and so never 1, 2 or 3.
-- Assumes nothing.
use Prim.Native.Nat.{ℕ, zero, suc, ◌-◌, ◌≤◌, ◌<◌}
use mathlib.Core.Path.{◌≡◌, refl, sym, ap, subst}
use mathlib.Core.Bool.{Bool, true, false}
use mathlib.Core.List.{List}
use mathlib.Core.Logic.{◌⊎◌, inl, inr}
use native.Mathlib.Omega.{arith}
use lib.Dec.{eqb}
use lib.ListN.{length, drop}
use Rattle.byte.specs.Byte.{pick}
use Rattle.names.specs.Find.{prefix_len}
use Rattle.setting.specs.Setting.{Reading}
use Rattle.std.proofs.Common.{Ok, Err, Some, None}
use Rattle.setting.specs.Refusal.{refusal_number}
use Rattle.keyvalue.specs.KeyValue.{Step, key_value, parameter_at}
use Rattle.keyvalue.proofs.Stands.{Number, Stands, stands, number}
use Rattle.keyvalue.proofs.Reading.{reading-done, reading-refused, reading-found}
use Rattle.url_parser.specs.Uri.{uri}
use Rattle.url_parser.proofs.Ends.{UriEnd, uri-end}
use Rattle.std.specs.Prelude.{Result, Ok, Err, ⊤}
use Rattle.lists.specs.declared.Fault.{Fault}
use Rattle.lists.specs.Fault.{fault_number, is_fine, number_of}
use Rattle.outcome.specs.Outcome.{reading}
use Rattle.demands.specs.Leaving.{FaultNumber}

-- the end of a reading: clean, or 6 to 12
abbrev pub Ending : ℕ → Type 0
Ending n = (n ≡ 0) ⊎ ((6 ≤ n) × (n ≤ 12))

module _ (s : List ℕ) where
  pair_ends : (n at : ℕ) → length s - at < n → Ending (key_value (drop at s)).end
  pair_ends zero at l = absurd (omega arith)
  pair_ends (suc n) at l = by (parameter_at s at) refl (pair_ends n)
    where
      by : (step : Step) → parameter_at s at ≡ step → ((to : ℕ) → length s - to < n → Ending (key_value (drop to s)).end) → Ending (key_value (drop at s)).end
      by (Err None) e below = inl (ap (λ (r : Reading). r.end) (reading-done s at e))
      by (Err (Some x)) e below =
          let k : Number (refusal_number x) = number s at x e in
          let q : (key_value (drop at s)).end ≡ refusal_number x = ap (λ (r : Reading). r.end) (reading-refused s at x e) in
          inr (omega (arith, k.low), omega (arith, k.high))
      by (Ok p) e below =
          let k : Stands s at p.key p.value p.next = stands s at p.key p.value p.next e in
          subst Ending (ap (λ (r : Reading). r.end) (sym (reading-found s at p.key p.value p.next e))) (below p.next (omega (arith, k.grows, k.within)))

  uri-ending : (n : ℕ) → UriEnd n → Ending n
  uri-ending n (inl e) = inl e
  uri-ending n (inr h) = inr (omega (arith, h.0), h.1)

  reading-ending : Ending (reading s).end
  unfolding reading
  reading-ending = by (eqb (prefix_len s) 0)
    where
      by : (k : Bool) → Ending (pick k (key_value s) (uri (drop (prefix_len s) s))).end
      by true = pair_ends (suc (length s)) 0 (omega arith)
      by false = uri-ending (uri (drop (prefix_len s) s)).end (uri-end (drop (prefix_len s) s))

  refusal-of : (n : ℕ) → Ending n → (n ≡ 0 → ⊥) → (6 ≤ n) × (n ≤ 12)
  refusal-of n (inl e) h = absurd (h e)
  refusal-of n (inr x) h = x

  -- an end that is not clean is one of 6 to 12
  pub end-refusal : ((reading s).end ≡ 0 → ⊥) → (6 ≤ (reading s).end) × ((reading s).end ≤ 12)
  end-refusal h = refusal-of (reading s).end reading-ending h

-- a fault's number
fault-code : (f : Fault) → FaultNumber (fault_number f)
fault-code Fault.UnknownKey = inl (omega arith, omega arith)
fault-code Fault.Word = inl (omega arith, omega arith)
fault-code Fault.Form = inl (omega arith, omega arith)
fault-code Fault.Range = inl (omega arith, omega arith)
fault-code Fault.NoAddress = inl (omega arith, omega arith)
fault-code Fault.ManyHosts = inr (omega arith, omega arith)
fault-code Fault.ManyHostaddrs = inr (omega arith, omega arith)
fault-code Fault.ManyPorts = inr (omega arith, omega arith)

pub fault-number : (r : Result ⊤ Fault) → is_fine r ≡ false → FaultNumber (number_of r)
fault-number (Ok x) e = let z : ◌≡◌ {A = ℕ} 0 1 = cc in absurd (omega arith)
fault-number (Err f) e = fault-code f

pub fault-least : (n : ℕ) → FaultNumber n → 4 ≤ n
fault-least n (inl h) = h.0
fault-least n (inr h) = omega (arith, h.0)

-- and none of an end's
pub fault-no-end : (n : ℕ) → FaultNumber n → 6 ≤ n → n ≤ 12 → ⊥
fault-no-end n (inl h) a b = omega (arith, h.1)
fault-no-end n (inr h) a b = omega (arith, h.0)
