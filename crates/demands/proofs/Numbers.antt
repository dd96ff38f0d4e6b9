-- When each number is given.
-- Assumes nothing.
use Prim.Native.Nat.{ℕ, ◌≤◌, ◌<◌}
use mathlib.Core.Path.{◌≡◌, refl, sym, ap, subst, ◌∙◌}
use mathlib.Core.Bool.{false}
use mathlib.Core.List.{List}
use mathlib.Core.Logic.{◌↔◌}
use native.Mathlib.Omega.{arith}
use lib.ListN.{length}
use Rattle.utf8.specs.Utf8.{well_formed}
use Rattle.lists.specs.Fault.{number_of}
use Rattle.outcome.specs.declared.Answer.{Answer}
use Rattle.outcome.specs.Outcome.{reading, answer}
use Rattle.demands.specs.Giving.{Fails, Whole, Read, Gives, too_long, no_room, not-utf8, first-fails, end-refuses, accepts}
use Rattle.demands.specs.Leaving.{FaultNumber}
use Rattle.demands.proofs.Answering.{gives, answers}
use Rattle.demands.proofs.Ends.{end-refusal, fault-number, fault-least, fault-no-end}

module _ (s : List ℕ) (room : ℕ) where
  -- a setting's fault and an end have none of the numbers 0 to 3
  pub fault-low : (f : Fails s) → 4 ≤ number_of f.fault
  fault-low f = fault-least (number_of f.fault) (fault-number f.fault f.fails)

  pub end_low : ((reading s).end ≡ 0 → ⊥) → 6 ≤ (reading s).end
  end_low h = (end-refusal s h).0

  by_one : {a : Answer} → Gives s room a → a.number ≡ 1 → 4096 < length s
  by_one (too_long h) e = h
  by_one (no_room a h) e = absurd (omega arith)
  by_one (not-utf8 a b h) e = absurd (omega arith)
  by_one (first-fails r f) e = absurd (omega (arith, fault-low f))
  by_one (end-refuses r w h) e = absurd (omega (arith, end_low h))
  by_one (accepts r w h) e = absurd (omega arith)

  by_two : {a : Answer} → Gives s room a → a.number ≡ 2 → (length s ≤ 4096) × (room < length s)
  by_two (too_long h) e = absurd (omega arith)
  by_two (no_room a h) e = (a, h)
  by_two (not-utf8 a b h) e = absurd (omega arith)
  by_two (first-fails r f) e = absurd (omega (arith, fault-low f))
  by_two (end-refuses r w h) e = absurd (omega (arith, end_low h))
  by_two (accepts r w h) e = absurd (omega arith)

  by_three : {a : Answer} → Gives s room a → a.number ≡ 3 → (length s ≤ 4096) × (length s ≤ room) × (well_formed s ≡ false)
  by_three (too_long h) e = absurd (omega arith)
  by_three (no_room a h) e = absurd (omega arith)
  by_three (not-utf8 a b h) e = (a, b, h)
  by_three (first-fails r f) e = absurd (omega (arith, fault-low f))
  by_three (end-refuses r w h) e = absurd (omega (arith, end_low h))
  by_three (accepts r w h) e = absurd (omega arith)

  by_zero : {a : Answer} → Gives s room a → a.number ≡ 0 → Read s room × Whole s × ((reading s).end ≡ 0)
  by_zero (too_long h) e = absurd (omega arith)
  by_zero (no_room a h) e = absurd (omega arith)
  by_zero (not-utf8 a b h) e = absurd (omega arith)
  by_zero (first-fails r f) e = absurd (omega (arith, fault-low f))
  by_zero (end-refuses r w h) e = absurd (h e)
  by_zero (accepts r w h) e = (r, w, h)

  by-fault : {a : Answer} → Gives s room a → FaultNumber a.number → Read s room × ((f : Fails s) × (number_of f.fault ≡ a.number))
  by-fault (too_long h) e = absurd (omega (arith, fault-least 1 e))
  by-fault (no_room a h) e = absurd (omega (arith, fault-least 2 e))
  by-fault (not-utf8 a b h) e = absurd (omega (arith, fault-least 3 e))
  by-fault (first-fails r f) e = (r, (f, refl))
  by-fault (end-refuses r w h) e = absurd (fault-no-end (reading s).end e (end-refusal s h).0 (end-refusal s h).1)
  by-fault (accepts r w h) e = absurd (omega (arith, fault-least 0 e))

  by_end : {a : Answer} → Gives s room a → 6 ≤ a.number → a.number ≤ 12 → Read s room × Whole s × ((reading s).end ≡ a.number)
  by_end (too_long h) l m = absurd (omega arith)
  by_end (no_room a h) l m = absurd (omega arith)
  by_end (not-utf8 a b h) l m = absurd (omega arith)
  by_end (first-fails r f) l m = absurd (fault-no-end (number_of f.fault) (fault-number f.fault f.fails) l m)
  by_end (end-refuses r w h) l m = (r, w, refl)
  by_end (accepts r w h) l m = absurd (omega arith)

  given : {a : Answer} → Gives s room a → (answer s room).number ≡ a.number
  given {a} g = ap (λ (x : Answer). x.number) ((answers s room a).1 g)

  -- 1 "text longer than 4,096", 2 "decode buffer shorter than the text", 3 "text is not UTF-8", tested in that order
  pub one : ((answer s room).number ≡ 1) ↔ (4096 < length s)
  one = (λ e. by_one (gives s room) e, λ h. given (too_long h))

  pub two : ((answer s room).number ≡ 2) ↔ ((length s ≤ 4096) × (room < length s))
  two = (λ e. by_two (gives s room) e, λ h. given (no_room h.0 h.1))

  pub three : ((answer s room).number ≡ 3) ↔ ((length s ≤ 4096) × (length s ≤ room) × (well_formed s ≡ false))
  three = (λ e. by_three (gives s room) e, λ h. given (not-utf8 h.0 h.1 h.2))

  -- 0 "accepted": every setting can be applied, and the end is clean
  pub zero : ((answer s room).number ≡ 0) ↔ (Read s room × Whole s × ((reading s).end ≡ 0))
  zero = (λ e. by_zero (gives s room) e, λ h. given (accepts h.0 h.1 h.2))

  -- 4, 5, 13, 14, 15: the first setting that can't be applied has the fault of this number
  pub fault : (n : ℕ) → FaultNumber n → ((answer s room).number ≡ n) ↔ (Read s room × ((f : Fails s) × (number_of f.fault ≡ n)))
  fault n k = (λ e. subst (λ (m : ℕ). Read s room × ((f : Fails s) × (number_of f.fault ≡ m))) e (by-fault (gives s room) (subst FaultNumber (sym e) k)), λ h. given (first-fails h.0 h.1.0) ∙ h.1.1)

  -- 6 to 12: every setting can be applied, and the end has this number
  pub end : (n : ℕ) → 6 ≤ n → n ≤ 12 → ((answer s room).number ≡ n) ↔ (Read s room × Whole s × ((reading s).end ≡ n))
  end n l m = (
    λ e. let x = by_end (gives s room) (omega arith) (omega arith) in (x.0, x.1, x.2 ∙ e),
    λ h. given (end-refuses h.0 h.1 (λ z. let y = h.2 in absurd (omega arith))) ∙ h.2,
  )
