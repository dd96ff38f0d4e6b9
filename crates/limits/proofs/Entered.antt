-- The entry for C meets demand 3, too: it hands back and leaves no more than what the report is.
-- Assumes nothing.
use Prim.Native.Nat.{ℕ, ◌+◌, ◌≤◌}
use mathlib.Core.Path.{◌≡◌, refl, sym, ap, ◌∙◌}
use mathlib.Core.Bool.{Bool, true, false}
use mathlib.Core.List.{List, []}
use native.Mathlib.Omega.{arith}
use borrow.Author.Tests.{eqb-true, eqb-false, leb-true, leb-false, eq-eqb, le-leb, lt-ltb, le-ltb}
use lib.Dec.{eqb, leb}
use lib.ListN.{length, take}
use Rattle.byte.specs.Byte.{pick}
use Rattle.byte.specs.Put.{written}
use Rattle.byte.proofs.Writing.{written-room, part-put}
use Rattle.outcome.specs.Outcome.{reading}
use Rattle.entry.specs.Entry.{entry, entry_left}
use Rattle.telling.proofs.Equal as Equal
use Rattle.demands.specs.Blind.{Readable, Alike}
use Rattle.demands.proofs.Blind as Demands
use Rattle.demands.proofs.Reports.{same-report}
use Rattle.demands.proofs.InRange.{read-ranged}
use Rattle.demands.proofs.Telling.{accepted-readable}
use Rattle.limits.specs.Limits.{number, shows, reports}
use Rattle.limits.proofs.Room.{report-fits}
use Rattle.limits.proofs.Entries.{enters}
use Rattle.limits.specs.Entered.{written_by, entered_by, Roomy, SameEntry, EntryThree}

-- what is handed back for a text that gives the number n and the report x, into m bytes; and what is written
abbrev handed : ℕ → List ℕ → ℕ → ℕ
handed n x m = pick (eqb n 0) (pick (leb (length x) m) (length x) 1000016) (1000000 + n)

abbrev wrote : ℕ → List ℕ → ℕ → List ℕ
wrote n x m = pick (eqb n 0) (pick (leb (length x) m) x []) []

module _ (s d : List ℕ) where
  -- the three ways that it goes
  entry-by : (m : ℕ) (a b : Bool) → eqb (number s d) 0 ≡ a → leb (length (reports s d)) m ≡ b
      → entry s d m ≡ pick a (pick b (length (reports s d)) 1000016) (1000000 + number s d)
  entry-by m true true z r = (enters s d).long m (eqb-true (number s d) 0 z) (leb-true _ _ r)
  entry-by m true false z r = ((enters s d).short m).1 (eqb-true (number s d) 0 z, leb-false _ _ r)
  entry-by m false b z r = (enters s d).refused m (eqb-false (number s d) 0 z)

  entry-is : (m : ℕ) → entry s d m ≡ handed (number s d) (reports s d) m
  entry-is m = entry-by m (eqb (number s d) 0) (leb (length (reports s d)) m) refl refl

  front : (p : List ℕ) → length (reports s d) ≤ length p → take (length (reports s d)) (written p 0 (reports s d)) ≡ reports s d
  front p h = ap (take (length (reports s d))) (written-room p 0 (reports s d) (omega arith)) ∙ part-put p 0 (reports s d) (omega arith)

  -- a number that is no length
  nothing : (n : ℕ) (r : List ℕ) → 1000000 ≤ n → written_by n r ≡ []
  nothing n r h = rw (le-ltb n 1000000 h)

  wrote_by : (p : List ℕ) (a b : Bool) → eqb (number s d) 0 ≡ a → leb (length (reports s d)) (length p) ≡ b
      → entered_by s d p ≡ pick a (pick b (reports s d) []) []
  wrote_by p true true z r =
      ap (λ (n : ℕ). written_by n (entry_left s d p)) (entry-by (length p) true true z r)
      ∙ ap (written_by (length (reports s d))) ((enters s d).leaves p (eqb-true (number s d) 0 z))
      ∙ ap (λ (t : Bool). pick t (take (length (reports s d)) (written p 0 (reports s d))) []) (lt-ltb (length (reports s d)) 1000000 (omega (arith, report-fits s d)))
      ∙ front p (leb-true _ _ r)
  wrote_by p true false z r =
      ap (λ (n : ℕ). written_by n (entry_left s d p)) (entry-by (length p) true false z r) ∙ nothing 1000016 (entry_left s d p) (omega arith)
  wrote_by p false b z r =
      ap (λ (n : ℕ). written_by n (entry_left s d p)) (entry-by (length p) false b z r) ∙ nothing (1000000 + number s d) (entry_left s d p) (omega arith)

  wrote-is : (p : List ℕ) → entered_by s d p ≡ wrote (number s d) (reports s d) (length p)
  wrote-is p = wrote_by p (eqb (number s d) 0) (leb (length (reports s d)) (length p)) refl refl

  -- an accepted text with room for its report: that is what is written
  told : (p : List ℕ) → Roomy s d p → entered_by s d p ≡ reports s d
  told p h = wrote_by p true true (eq-eqb (number s d) 0 h.accepted) (le-leb (length (reports s d)) (length p) h.room)

module _ (s d p t e q : List ℕ) where
  module _ (r : Readable s d) (k : Readable t e) (a : Alike (reading s) (reading t)) (l : length p ≡ length q) where
    same_number : number s d ≡ number t e
    same_number = (Demands.blind s t d e r k a).number

    same : {X : Type 0} (f : ℕ → List ℕ → ℕ → X) → f (number s d) (reports s d) (length p) ≡ f (number t e) (reports t e) (length q)
    same f =
        ap (λ (n : ℕ). f n (reports s d) (length p)) same_number
        ∙ ap (λ (x : List ℕ). f (number t e) x (length p)) (same-report s t d e r k a)
        ∙ ap (f (number t e) (reports t e)) l

    -- report buffers that held the same: the report is written over both, or both are as they were
    left_by : p ≡ q → (accepted : Bool) → eqb (number s d) 0 ≡ accepted → entry_left s d p ≡ entry_left t e q
    left_by o true z =
        (enters s d).leaves p (eqb-true (number s d) 0 z)
        ∙ ap (λ (x : List ℕ). written x 0 (reports s d)) o
        ∙ ap (written q 0) (same-report s t d e r k a)
        ∙ sym ((enters t e).leaves q (sym same_number ∙ eqb-true (number s d) 0 z))
    left_by o false z =
        (enters s d).untouched p (eqb-false (number s d) 0 z)
        ∙ o
        ∙ sym ((enters t e).untouched q (λ (n : number t e ≡ 0). eqb-false (number s d) 0 z (same_number ∙ n)))

    entry-blind : SameEntry s d p t e q
    entry-blind =
        record {
          number = entry-is s d (length p) ∙ same handed ∙ sym (entry-is t e (length q));
          bytes = wrote-is s d p ∙ same wrote ∙ sym (wrote-is t e q);
          buffer = λ o. left_by o (eqb (number s d) 0) refl;
        }

  pub entry-three : EntryThree s d p t e q
  entry-three =
      record {
        blind = entry-blind;
        telling =
            λ g h.
            let x = told s d p g in
            let y = told t e q h in
            let k = Equal.telling (shows s d) (shows t e) (read-ranged s d (accepted-readable s d g.accepted)) (read-ranged t e (accepted-readable t e h.accepted)) in
            ((λ z. k.0 (sym x ∙ z ∙ y)), (λ z. x ∙ k.1 z ∙ sym y));
      }
