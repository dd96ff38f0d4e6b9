-- Demand 3's second half over texts, and the whole of it: two accepted texts with room for their reports give equal reports exactly when every setting shown is equal.
-- Assumes nothing.
use Prim.Native.Nat.{ℕ}
use mathlib.Core.Path.{◌≡◌, refl, sym, ap, ◌∙◌}
use mathlib.Core.Bool.{Bool, true, false}
use mathlib.Core.List.{List, []}
use native.Mathlib.Omega.{arith}
use borrow.Author.Tests.{ltb-true, ltb-false, leb-true, le-leb}
use lib.Dec.{ltb, leb}
use lib.ListN.{length}
use Rattle.byte.specs.Byte.{pick}
use Rattle.byte.specs.Put.{written}
use Rattle.utf8.specs.Utf8.{well_formed}
use Rattle.config.specs.declared.Config.{Config}
use Rattle.config.specs.Values.{Values, shown}
use Rattle.config.specs.Sound.{sound}
use Rattle.std.specs.Prelude.{Result, Err}
use Rattle.report.specs.declared.ReportError.{ReportError}
use Rattle.report.specs.declared.ReportError.TheVariants.{Short}
use Rattle.report.specs.Report.{report}
use Rattle.report.specs.Answer.{reported, reported_into}
use Rattle.report.proofs.Exactly.{told-length, stands-in-front}
use Rattle.telling.proofs.Equal.{telling}
use Rattle.outcome.specs.declared.Answer.{Answer}
use Rattle.outcome.specs.Outcome.{reading, refusal, answer, left}
use Rattle.outcome.proofs.Answers.{too_long, no_room, not-utf8}
use Rattle.demands.specs.Blind.{Readable, Alike}
use Rattle.demands.specs.Telling.{ran, report_in, report_of, Reported, SameReport, Telling, DemandThree}
use Rattle.demands.proofs.Shows.{read-sound}
use Rattle.demands.proofs.Blind.{blind}
use Rattle.demands.proofs.Reports.{same-report, same_answer, writes}
use Rattle.demands.proofs.InRange.{read-ranged}

-- an accepted text is UTF-8 within the limits, and its buffer long enough
pub accepted-readable : (s d : List ℕ) → (answer s (length d)).number ≡ 0 → Readable s d
accepted-readable s d z = by (ltb 4096 (length s)) (ltb (length d) (length s)) (well_formed s) refl refl refl
  where
    not : (number : ℕ) → refusal number 0 0 ≡ answer s (length d) → number ≡ 0
    not number e = ap (λ (a : Answer). a.number) e ∙ z

    by : (p q r : Bool) → ltb 4096 (length s) ≡ p → ltb (length d) (length s) ≡ q → well_formed s ≡ r → Readable s d
    by true q r a b c = absurd (omega (arith, not 1 (too_long s d (ltb-true 4096 (length s) a)).0))
    by false true r a b c = absurd (omega (arith, not 2 (no_room s d (ltb-false 4096 (length s) a) (ltb-true (length d) (length s) b)).0))
    by false false true a b c = record { short = ltb-false 4096 (length s) a; room = ltb-false (length d) (length s) b; utf8 = c }
    by false false false a b c = absurd (omega (arith, not 3 (not-utf8 s d (ltb-false 4096 (length s) a) (ltb-false (length d) (length s) b) c).0))

-- what stands in a report buffer of a sound record: the report where it fits, else nothing
module _ (b : List ℕ) (c : Config) (p : List ℕ) (h : sound (length b) c ≡ true) where
  abbrev whole : List ℕ
  whole = report (shown b c)

  short : leb (length whole) (length p) ≡ false → reported b c (length p) ≡ Err Short
  unfolding reported
  short e = rw (h, e)

  reads : (t : Bool) → leb (length whole) (length p) ≡ t → report_in (reported b c (length p)) (reported_into b c p) ≡ pick t whole []
  reads true e = rw (told-length b c p h (leb-true _ _ e)) (stands-in-front b c p h (leb-true _ _ e))
  reads false e = ap (λ (x : Result ℕ ReportError). report_in x (reported_into b c p)) (short e)

  written_is : report_in (reported b c (length p)) (reported_into b c p) ≡ pick (leb (length whole) (length p)) whole []
  written_is = reads (leb (length whole) (length p)) refl

-- the report of an accepted text with room
abbrev shows : List ℕ → List ℕ → Values
shows s d = shown (left s d) (answer s (length d)).config

report-is : (s d p : List ℕ) → Reported p (ran s d p) → report_of (ran s d p) ≡ report (shows s d)
report-is s d p h = reads (left s d) (answer s (length d)).config p (read-sound s d) true (le-leb _ _ h.room)

module _ (s d p t e q : List ℕ) where
  -- theorem 4
  pub telling-texts : Reported p (ran s d p) → Reported q (ran t e q) → Telling (ran s d p) (ran t e q)
  telling-texts g h =
      let x : report_of (ran s d p) ≡ report (shows s d) = report-is s d p g in
      let y : report_of (ran t e q) ≡ report (shows t e) = report-is t e q h in
      let k = telling (shows s d) (shows t e) (read-ranged s d (accepted-readable s d g.accepted)) (read-ranged t e (accepted-readable t e h.accepted)) in
      ((λ z. k.0 (sym x ∙ z ∙ y)), (λ z. x ∙ k.1 z ∙ sym y))

  module _ (r : Readable s d) (k : Readable t e) (a : Alike (reading s) (reading t)) (l : length p ≡ length q) where
    one-report : SameReport p q (ran s d p) (ran t e q)
    one-report =
        record {
          answer =
              ap (reported (left s d) (answer s (length d)).config) l ∙ same_answer s t d e r k a (length q);
          bytes =
              written_is (left s d) (answer s (length d)).config p (read-sound s d)
              ∙ ap (λ (n : ℕ). pick (leb (length (report (shows s d))) n) (report (shows s d)) []) l
              ∙ ap (λ (x : List ℕ). pick (leb (length x) (length q)) x []) (same-report s t d e r k a)
              ∙ sym (written_is (left t e) (answer t (length e)).config q (read-sound t e));
          buffer =
              λ o. writes s d p ∙ ap (λ (x : List ℕ). written x 0 (report (shows s d))) o ∙ ap (written q 0) (same-report s t d e r k a) ∙ sym (writes t e q);
        }

  -- the whole demand
  pub demand-three : DemandThree s d p t e q (ran s d p) (ran t e q)
  demand-three = record { blind = blind s t d e; report = one-report; telling = telling-texts }
