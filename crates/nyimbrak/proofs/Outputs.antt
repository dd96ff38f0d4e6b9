-- What the entry answers and leaves in the program's buffers is what the program writes.
-- Assumes nothing.
use Prim.Native.Nat.{ℕ, ◌+◌, ◌-◌, ◌≤◌, ◌<◌}
use mathlib.Core.Path.{◌≡◌, refl, sym, ap, ◌∙◌}
use mathlib.Core.Bool.{Bool, true, false}
use mathlib.Core.List.{List}
use native.Mathlib.Omega.{arith}
use native.Mathlib.Nat.{sub-zero}
use borrow.Author.Tests.{eq-eqb, ne_eqb, eqb-true, eqb-false, ltb-true, ltb-false, leb-true}
use lib.Dec.{eqb, ltb, leb}
use lib.ListN.{length, take, replicate, length-replicate}
use Rattle.byte.specs.Byte.{pick, part_of}
use Rattle.byte.specs.Put.{put}
use Rattle.byte.proofs.Parts.{part-is}
use Rattle.byte.proofs.Writing.{length-put, written-room, part-put}
use Rattle.utf8.specs.Utf8.{well_formed}
use Rattle.view.specs.Given.{Told}
use Rattle.outcome.specs.declared.Answer.{Answer}
use Rattle.outcome.proofs.Answers.{too_long, not-utf8}
use Rattle.report.specs.Report.{report}
use Rattle.entry.specs.Entry.{entry, entry_left}
use Rattle.demands.specs.Blind.{Readable, tells}
use Rattle.demands.proofs.Shows.{read-tells}
use Rattle.demands.proofs.Telling.{accepted-readable}
use Rattle.demands.proofs.Numbers as Numbers
use Rattle.limits.specs.Limits.{number, reports}
use Rattle.limits.proofs.Room.{report-fits}
use Rattle.limits.proofs.Entries.{number-low, enters}
use Rattle.refusal_line.specs.Refusal.{refusal_line}
use Rattle.refusal_line.proofs.Line.{line-most}
use Rattle.nyimbrak.specs.Output.{tells_of, text_number, output_of, Writes}

-- with a decode buffer for every text within the limit
module _ (s d : List ℕ) (long : 4096 ≤ length d) where
  read_number : Readable s d → (tells_of s).number ≡ number s d
  unfolding tells
  read_number r = ap (λ (t : Told). t.number) (sym (read-tells s d r))

  number_is : text_number s ≡ number s d
  unfolding text_number
  number_is = by (ltb 4096 (length s)) (well_formed s) refl refl
    where
      by : (t u : Bool) → ltb 4096 (length s) ≡ t → well_formed s ≡ u → pick t 1 (pick u (tells_of s).number 3) ≡ number s d
      by true u e f = ap (λ (a : Answer). a.number) (too_long s d (ltb-true 4096 (length s) e)).0
      by false true e f =
          let h : length s ≤ 4096 = ltb-false 4096 (length s) e in
          read_number (record { short = h; room = omega arith; utf8 = f })
      by false false e f =
          let h : length s ≤ 4096 = ltb-false 4096 (length s) e in
          ap (λ (a : Answer). a.number) (not-utf8 s d h (omega arith) f).0

  report-is : number s d ≡ 0 → report (tells_of s).values ≡ reports s d
  unfolding tells
  report-is z = ap (λ (t : Told). report t.values) (sym (read-tells s d (accepted-readable s d z)))

  output-report : number s d ≡ 0 → output_of s ≡ reports s d
  unfolding output_of
  output-report z = rw (eq-eqb (text_number s) 0 (number_is ∙ z)) (report-is z)

  output-line : (number s d ≡ 0 → ⊥) → output_of s ≡ refusal_line (number s d)
  unfolding output_of
  output-line n = rw (ne_eqb (text_number s) 0 (λ z. n (sym number_is ∙ z))) (ap refusal_line number_is)

  output-most : length (output_of s) ≤ 13795
  output-most = by (eqb (number s d) 0) refl
    where
      by : (t : Bool) → eqb (number s d) 0 ≡ t → length (output_of s) ≤ 13795
      by true e = omega (arith, report-fits s d, ap length (output-report (eqb-true (number s d) 0 e)))
      by false e = omega (arith, line-most (number s d), ap length (output-line (eqb-false (number s d) 0 e)))

  writes-with : Writes s
  writes-with =
      record {
        one = (λ e. (Numbers.one s (length d)).0 (sym number_is ∙ e), λ h. number_is ∙ (Numbers.one s (length d)).1 h);
        never-two = λ e. let h = (Numbers.two s (length d)).0 (sym number_is ∙ e) in omega (arith, h.0, h.1);
        low = omega (arith, number_is, number-low s d);
        most = output-most;
      }

-- what the entry answers and leaves, with such a decode buffer and a report buffer p as long as the longest report
module _ (s d p : List ℕ) (r : ℕ) (p' : List ℕ) (e : r ≡ entry s d (length p)) (f : p' ≡ entry_left s d p) (long : leb 4096 (length d) ≡ true) (room : length p ≡ 13795) where
  enough : 4096 ≤ length d
  enough = leb-true 4096 (length d) long

  accepted : r < 1000000 → number s d ≡ 0
  accepted h = by (eqb (number s d) 0) refl
    where
      by : (t : Bool) → eqb (number s d) 0 ≡ t → number s d ≡ 0
      by true q = eqb-true (number s d) 0 q
      by false q = absurd (omega (arith, e, (enters s d).refused (length p) (eqb-false (number s d) 0 q)))

  told : number s d ≡ 0 → r ≡ length (reports s d)
  told z = e ∙ (enters s d).long (length p) z (omega (arith, report-fits s d))

  refused : 1000000 ≤ r → number s d ≡ 0 → ⊥
  refused h z = omega (arith, told z, report-fits s d)

  pub report-written : r < 1000000 → (r ≡ length (output_of s)) × (p' ≡ put p 0 (output_of s))
  report-written h =
      let z : number s d ≡ 0 = accepted h in
      let o : output_of s ≡ reports s d = output-report s d enough z in (
        told z ∙ ap length (sym o),
        f ∙ (enters s d).leaves p z ∙ written-room p 0 (reports s d) (omega (arith, report-fits s d)) ∙ ap (put p 0) (sym o),
      )

  line : 1000000 ≤ r → output_of s ≡ refusal_line (r - 1000000)
  line h = output-line s d enough (refused h) ∙ ap refusal_line (omega (arith, e, (enters s d).refused (length p) (refused h)))

  pub line-into : 1000000 ≤ r → (k : ℕ) (q : List ℕ) → k ≡ length (refusal_line (r - 1000000)) → q ≡ put p' 0 (refusal_line (r - 1000000))
      → (k ≡ length (output_of s)) × (q ≡ put p 0 (output_of s))
  line-into h k q a b = (
    a ∙ ap length (sym (line h)),
    b ∙ ap (λ (x : List ℕ). put x 0 (refusal_line (r - 1000000))) (f ∙ (enters s d).untouched p (refused h)) ∙ ap (put p 0) (sym (line h)),
  )

-- of any text: 2, 16 and 17 never come, and 1 exactly of one that is too long
pub writes : (s : List ℕ) → Writes s
writes s = writes-with s (replicate 4097 0) (omega (arith, length-replicate {A = ℕ} 4097 0))

-- the bytes in front of a buffer that had room are the output
module _ (s p p' : List ℕ) (f : p' ≡ put p 0 (output_of s)) (long : eqb (length p) 13795 ≡ true) where
  room : 0 + length (output_of s) ≤ length p
  room = omega (arith, (writes s).most, eqb-true (length p) 13795 long)

  pub still-long : 13795 ≡ length p'
  still-long = sym (ap length f ∙ length-put p 0 (output_of s) room ∙ eqb-true (length p) 13795 long)

  pub front : (n : ℕ) → n ≡ length (output_of s) → part_of 0 n p' ≡ output_of s
  front n e = part-is 0 n p' ∙ ap (λ (k : ℕ). take k p') (sub-zero n) ∙ rw (e, f) (part-put p 0 (output_of s) room)
