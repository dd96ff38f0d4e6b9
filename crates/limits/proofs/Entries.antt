-- What the entries for C hand back: 16 exactly where the report buffer is too short, 17 never.
-- Assumes nothing.
use Rattle.std.specs.Prelude.{Ok, Err}
use Prim.Native.Nat.{ℕ, ◌+◌, ◌<◌, ◌≤◌}
use mathlib.Core.Path.{◌≡◌, refl, sym, ap, subst, ◌∙◌}
use mathlib.Core.Bool.{Bool, true, false}
use mathlib.Core.List.{List, ◌++◌, append_assoc, append-nil}
use native.Mathlib.Omega.{arith}
use native.Mathlib.Nat.{sub-zero}
use borrow.Author.Tests.{eq-eqb, ne_eqb, eqb-true, eqb-false, le-leb, lt-leb, leb-true, leb-false}
use lib.Dec.{eqb, leb}
use lib.ListN.{length, take, drop, take-append-drop}
use lib.Seq.{take-length, drop-length, length-take-le, drop-append-le}
use Rattle.byte.specs.Byte.{pick}
use Rattle.byte.specs.Put.{put, written}
use Rattle.byte.proofs.Parts.{part-is, part_length}
use Rattle.byte.proofs.Writing.{written-room}
use Rattle.config.specs.Config.{defaults}
use Rattle.config.specs.Values.{shown}
use Rattle.config.specs.Sound.{sound}
use Rattle.view.proofs.Seen.{In, defaults-in, in_on, in-sound, shown-grows}
use Rattle.outcome.specs.declared.Answer.{Answer}
use Rattle.outcome.specs.Outcome.{outcome_of, answer, left}
use Rattle.outcome.proofs.Answers.{answered}
use Rattle.report.specs.declared.ReportError.TheVariants.{Short}
use Rattle.report.specs.Answer.{reported, reported_into}
use Rattle.entry.specs.Entry.{told, used, report_left, kept, entry, entry_left}
use Rattle.answers.proofs.Bounds.{small}
use Rattle.demands.specs.Giving.{Read}
use Rattle.demands.specs.Blind.{Readable}
use Rattle.demands.proofs.Fits.{fitting}
use Rattle.demands.proofs.Refused.{refusing}
use Rattle.demands.proofs.Shows.{tells-text}
use Rattle.limits.specs.Limits.{report_most, number, given, shows, reports, Enters}
use Rattle.limits.proofs.Room.{of-given, report-fits}

-- how much of a report buffer is used makes no difference to what is short
used-same : (n room : ℕ) → n ≤ 999999 → leb n (used room) ≡ leb n room
unfolding used
used-same n room h = by (leb room 999999) refl
  where
    by : (t : Bool) → leb room 999999 ≡ t → leb n (pick t room 999999) ≡ leb n room
    by true e = refl
    by false e = le-leb n 999999 h ∙ sym (le-leb n room (omega (arith, leb-false room 999999 e)))

-- a write in front of a buffer of which a part is lent
written-part : (r x : List ℕ) (u : ℕ) → u ≤ length r → length x ≤ u → written (take u r) 0 x ++ drop u r ≡ written r 0 x
unfolding put
written-part r x u h k =
    let l : length (take u r) ≡ u = length-take-le u r h in
    rw (written-room (take u r) 0 x (omega arith), written-room r 0 x (omega arith))
    (append_assoc x (drop (0 + length x) (take u r)) (drop u r)
    ∙ ap (λ (y : List ℕ). x ++ y) (sym (drop-append-le (0 + length x) (take u r) (drop u r) (omega arith)) ∙ ap (drop (0 + length x)) (take-append-drop u r)))

written-used : (r x : List ℕ) → length x ≤ 999999 → written (take (used (length r)) r) 0 x ++ drop (used (length r)) r ≡ written r 0 x
unfolding used
written-used r x h = by (leb (length r) 999999) refl
  where
    by : (t : Bool) → leb (length r) 999999 ≡ t
        → written (take (pick t (length r) 999999) r) 0 x ++ drop (pick t (length r) 999999) r ≡ written r 0 x
    by true e = rw (take-length r, drop-length r, append-nil)
    by false e = written-part r x 999999 (omega (arith, leb-false (length r) 999999 e)) h

module _ (s d : List ℕ) where
  abbrev few : ℕ
  few = length (reports s d)

  -- the record lies in the bytes up to the text's length
  pub inside : In (length s) (given s d)
  inside =
      of-given s d (In (length s)) (in_on 0 (length s) defaults (omega arith) defaults-in)
      (λ (r : Readable s d).
      subst (λ (a : Answer). In (length s) a.config) (answered s d r.short r.room r.utf8).0
      (in_on (length (outcome_of s).packed) (length s) (outcome_of s).answer.config (fitting s).packed (tells-text s).inside))

  pub number-low : number s d ≤ 15
  number-low = (small (answer s (length d)) s (length d) refl).number

  module _ (is : number s d ≡ 0) where
    pub reads : Read s (length d)
    reads = ((refusing s d).zero.0 is).0

    kept-long : length (kept s d) ≡ length s
    kept-long =
        part_length 0 (length s) (left s d) (omega arith) (omega (arith, reads.fits, ((refusing s d).on-acceptance is).leaves.long)) ∙ sub-zero (length s)

    parted : kept s d ++ drop (length s) (left s d) ≡ left s d
    parted =
        ap (λ (l : List ℕ). l ++ drop (length s) (left s d)) (part-is 0 (length s) (left s d) ∙ ap (λ (n : ℕ). take n (left s d)) (sub-zero (length s)))
        ∙ take-append-drop (length s) (left s d)

    kept-inside : In (length (kept s d)) (given s d)
    kept-inside = subst (λ (n : ℕ). In n (given s d)) (sym kept-long) inside

    -- those bytes show what the whole buffer shows
    kept-shows : shown (kept s d) (given s d) ≡ shows s d
    kept-shows = sym (shown-grows (kept s d) (drop (length s) (left s d)) (given s d) kept-inside) ∙ ap (λ (l : List ℕ). shown l (given s d)) parted

    kept-sound : sound (length (kept s d)) (given s d) ≡ true
    kept-sound = in-sound (length (kept s d)) (given s d) kept-inside

    entry-told : (room : ℕ) → entry s d room ≡ told (pick (leb few room) (Ok few) (Err Short))
    unfolding entry reported
    entry-told room = rw (eq-eqb (number s d) 0 is, kept-sound, kept-shows, used-same few room (omega (arith, report-fits s d)))

    entry-leaves : (r : List ℕ) → entry_left s d r ≡ written r 0 (reports s d)
    unfolding entry_left report_left reported_into
    entry-leaves r = rw (eq-eqb (number s d) 0 is, kept-sound, kept-shows) (written-used r (reports s d) (omega (arith, report-fits s d)))

    entry-long : (room : ℕ) → few ≤ room → entry s d room ≡ few
    entry-long room h = entry-told room ∙ ap (λ (t : Bool). told (pick t (Ok few) (Err Short))) (le-leb few room h)

    entry-short : (room : ℕ) → room < few → entry s d room ≡ 1000016
    entry-short room h = entry-told room ∙ ap (λ (t : Bool). told (pick t (Ok few) (Err Short))) (lt-leb few room h)

  entry-refused : (room : ℕ) → (number s d ≡ 0 → ⊥) → entry s d room ≡ 1000000 + number s d
  unfolding entry
  entry-refused room not = rw (ne_eqb (number s d) 0 not)

  untouched : (r : List ℕ) → (number s d ≡ 0 → ⊥) → entry_left s d r ≡ r
  unfolding entry_left
  untouched r not = rw (ne_eqb (number s d) 0 not)

  -- the three ways that an entry ends
  pub data Ending (room : ℕ) : Type 0 where
    refuses : (number s d ≡ 0 → ⊥) → entry s d room ≡ 1000000 + number s d → Ending room
    tells : number s d ≡ 0 → few ≤ room → entry s d room ≡ few → Ending room
    lacks : number s d ≡ 0 → room < few → entry s d room ≡ 1000016 → Ending room

  ending : (room : ℕ) → Ending room
  ending room = by (eqb (number s d) 0) refl (leb few room) refl
    where
      by : (t : Bool) → eqb (number s d) 0 ≡ t → (u : Bool) → leb few room ≡ u → Ending room
      by true e true f = let is = eqb-true (number s d) 0 e in let h = leb-true few room f in tells is h (entry-long is room h)
      by true e false f = let is = eqb-true (number s d) 0 e in let h = leb-false few room f in lacks is h (entry-short is room h)
      by false e u f = let not = eqb-false (number s d) 0 e in refuses not (entry-refused room not)

  short_on : (room : ℕ) → Ending room → entry s d room ≡ 1000016 → (number s d ≡ 0) × (room < few)
  short_on room (refuses not e) q = absurd (omega (arith, number-low, e, q))
  short_on room (tells is h e) q = absurd (omega (arith, report-fits s d, e, q))
  short_on room (lacks is h e) q = (is, h)

  never-unsound : (room : ℕ) → Ending room → entry s d room ≡ 1000017 → ⊥
  never-unsound room (refuses not e) q = absurd (omega (arith, number-low, e, q))
  never-unsound room (tells is h e) q = absurd (omega (arith, report-fits s d, e, q))
  never-unsound room (lacks is h e) q = absurd (omega (arith, e, q))

  low : (room : ℕ) → report_most ≤ room → Ending room → entry s d room ≤ 1000015
  low room h (refuses not e) = omega (arith, number-low, e)
  low room h (tells is l e) = omega (arith, report-fits s d, e)
  low room h (lacks is l e) = absurd (omega (arith, report-fits s d))

  pub enters : Enters s d
  enters =
      record {
        inside = in-sound (length s) (given s d) inside;
        refused = entry-refused;
        long = λ room is. entry-long is room;
        short = λ room. (short_on room (ending room), λ (h : (number s d ≡ 0) × (room < few)). entry-short h.0 room h.1);
        enough = λ room h q. absurd (omega (arith, report-fits s d, (short_on room (ending room) q).1));
        low = λ room h. low room h (ending room);
        never = λ room. never-unsound room (ending room);
        leaves = λ r is. entry-leaves is r;
        untouched = untouched;
      }
