-- What the entry answers and leaves, from what the reader and the report answer and leave.
-- Assumes nothing.
use mathlib.Core.Path.{◌≡◌, refl, ap, ◌∙◌}
use mathlib.Core.Bool.{Bool, true, false}
use mathlib.Core.List.{List, ◌++◌}
use Prim.Native.Nat.{ℕ, ◌<◌, ◌≤◌}
use native.Mathlib.Omega.{arith}
use lib.Dec.{leb}
use lib.ListN.{length, take, drop}
use lib.Seq.{length-take-le}
use borrow.Author.Tests.{eq-eqb, ne_eqb, leb-true, leb-false}
use Rattle.byte.specs.Byte.{pick}
use Rattle.config.specs.declared.Config.{Config}
use Rattle.config.specs.Values.{shown}
use Rattle.config.specs.Sound.{sound}
use Rattle.outcome.specs.declared.Answer.{Answer}
use Rattle.outcome.specs.Outcome.{answer}
use Rattle.std.specs.Prelude.{min, Result, Ok, Err}
use Rattle.report.specs.declared.ReportError.{ReportError}
use Rattle.report.specs.declared.ReportError.TheVariants.{Short, Unsound}
use Rattle.report.specs.Report.{report}
use Rattle.report.specs.Answer.{reported, reported_into}
use Rattle.entry.specs.Entry.{refused, told, used, report_left, kept, entry, entry_left}

module _ (s d : List ℕ) (a : Answer) (e : a ≡ answer s (length d)) where
  -- a refused text: its number, and no report
  module _ (no : a.number ≡ 0 → ⊥) where
    pub entry-refused : (room : ℕ) → refused a.number ≡ entry s d room
    unfolding entry
    entry-refused room = rw (← e, ne_eqb _ _ no)

    pub left-refused : (r : List ℕ) → r ≡ entry_left s d r
    unfolding entry_left
    left-refused r = rw (← e, ne_eqb _ _ no)

  -- an accepted text: what the report answers, and leaves
  module _ (yes : a.number ≡ 0) (k : List ℕ) (i : k ≡ kept s d) where
    pub entry-told : (room n : ℕ) → n ≡ told (reported k a.config (used room)) → n ≡ entry s d room
    unfolding entry
    entry-told room n f = rw (← e, eq-eqb _ _ yes, ← i) f

    pub left-told : (r r' : List ℕ) → r' ≡ report_left k a.config r → r' ≡ entry_left s d r
    unfolding entry_left
    left-told r r' f = rw (← e, eq-eqb _ _ yes, ← i) f

-- what is used of a report buffer is a part of it, and short
pub used-fits : (room : ℕ) → used room ≤ room
unfolding used
used-fits room = by (leb room 999999) refl
  where
    by : (t : Bool) → leb room 999999 ≡ t → pick t room 999999 ≤ room
    by true e = omega arith
    by false e = omega (arith, leb-false room 999999 e)

pub used_is : (room : ℕ) → min room 999999 ≡ used room
unfolding used
used_is room = by (leb room 999999) refl
  where
    by : (t : Bool) → leb room 999999 ≡ t → min room 999999 ≡ pick t room 999999
    by true e = omega (arith, leb-true room 999999 e)
    by false e = omega (arith, leb-false room 999999 e)

pub used-short : (room : ℕ) → used room ≤ 999999
unfolding used
used-short room = by (leb room 999999) refl
  where
    by : (t : Bool) → leb room 999999 ≡ t → pick t room 999999 ≤ 999999
    by true e = leb-true room 999999 e
    by false e = omega arith

-- a report's length is within the bytes that are used
pub told-within : (b : List ℕ) (c : Config) (room n : ℕ) → Ok n ≡ reported b c room → n ≤ room
unfolding reported
told-within b c room n e = by (sound (length b) c) (leb (length (report (shown b c))) room) refl e
  where
    by : (t u : Bool) → leb (length (report (shown b c))) room ≡ u
        → Ok n ≡ pick t (pick u (Ok (length (report (shown b c)))) (Err Short)) (Err Unsound) → n ≤ room
    by true true h f = let g : n ≡ length (report (shown b c)) = cc in omega (arith, leb-true (length (report (shown b c))) room h)
    by true false h f = let z : ◌≡◌ {A = ℕ} 0 1 = cc in omega arith
    by false u h f = let z : ◌≡◌ {A = ℕ} 0 1 = cc in omega arith

-- the part of a report buffer that is used, n bytes
module _ (r : List ℕ) (n : ℕ) (e : n ≡ used (length r)) where
  pub part-fits : n ≤ length r
  part-fits = omega (arith, used-fits (length r))

  pub part-long : length (take n r) ≡ n
  part-long = length-take-le n r part-fits

  -- the answer and the buffer, once a report is written there
  module _ (b : List ℕ) (c : Config) where
    pub told-by : (q q' : Result ℕ ReportError) → q' ≡ q → q ≡ reported b c (length (take n r)) → told q' ≡ told (reported b c (used (length r)))
    told-by q q' f g = ap told (f ∙ g ∙ ap (reported b c) (part-long ∙ e))

    pub left_by : (x : List ℕ) → x ≡ reported_into b c (take n r) → x ++ drop n r ≡ report_left b c r
    unfolding report_left
    left_by x f = rw (← e) (ap (λ (l : List ℕ). l ++ drop n r) f)

    pub len_short : (q : Result ℕ ReportError) (k : ℕ) → Ok k ≡ q → q ≡ reported b c (length (take n r)) → k < 1000000
    len_short q k f g =
        let h : k ≤ n = told-within b c n k (f ∙ g ∙ ap (reported b c) part-long) in
        omega (arith, used-short (length r))
