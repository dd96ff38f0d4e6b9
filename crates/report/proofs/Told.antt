-- What the function answers and leaves, from what it measured and wrote.
-- Assumes nothing.
use Prim.Native.Nat.{ℕ, ◌≤◌, ◌<◌}
use mathlib.Core.Path.{◌≡◌, refl, sym, ap, ◌∙◌}
use mathlib.Core.Bool.{Bool, true, false}
use mathlib.Core.List.{List}
use native.Mathlib.Omega.{arith}
use lib.Dec.{leb}
use lib.ListN.{length}
use borrow.Author.Tests.{le-leb, leb-true, leb-false}
use Rattle.byte.specs.Put.{put}
use Rattle.byte.proofs.Writing.{written-room, written-short}
use Rattle.draw.specs.declared.Pen.{Pen}
use Rattle.draw.specs.Parts.{joined}
use Rattle.line.specs.Line.{lines_from}
use Rattle.draw.specs.Pen.{Sheet, sheet, drawn}
use Rattle.draw.proofs.Whole.{pen, stopped, counted-all, uncounted-all, inked-all}
use Rattle.config.specs.declared.Config.{Config}
use Rattle.config.specs.Values.{shown}
use Rattle.config.specs.Sound.{sound}
use Rattle.room.specs.Room.{surely_fits}
use Rattle.std.specs.Prelude.{Ok, Err}
use Rattle.report.specs.declared.ReportError.TheVariants.{Short, Unsound}
use Rattle.report.specs.Report.{values, report}
use Rattle.report.specs.Answer.{reported, reported_into}
use Rattle.report.proofs.Most.{surely}

module _ (b : List ℕ) (c : Config) (d : List ℕ) where
  abbrev parts : List (List ℕ)
  parts = lines_from 1 (values (shown b c))

  -- 17
  module _ (e : sound (length b) c ≡ false) where
    pub told-unsound : (Err Unsound) ≡ reported b c (length d)
    unfolding reported
    told-unsound = rw e

    pub left-unsound : d ≡ reported_into b c d
    unfolding reported_into
    left-unsound = rw e

  -- whether it fits: surely, or by the pen that counted
  pub fits-surely : surely_fits (length d) c ≡ true → true ≡ leb (length (report (shown b c))) (length d)
  fits-surely e = sym (le-leb _ _ (surely b c (length d) e))

  module _ (d' : List ℕ) (p : Pen) (m : sheet d' p ≡ drawn (sheet d (pen 0 false)) parts) where
    counts : (t : Bool) → leb (length (joined parts)) (length d) ≡ t → (p.ok ≡ t) × (d' ≡ d)
    counts true e =
        let f : sheet d' p ≡ sheet d (pen (length (joined parts)) false) = m ∙ counted-all d parts (leb-true _ _ e) in
        (ap (λ (x : Sheet). x.pen.ok) f, ap (λ (x : Sheet). x.bytes) f)
    counts false e =
        let f : sheet d' p ≡ sheet d (stopped false) = m ∙ uncounted-all d parts (leb-false _ _ e) in
        (ap (λ (x : Sheet). x.pen.ok) f, ap (λ (x : Sheet). x.bytes) f)

    pub fits-measured : p.ok ≡ leb (length (report (shown b c))) (length d)
    unfolding report
    fits-measured = (counts _ refl).0

    pub untouched : d' ≡ d
    untouched = (counts _ refl).1

  module _ (s : sound (length b) c ≡ true) (d' : List ℕ) (same : d' ≡ d) where
    -- 16
    module _ (e : leb (length (report (shown b c))) (length d) ≡ false) where
      pub told-short : (Err Short) ≡ reported b c (length d)
      unfolding reported
      told-short = rw (s, e)

      pub left-short : d' ≡ reported_into b c d
      unfolding reported_into
      left-short = same ∙ sym (rw s (written-short d 0 (report (shown b c)) (let l : length d < length (report (shown b c)) = leb-false _ _ e in omega arith)))

    -- the report
    module _ (e : leb (length (report (shown b c))) (length d) ≡ true) (d'' : List ℕ) (q : Pen) (w : sheet d'' q ≡ drawn (sheet d' (pen 0 true)) parts) where
      room : length (report (shown b c)) ≤ length d
      room = leb-true _ _ e

      wrote : sheet d'' q ≡ sheet (put d 0 (report (shown b c))) (pen (length (report (shown b c))) true)
      unfolding report
      wrote = w ∙ rw same (inked-all d parts room)

      pub told-length : Ok q.at ≡ reported b c (length d)
      unfolding reported
      told-length = ap (λ (x : Sheet). Ok x.pen.at) wrote ∙ sym (rw (s, e))

      pub left-written : d'' ≡ reported_into b c d
      unfolding reported_into
      left-written = ap (λ (x : Sheet). x.bytes) wrote ∙ sym (rw s (written-room d 0 (report (shown b c)) (omega (arith, room))))
