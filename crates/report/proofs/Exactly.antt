-- When each number is handed back, and what stands in the report buffer then.
-- Assumes nothing.
use Prim.Native.Nat.{ℕ, ◌≤◌, ◌<◌}
use mathlib.Core.Path.{◌≡◌, refl, ap, ◌∙◌}
use mathlib.Core.Bool.{Bool, true, false}
use mathlib.Core.List.{List}
use mathlib.Core.Logic.{◌↔◌}
use native.Mathlib.Omega.{arith}
use native.Mathlib.Nat.{zero-add}
use lib.Dec.{leb}
use lib.ListN.{length, take, drop}
use borrow.Author.Tests.{le-leb, leb-true, leb-false}
use Rattle.byte.specs.Byte.{pick}
use Rattle.byte.specs.Put.{put}
use Rattle.byte.proofs.Writing.{written-room, written-short, part-put, behind-put}
use Rattle.config.specs.declared.Config.{Config}
use Rattle.config.specs.Values.{shown}
use Rattle.config.specs.Sound.{sound}
use Rattle.std.specs.Prelude.{Ok, Err}
use Rattle.report.specs.declared.ReportError.TheVariants.{Short, Unsound}
use Rattle.report.specs.Report.{report}
use Rattle.report.specs.Answer.{number_of, reported, reported_into}

module _ (b : List ℕ) (c : Config) where
  abbrev whole : List ℕ
  whole = report (shown b c)

  -- 17, whatever the report buffer
  pub unsound-exactly : (n : ℕ) → (number_of (reported b c n) ≡ 17) ↔ (sound (length b) c ≡ false)
  unfolding reported
  unsound-exactly n = by (sound (length b) c) (leb (length whole) n)
    where
      by : (s t : Bool) → (number_of (pick s (pick t (Ok (length whole)) (Err Short)) (Err Unsound)) ≡ 17) ↔ (s ≡ false)
      by true true = ((λ e. absurd (omega (arith, e))), (λ e. absurd (let z : ◌≡◌ {A = ℕ} 0 1 = cc in omega arith)))
      by true false = ((λ e. absurd (omega (arith, e))), (λ e. absurd (let z : ◌≡◌ {A = ℕ} 0 1 = cc in omega arith)))
      by false t = ((λ e. refl), (λ e. refl))

  -- else 16, where the buffer is too short
  pub short-exactly : (n : ℕ) → sound (length b) c ≡ true → (number_of (reported b c n) ≡ 16) ↔ (n < length whole)
  unfolding reported
  short-exactly n s = rw s (by (leb (length whole) n) refl)
    where
      by : (t : Bool) → leb (length whole) n ≡ t → (number_of (pick t (Ok (length whole)) (Err Short)) ≡ 16) ↔ (n < length whole)
      by true e = ((λ h. absurd (omega (arith, h))), (λ h. absurd (omega (arith, leb-true (length whole) n e))))
      by false e = ((λ h. leb-false (length whole) n e), (λ h. refl))

  -- a refusal leaves the buffer untouched
  pub unsound-untouched : (d : List ℕ) → sound (length b) c ≡ false → reported_into b c d ≡ d
  unfolding reported_into
  unsound-untouched d e = rw e

  module _ (d : List ℕ) (s : sound (length b) c ≡ true) where
    pub short-untouched : length d < length whole → reported_into b c d ≡ d
    unfolding reported_into
    short-untouched h = rw s (written-short d 0 whole (omega arith))

    -- else the answer tells the length, the report stands in front, and the bytes behind it stay
    module _ (room : length whole ≤ length d) where
      pub told-length : reported b c (length d) ≡ Ok (length whole)
      unfolding reported
      told-length = rw (s, le-leb _ _ room)

      into : reported_into b c d ≡ put d 0 whole
      unfolding reported_into
      into = rw s (written-room d 0 whole (omega arith))

      pub stands-in-front : take (length whole) (reported_into b c d) ≡ whole
      stands-in-front = ap (take (length whole)) into ∙ part-put d 0 whole (omega arith)

      pub stays-behind : drop (length whole) (reported_into b c d) ≡ drop (length whole) d
      stays-behind = ap (drop (length whole)) into ∙ rw (zero-add (length whole)) at (behind-put d 0 whole (omega arith))
