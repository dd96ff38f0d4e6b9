-- The same of the whole reading, whichever it is.
-- Assumes nothing.
use Prim.Native.Nat.{ℕ, ◌≤◌}
use mathlib.Core.Path.{◌≡◌, refl}
use mathlib.Core.Bool.{Bool, true, false}
use mathlib.Core.List.{List}
use lib.Dec.{eqb}
use lib.ListN.{length, drop}
use borrow.Author.Tests.{eqb-false}
use Rattle.byte.specs.Byte.{pick}
use Rattle.names.specs.Find.{prefix_len}
use Rattle.keyvalue.specs.KeyValue.{key_value}
use Rattle.url_parser.specs.Uri.{uri}
use Rattle.outcome.specs.Outcome.{reading}
use Rattle.demands.specs.Giving.{joined}
use Rattle.demands.proofs.Kept.{FitsWhole, fits-pairs, fits-uri}

module _ (s : List ℕ) where
  fits_whole : FitsWhole s (reading s)
  unfolding reading
  fits_whole = by (eqb (prefix_len s) 0) refl
    where
      by : (k : Bool) → eqb (prefix_len s) 0 ≡ k → FitsWhole s (pick k (key_value s) (uri (drop (prefix_len s) s)))
      by true e = fits-pairs s
      by false e = fits-uri s (eqb-false (prefix_len s) 0 e)

  -- the kept bytes of a reading never pass the text's length
  pub kept-fits : length (joined (reading s).settings) ≤ length s
  kept-fits = fits_whole.0

  -- a text within the limit has at most 8,172 settings
  pub settings-fit : length s ≤ 4096 → length (reading s).settings ≤ 8172
  settings-fit = fits_whole.1
