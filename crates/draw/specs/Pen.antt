-- Texts in parts that are counted, or written into lent memory: a part that finds no room stops the pen for good.
-- Assumes nothing.
use Rattle.std.specs.Prelude.{ℕ, ◌+◌, true, false, ◌&&◌, List, [], ◌∷◌, leb, length}
use Rattle.byte.specs.Byte.{pick}
use Rattle.byte.specs.Put.{written}
use Rattle.draw.specs.declared.Pen.{Pen}

-- lent memory, and the pen over it
pub record Sheet : Type 0 where
  pub bytes : List ℕ
  pub pen : Pen

abbrev pub sheet : List ℕ → Pen → Sheet
sheet d p = record { bytes = d; pen = p }

-- a pen behind n more bytes of len, or stopped
unfoldable pub moved : ℕ → Pen → ℕ → Pen
moved len p n =
    pick (p.ok && leb (p.at + n) len) (record { at = p.at + n; ok = true; ink = p.ink }) (record { at = 0; ok = false; ink = p.ink })

-- one part: written by a pen with ink that is not stopped, else only counted
unfoldable pub draw_one : Sheet → List ℕ → Sheet
draw_one s x =
    record { bytes = pick (s.pen.ok && s.pen.ink) (written s.bytes s.pen.at x) s.bytes; pen = moved (length s.bytes) s.pen (length x) }

-- parts, one after the other
unfoldable pub drawn : Sheet → List (List ℕ) → Sheet
drawn s [] = s
drawn s (x ∷ xs) = drawn (draw_one s x) xs
