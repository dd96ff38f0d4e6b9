-- A line as the code draws it.
-- Assumes nothing.
use Prim.Native.Nat.{ℕ}
use mathlib.Core.Path.{◌≡◌}
use mathlib.Core.List.{List, [], ◌∷◌, ◌++◌}
use Rattle.byte.specs.Ascii.{bytes}
use Rattle.names.specs.Names.{key_name}
use Rattle.draw.specs.Pen.{Sheet, drawn}
use Rattle.draw.proofs.Drawing.{draw-then}
use Rattle.line.specs.Line.{line}

-- a line: its head, its value, its end
pub line-drawn : (s t u v : Sheet) (key : ℕ) (value : List (List ℕ)) → t ≡ drawn s (key_name key ∷ bytes "=" ∷ []) → u ≡ drawn t value → v ≡ drawn u ((10 ∷ []) ∷ [])
    → v ≡ drawn s (line key value)
unfolding line
line-drawn s t u v key value e f g = draw-then s u v ((key_name key ∷ bytes "=" ∷ []) ++ value) ((10 ∷ []) ∷ []) (draw-then s t u (key_name key ∷ bytes "=" ∷ []) value e f) g
