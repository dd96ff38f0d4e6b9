-- Laws of drawing: a part, parts one after the other, and what a whole text comes to.
-- Assumes nothing.
use Prim.Native.Nat.{ℕ, ◌+◌}
use mathlib.Core.Path.{◌≡◌, refl, sym, ap, ◌∙◌}
use mathlib.Core.Bool.{Bool, true, false, ◌&&◌}
use mathlib.Core.List.{List, [], ◌∷◌, ◌++◌}
use lib.Dec.{leb}
use lib.ListN.{length}
use Rattle.byte.specs.Byte.{pick}
use Rattle.byte.specs.Put.{written}
use Rattle.byte.proofs.Writing.{length-written}
use Rattle.draw.specs.declared.Pen.{Pen}
use Rattle.draw.specs.Pen.{Sheet, sheet, moved, draw_one, drawn}

-- a pen that is moved: stopped already, without room, with room
module _ (len : ℕ) (p : Pen) (n : ℕ) where
  pub move-stopped : p.ok ≡ false → record { at = 0; ok = false; ink = p.ink } ≡ moved len p n
  unfolding moved
  move-stopped e = rw e

  pub move-short : p.ok ≡ true → leb (p.at + n) len ≡ false → record { at = 0; ok = false; ink = p.ink } ≡ moved len p n
  unfolding moved
  move-short e f = rw (e, f)

  pub move-room : p.ok ≡ true → leb (p.at + n) len ≡ true → record { at = p.at + n; ok = true; ink = p.ink } ≡ moved len p n
  unfolding moved
  move-room e f = rw (e, f)

-- one part drawn: counted, and where the pen writes, written
module _ (d : List ℕ) (p q : Pen) (x : List ℕ) (n : ℕ) (long : n ≡ length x) (next : q ≡ moved (length d) p n) where
  pub draw-dry : p.ok && p.ink ≡ false → sheet d q ≡ drawn (sheet d p) (x ∷ [])
  unfolding drawn draw_one
  draw-dry e = rw (e, next, long)

  pub draw-ink : p.ok && p.ink ≡ true → (d' : List ℕ) → d' ≡ written d p.at x → sheet d' q ≡ drawn (sheet d p) (x ∷ [])
  unfolding drawn draw_one
  draw-ink e d' w = rw (e, next, long, w)

  -- and as `part` does it, for a part that what is called writes
  pub draw-part : (d' : List ℕ) → (p.ok && p.ink ≡ false → d' ≡ d) → (p.ok && p.ink ≡ true → d' ≡ written d p.at x) → sheet d' q ≡ drawn (sheet d p) (x ∷ [])
  draw-part d' dry ink = by (p.ok && p.ink) refl
    where
      by : (t : Bool) → p.ok && p.ink ≡ t → sheet d' q ≡ drawn (sheet d p) (x ∷ [])
      by true e = draw-ink e d' (ink e)
      by false e = ap (λ (b : List ℕ). sheet b q) (dry e) ∙ draw-dry e

-- parts behind parts
pub drawn-append : (s : Sheet) (xs ys : List (List ℕ)) → drawn s (xs ++ ys) ≡ drawn (drawn s xs) ys
unfolding drawn
drawn-append s [] ys = refl
drawn-append s (x ∷ xs) ys = drawn-append (draw_one s x) xs ys

pub drawn-none : (s : Sheet) → drawn s [] ≡ s
unfolding drawn
drawn-none s = refl

-- drawing xs and then ys, as two calls do it
pub draw-then : (s t u : Sheet) (xs ys : List (List ℕ)) → t ≡ drawn s xs → u ≡ drawn t ys → u ≡ drawn s (xs ++ ys)
draw-then s t u xs ys e f = f ∙ ap (λ (v : Sheet). drawn v ys) e ∙ sym (drawn-append s xs ys)

-- lent memory keeps its length
one-length : (s : Sheet) (x : List ℕ) → length (draw_one s x).bytes ≡ length s.bytes
unfolding draw_one
one-length s x = by (s.pen.ok && s.pen.ink)
  where
    by : (t : Bool) → length (pick t (written s.bytes s.pen.at x) s.bytes) ≡ length s.bytes
    by true = length-written s.bytes s.pen.at x
    by false = refl

pub drawn-length : (s : Sheet) (xs : List (List ℕ)) → length (drawn s xs).bytes ≡ length s.bytes
unfolding drawn
drawn-length s [] = refl
drawn-length s (x ∷ xs) = drawn-length (draw_one s x) xs ∙ one-length s x

-- so two sheets from which one and the same comes are equally long
pub drawn-alike : (s t : Sheet) (xs ys : List (List ℕ)) → drawn s xs ≡ drawn t ys → length t.bytes ≡ length s.bytes
drawn-alike s t xs ys e = sym (drawn-length t ys) ∙ ap (λ (u : Sheet). length u.bytes) (sym e) ∙ drawn-length s xs

pub drawn-keeps : (s t : Sheet) (xs : List (List ℕ)) → t ≡ drawn s xs → length t.bytes ≡ length s.bytes
drawn-keeps s t xs e = ap (λ (u : Sheet). length u.bytes) e ∙ drawn-length s xs
