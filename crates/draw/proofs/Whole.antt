-- What a whole text in parts comes to: counted by a pen without ink, written by a pen with ink.
-- Assumes nothing.
use Prim.Native.Nat.{ℕ, ◌+◌, ◌≤◌, ◌<◌}
use mathlib.Core.Path.{◌≡◌, refl, ap, ◌∙◌}
use mathlib.Core.Bool.{Bool, true, false}
use mathlib.Core.List.{List, [], ◌∷◌}
use native.Mathlib.Omega.{arith}
use native.Mathlib.Nat.{add-zero}
use lib.Dec.{leb}
use lib.ListN.{length}
use borrow.Author.Tests.{le-leb, lt-leb, leb-true, leb-false}
use Rattle.byte.specs.Put.{put}
use Rattle.byte.proofs.Writing.{written-room, put-nil, put-append, length-put}
use Rattle.draw.specs.declared.Pen.{Pen}
use Rattle.draw.specs.Parts.{joined}
use Rattle.draw.specs.Pen.{Sheet, sheet, moved, draw_one, drawn}
use Rattle.draw.proofs.Parts.{size-cons}

abbrev pub pen : ℕ → Bool → Pen
pen at ink = record { at = at; ok = true; ink = ink }

abbrev pub stopped : Bool → Pen
stopped ink = record { at = 0; ok = false; ink = ink }

-- a pen that counts: it is behind all that it counted, or it is stopped
module _ (len at n : ℕ) (ink : Bool) where
  moved-room : at + n ≤ len → moved len (pen at ink) n ≡ pen (at + n) ink
  unfolding moved
  moved-room h = rw (le-leb _ _ h)

  moved-short : len < at + n → moved len (pen at ink) n ≡ stopped ink
  unfolding moved
  moved-short h = rw (lt-leb _ _ h)

stays-stopped : (d : List ℕ) (ink : Bool) (xs : List (List ℕ)) → drawn (sheet d (stopped ink)) xs ≡ sheet d (stopped ink)
unfolding drawn draw_one moved
stays-stopped d ink [] = refl
stays-stopped d ink (x ∷ xs) = stays-stopped d ink xs

count-one : (d : List ℕ) (at : ℕ) (x : List ℕ) → draw_one (sheet d (pen at false)) x ≡ sheet d (moved (length d) (pen at false) (length x))
unfolding draw_one
count-one d at x = refl

count-step : (d : List ℕ) (at : ℕ) (x : List ℕ) (xs : List (List ℕ)) → drawn (sheet d (pen at false)) (x ∷ xs) ≡ drawn (sheet d (moved (length d) (pen at false) (length x))) xs
unfolding drawn
count-step d at x xs = ap (λ (s : Sheet). drawn s xs) (count-one d at x)

-- a text that fits is counted, and nothing is written
pub counted : (d : List ℕ) (at : ℕ) (xs : List (List ℕ)) → at + length (joined xs) ≤ length d → drawn (sheet d (pen at false)) xs ≡ sheet d (pen (at + length (joined xs)) false)
unfolding drawn joined
counted d at [] h = rw (add-zero at)
counted d at (x ∷ xs) h =
    let e = size-cons x xs in
    let r : at + length x + length (joined xs) ≤ length d = omega (arith, e) in
    let n : at + length x + length (joined xs) ≡ at + length (joined (x ∷ xs)) = omega (arith, e) in
    count-step d at x xs ∙ rw (moved-room (length d) at (length x) false (omega arith)) (counted d (at + length x) xs r ∙ ap (λ (k : ℕ). sheet d (pen k false)) n)

-- one that does not fit stops the pen, and nothing is written
pub uncounted : (d : List ℕ) (at : ℕ) (xs : List (List ℕ)) → at ≤ length d → length d < at + length (joined xs) → drawn (sheet d (pen at false)) xs ≡ sheet d (stopped false)
unfolding drawn joined
uncounted d at [] g h = absurd (omega arith)
uncounted d at (x ∷ xs) g h = count-step d at x xs ∙ by (leb (at + length x) (length d)) refl (λ l. uncounted d (at + length x) xs l (omega (arith, size-cons x xs)))
  where
    by : (t : Bool) → leb (at + length x) (length d) ≡ t → (at + length x ≤ length d → drawn (sheet d (pen (at + length x) false)) xs ≡ sheet d (stopped false))
        → drawn (sheet d (moved (length d) (pen at false) (length x))) xs ≡ sheet d (stopped false)
    by true e f =
        let l : at + length x ≤ length d = leb-true _ _ e in
        rw (moved-room (length d) at (length x) false l) (f l)
    by false e f = rw (moved-short (length d) at (length x) false (leb-false _ _ e)) (stays-stopped d false xs)

-- a text that fits is written
ink-step : (d : List ℕ) (at : ℕ) (x : List ℕ) (xs : List (List ℕ)) → at + length x ≤ length d → drawn (sheet d (pen at true)) (x ∷ xs) ≡ drawn (sheet (put d at x) (pen (at + length x) true)) xs
unfolding drawn draw_one
ink-step d at x xs h = rw (written-room d at x h, moved-room (length d) at (length x) true h)

pub inked : (d : List ℕ) (at : ℕ) (xs : List (List ℕ)) → at + length (joined xs) ≤ length d → drawn (sheet d (pen at true)) xs ≡ sheet (put d at (joined xs)) (pen (at + length (joined xs)) true)
unfolding drawn joined
inked d at [] h = rw (add-zero at, put-nil d at)
inked d at (x ∷ xs) h =
    let e = size-cons x xs in
    let l : at + length x ≤ length d = omega (arith, e) in
    let r : at + length x + length (joined xs) ≤ length (put d at x) = omega (arith, e, length-put d at x l) in
    let n : at + length x + length (joined xs) ≡ at + length (joined (x ∷ xs)) = omega (arith, e) in
    ink-step d at x xs l ∙ inked (put d at x) (at + length x) xs r ∙ rw (put-append d at x l (joined xs), n)

-- the same from the start of lent memory
module _ (d : List ℕ) (xs : List (List ℕ)) where
  from_start : 0 + length (joined xs) ≡ length (joined xs)
  from_start = omega arith

  pub counted-all : length (joined xs) ≤ length d → drawn (sheet d (pen 0 false)) xs ≡ sheet d (pen (length (joined xs)) false)
  counted-all h = rw from_start at (counted d 0 xs (omega arith))

  pub uncounted-all : length d < length (joined xs) → drawn (sheet d (pen 0 false)) xs ≡ sheet d (stopped false)
  uncounted-all h = uncounted d 0 xs (omega arith) (omega arith)

  pub inked-all : length (joined xs) ≤ length d → drawn (sheet d (pen 0 true)) xs ≡ sheet (put d 0 (joined xs)) (pen (length (joined xs)) true)
  inked-all h = rw from_start at (inked d 0 xs (omega arith))
