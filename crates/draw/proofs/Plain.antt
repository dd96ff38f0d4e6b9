-- A text of which every byte stands as it is, drawn as it is.
-- Assumes nothing.
use Prim.Native.Nat.{ℕ, ◌+◌, ◌≤◌}
use mathlib.Core.Path.{◌≡◌, refl, sym, ap, ◌∙◌}
use mathlib.Core.Bool.{Bool, true, false, ◌&&◌}
use mathlib.Core.List.{List, [], ◌∷◌, ◌++◌}
use native.Mathlib.Omega.{arith}
use lib.Dec.{leb}
use lib.ListN.{length}
use borrow.Author.Tests.{leb-true}
use Rattle.byte.specs.Byte.{pick}
use Rattle.byte.specs.Put.{put}
use Rattle.escape.specs.Escape.{plain, all_plain, escape, text_value}
use Rattle.escape.proofs.Escape.{escape-plain}
use Rattle.draw.specs.declared.Pen.{Pen}
use Rattle.draw.specs.Parts.{joined}
use Rattle.draw.specs.Pen.{sheet, moved, drawn}
use Rattle.draw.proofs.Parts.{joined-one}
use Rattle.draw.proofs.Escape.{text-none, text-cons}
use Rattle.draw.proofs.Whole.{pen, counted, inked}

-- such a text is drawn as it is
plain-joined : (x : List ℕ) → all_plain x ≡ true → joined (text_value x) ≡ x
unfolding all_plain
plain-joined [] e = text-none
plain-joined (b ∷ x) e = text-cons b x ∙ by (plain b) refl e (plain-joined x)
  where
    by : (t : Bool) → plain b ≡ t → t && all_plain x ≡ true → (all_plain x ≡ true → joined (text_value x) ≡ x) → escape b ++ joined (text_value x) ≡ b ∷ x
    by true f g more = rw (escape-plain b f, more g)
    by false f g more = absurd (let z : ◌≡◌ {A = ℕ} 0 1 = cc in omega arith)

module _ (d : List ℕ) (at : ℕ) (x : List ℕ) (e : all_plain x ≡ true) (room : at + length x ≤ length d) where
  one-long : at + length (joined (x ∷ [])) ≤ length d
  one-long = rw (joined-one x) room

  all-long : at + length (joined (text_value x)) ≤ length d
  all-long = rw (plain-joined x e) room

  same-joined : joined (x ∷ []) ≡ joined (text_value x)
  same-joined = joined-one x ∙ sym (plain-joined x e)

  drawn-alike : (ink : Bool) → drawn (sheet d (pen at ink)) (x ∷ []) ≡ drawn (sheet d (pen at ink)) (text_value x)
  drawn-alike true = inked d at (x ∷ []) one-long ∙ ap (λ (y : List ℕ). sheet (put d at y) (pen (at + length y) true)) same-joined ∙ sym (inked d at (text_value x) all-long)
  drawn-alike false = counted d at (x ∷ []) one-long ∙ ap (λ (y : List ℕ). sheet d (pen (at + length y) false)) same-joined ∙ sym (counted d at (text_value x) all-long)

-- a pen that can be moved is not stopped, and has room
moved_ok : (len at n : ℕ) (ok ink : Bool) → (moved len (record { at = at; ok = ok; ink = ink }) n).ok ≡ true → (ok ≡ true) × (at + n ≤ len)
unfolding moved
moved_ok len at n true ink e = (refl, leb-true _ _ (by (leb (at + n) len) e))
  where
    by : (t : Bool) → (pick {A = Pen} t (record { at = at + n; ok = true; ink = ink }) (record { at = 0; ok = false; ink = ink })).ok ≡ true → t ≡ true
    by true f = refl
    by false f = f
moved_ok len at n false ink e = absurd (let z : ◌≡◌ {A = ℕ} 0 1 = cc in omega arith)

pub plain-drawn : (d : List ℕ) (p : Pen) (x : List ℕ) → all_plain x ≡ true → (moved (length d) p (length x)).ok ≡ true → drawn (sheet d p) (x ∷ []) ≡ drawn (sheet d p) (text_value x)
plain-drawn d p x e f =
    let m = moved_ok (length d) p.at (length x) p.ok p.ink f in
    ap (λ (ok : Bool). drawn (sheet d (record { at = p.at; ok = ok; ink = p.ink })) (x ∷ [])) m.0
    ∙ drawn-alike d p.at x e m.1 p.ink
    ∙ ap (λ (ok : Bool). drawn (sheet d (record { at = p.at; ok = ok; ink = p.ink })) (text_value x)) (sym m.0)
