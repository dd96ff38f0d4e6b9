-- Laws of the lines of a key and of key after key, as the code draws them.
-- Assumes nothing.
use Prim.Native.Nat.{ℕ, suc, ◌+◌, ◌-◌, ◌<◌, ◌≤◌}
use mathlib.Core.Path.{◌≡◌, refl, sym, ap, ◌∙◌}
use mathlib.Core.List.{List, [], ◌∷◌, ◌++◌, map, append-nil, append_assoc}
use native.Mathlib.Omega.{arith}
use native.Mathlib.Nat.{sub-zero, add-zero}
use native.Mathlib.Numerals.{add-one}
use lib.ListN.{length, get_or, take, drop, drop_of_length-le, take-append-drop}
use lib.Seq.{drop-cons, take-nil, length-take-le}
use Rattle.draw.specs.Parts.{joined}
use Rattle.line.specs.Line.{line, lines, lines_from}
use Rattle.byte.specs.Ascii.{bytes}
use Rattle.names.specs.Names.{key_name}
use Rattle.draw.specs.Pen.{Sheet, drawn}
use Rattle.draw.proofs.Parts.{joined-none, joined-cons, joined-one, joined-append, size_none, size-cons, size-append}
use Rattle.draw.proofs.Drawing.{draw-then, drawn-none}

-- the lines of a key: none, and one before others
module _ (key : ℕ) where
  pub lines_none : lines key [] ≡ []
  unfolding lines joined
  lines_none = refl

  pub lines_cons : (value : List (List ℕ)) (values : List (List (List ℕ))) → lines key (value ∷ values) ≡ line key value ++ lines key values
  unfolding lines joined
  lines_cons value values = refl

  pub lines-one : (value : List (List ℕ)) → lines key (value ∷ []) ≡ line key value
  lines-one value = lines_cons value [] ∙ ap (λ (l : List (List ℕ)). line key value ++ l) lines_none ∙ append-nil (line key value)

  -- drawing none of them, and one
  pub draw-none : (s : Sheet) → s ≡ drawn s (lines key [])
  draw-none s = sym (ap (drawn s) lines_none ∙ drawn-none s)

  pub draw-one : (s t : Sheet) (value : List (List ℕ)) → t ≡ drawn s (line key value) → t ≡ drawn s (lines key (value ∷ []))
  draw-one s t value e = e ∙ ap (drawn s) (sym (lines-one value))

-- key after key
module _ (key : ℕ) where
  pub from-none : lines_from key [] ≡ []
  unfolding lines_from
  from-none = refl

  pub from_cons : (values : List (List (List ℕ))) (more : List (List (List (List ℕ)))) → lines_from key (values ∷ more) ≡ lines key values ++ lines_from (key + 1) more
  unfolding lines_from
  from_cons values more = refl

  -- drawing a key's lines before those of more keys, and the last key's
  pub draw-more : (s t u : Sheet) (values : List (List (List ℕ))) (more : List (List (List (List ℕ))))
      → t ≡ drawn s (lines key values) → u ≡ drawn t (lines_from (key + 1) more) → u ≡ drawn s (lines_from key (values ∷ more))
  draw-more s t u values more e f = draw-then s t u _ _ e f ∙ ap (drawn s) (sym (from_cons values more))

pub draw-last : (key : ℕ) (s t : Sheet) (values : List (List (List ℕ))) → t ≡ drawn s (lines key values) → t ≡ drawn s (lines_from key (values ∷ []))
draw-last key s t values e = draw-more key s t t values [] e (sym (ap (drawn t) (from-none (key + 1)) ∙ drawn-none t))

from-append : (key : ℕ) (xs ys : List (List (List (List ℕ)))) → lines_from key (xs ++ ys) ≡ lines_from key xs ++ lines_from (key + length xs) ys
from-append key [] ys = rw (from-none key, add-zero key)
from-append key (x ∷ xs) ys =
    let n : key + 1 + length xs ≡ key + suc (length xs) = omega arith in
    from_cons key x (xs ++ ys)
    ∙ ap (λ (l : List (List ℕ)). lines key x ++ l) (from-append (key + 1) xs ys ∙ ap (λ (k : ℕ). lines_from (key + 1) xs ++ lines_from k ys) n)
    ∙ sym (append_assoc (lines key x) (lines_from (key + 1) xs) (lines_from (key + suc (length xs)) ys))
    ∙ ap (λ (l : List (List ℕ)). l ++ lines_from (key + suc (length xs)) ys) (sym (from_cons key x xs))

-- the first n keys, and the others
pub draw-split : (key n : ℕ) (all : List (List (List (List ℕ)))) (s t u : Sheet) → n ≤ length all
    → t ≡ drawn s (lines_from key (take n all)) → u ≡ drawn t (lines_from (key + n) (drop n all)) → u ≡ drawn s (lines_from key all)
draw-split key n all s t u h e f =
    draw-then s t u _ _ e f
    ∙ ap (λ (k : ℕ). drawn s (lines_from key (take n all) ++ lines_from (key + k) (drop n all))) (sym (length-take-le n all h))
    ∙ ap (drawn s) (sym (from-append key (take n all) (drop n all)) ∙ ap (lines_from key) (take-append-drop n all))

-- A loop over the first `count` entries of a list, a line an entry: what is drawn so far, and what is left from the place i on.
module _ {A : Type 0} (f : A → List (List ℕ)) (key : ℕ) (list : List A) (count : ℕ) where
  abbrev pub Left : Sheet → Sheet → ℕ → Type 0
  Left s t i = drawn s (lines key (map f (take count list))) ≡ drawn t (lines key (map f (take (count - i) (drop i list))))

  pub entry_first : (s : Sheet) → Left s s 0
  entry_first s = rw (sub-zero count)

  pub entry_more : (s t u : Sheet) (i : ℕ) (d : A) → Left s t i → i < count → i < length list → u ≡ drawn t (line key (f (get_or list i d))) → Left s u (i + 1)
  entry_more s t u i d l h k e =
      let n : count - i ≡ suc (count - (i + 1)) = omega arith in
      l ∙ rw (n, add-one, drop-cons list i d k) (sym (draw-then t u _ (line key (f (get_or list i d))) (lines key (map f (take (count - suc i) (drop (suc i) list)))) e refl ∙ ap (drawn t) (sym (lines_cons key _ _))))

  -- all are drawn: as many as are counted, or as there are
  pub entries-counted : (s t : Sheet) (i : ℕ) → Left s t i → count ≤ i → t ≡ drawn s (lines key (map f (take count list)))
  entries-counted s t i l h = let n : count - i ≡ 0 = omega arith in sym (l ∙ rw n (sym (draw-none key t)))

  pub entries-ended : (s t : Sheet) (i : ℕ) → Left s t i → length list ≤ i → t ≡ drawn s (lines key (map f (take count list)))
  entries-ended s t i l h = sym (l ∙ rw (drop_of_length-le list h, take-nil {A = A} (count - i)) (sym (draw-none key t)))

-- How long lines are: a line has its key, its value, and two bytes more.
pub line-size : (key : ℕ) (value : List (List ℕ)) → length (joined (line key value)) ≡ length (key_name key) + length (joined value) + 2
unfolding line
line-size key value =
    let end : List ℕ = 10 ∷ [] in
    size-cons (key_name key) (bytes "=" ∷ (value ++ end ∷ []))
    ∙ omega (arith, size-cons (bytes "=") (value ++ end ∷ []), size-append value (end ∷ []), size-cons end [], size_none)

pub lines-size-none : (key : ℕ) → length (joined (lines key [])) ≡ 0
lines-size-none key = ap (λ (l : List (List ℕ)). length (joined l)) (lines_none key) ∙ size_none

pub lines-size-cons : (key : ℕ) (value : List (List ℕ)) (values : List (List (List ℕ)))
    → length (joined (lines key (value ∷ values))) ≡ length (key_name key) + length (joined value) + 2 + length (joined (lines key values))
lines-size-cons key value values = ap (λ (l : List (List ℕ)). length (joined l)) (lines_cons key value values) ∙ size-append (line key value) (lines key values) ∙ omega (arith, line-size key value)

pub from-size-none : (key : ℕ) → length (joined (lines_from key [])) ≡ 0
from-size-none key = ap (λ (l : List (List ℕ)). length (joined l)) (from-none key) ∙ size_none

pub from-size-cons : (key : ℕ) (values : List (List (List ℕ))) (more : List (List (List (List ℕ))))
    → length (joined (lines_from key (values ∷ more))) ≡ length (joined (lines key values)) + length (joined (lines_from (key + 1) more))
from-size-cons key values more = ap (λ (l : List (List ℕ)). length (joined l)) (from_cons key values more) ∙ size-append (lines key values) (lines_from (key + 1) more)

-- The bytes of lines.
pub line-joined : (key : ℕ) (value : List (List ℕ)) → joined (line key value) ≡ key_name key ++ 61 ∷ (joined value ++ (10 ∷ []))
unfolding line
line-joined key value =
    let end : List ℕ = 10 ∷ [] in
    joined-cons (key_name key) (bytes "=" ∷ (value ++ end ∷ []))
    ∙ ap (λ (l : List ℕ). key_name key ++ l) (joined-cons (bytes "=") (value ++ end ∷ []) ∙ ap (λ (l : List ℕ). 61 ∷ l) (joined-append value (end ∷ []) ∙ ap (λ (l : List ℕ). joined value ++ l) (joined-one end)))

pub lines-joined-cons : (key : ℕ) (value : List (List ℕ)) (values : List (List (List ℕ))) → joined (lines key (value ∷ values)) ≡ joined (line key value) ++ joined (lines key values)
lines-joined-cons key value values = ap joined (lines_cons key value values) ∙ joined-append (line key value) (lines key values)

pub lines-joined-none : (key : ℕ) → joined (lines key []) ≡ []
lines-joined-none key = ap joined (lines_none key) ∙ joined-none

pub from-joined-cons : (key : ℕ) (values : List (List (List ℕ))) (more : List (List (List (List ℕ))))
    → joined (lines_from key (values ∷ more)) ≡ joined (lines key values) ++ joined (lines_from (key + 1) more)
from-joined-cons key values more = ap joined (from_cons key values more) ∙ joined-append (lines key values) (lines_from (key + 1) more)

pub from-joined-none : (key : ℕ) → joined (lines_from key []) ≡ []
from-joined-none key = ap joined (from-none key) ∙ joined-none
