-- A report as its lines: each is a key, `=` and a value; split at line ends, the lines of a key give its values back.
-- Assumes nothing.
use Prim.Native.Nat.{ℕ, zero, suc, ◌+◌, ◌<◌, ◌≤◌}
use mathlib.Core.Path.{◌≡◌, refl, sym, ap, ◌∙◌}
use mathlib.Core.Bool.{Bool, true, false}
use mathlib.Core.List.{List, [], ◌∷◌, ◌++◌, map, append_assoc, append-nil}
use native.Mathlib.Omega.{arith}
use native.Mathlib.Nat.{add-zero}
use lib.Dec.{eqb}
use lib.ListN.{length, get_or, take, drop, length-take}
use lib.Seq.{take-nil, drop-append-add}
use borrow.Author.Tests.{eq-eqb, ne_eqb}
use Rattle.byte.specs.Byte.{pick}
use Rattle.names.specs.Names.{key_name}
use Rattle.names.specs.Find.{key_number}
use Rattle.name_table.proofs.Examples.{key-own, no-empty}
use Rattle.split.specs.Split.{first_at, split}
use Rattle.split.proofs.Split.{Free, free-nil, free-cons, split-first, split-free, split-behind, first-most, behind}
use Rattle.draw.specs.Parts.{joined}
use Rattle.line.specs.Line.{line, lines, lines_from}
use Rattle.line.proofs.Lines.{line-joined, lines-joined-none, lines-joined-cons, from-joined-none, from-joined-cons}
use Rattle.telling.specs.ReadBack.{key_in, value_of, values_of}
use Rattle.telling.proofs.Free.{free-append, key-equals, key-end}

abbrev pub row : ℕ → List ℕ → List ℕ
row key x = key_name key ++ 61 ∷ x

unfoldable pub rows : ℕ → List (List (List ℕ)) → List (List ℕ)
rows key [] = []
rows key (v ∷ vs) = row key (joined v) ∷ rows key vs

unfoldable pub rows_from : ℕ → List (List (List (List ℕ))) → List (List ℕ)
rows_from key [] = []
rows_from key (vs ∷ more) = rows key vs ++ rows_from (key + 1) more

-- each ended by byte 10
unfoldable pub ended : List (List ℕ) → List ℕ
ended [] = []
ended (r ∷ rs) = r ++ 10 ∷ ended rs

ended-append : (rs ss : List (List ℕ)) → ended (rs ++ ss) ≡ ended rs ++ ended ss
unfolding ended
ended-append [] ss = refl
ended-append (r ∷ rs) ss = ap (λ (l : List ℕ). r ++ 10 ∷ l) (ended-append rs ss) ∙ sym (append_assoc r (10 ∷ ended rs) (ended ss))

line-ended : (key : ℕ) (v : List (List ℕ)) (t : List ℕ) → joined (line key v) ++ t ≡ row key (joined v) ++ 10 ∷ t
line-ended key v t =
    ap (λ (l : List ℕ). l ++ t) (line-joined key v ∙ sym (append_assoc (key_name key) (61 ∷ joined v) (10 ∷ []))) ∙ append_assoc (row key (joined v)) (10 ∷ []) t

lines-ended : (key : ℕ) (vs : List (List (List ℕ))) → joined (lines key vs) ≡ ended (rows key vs)
unfolding ended rows
lines-ended key [] = lines-joined-none key
lines-ended key (v ∷ vs) =
    lines-joined-cons key v vs ∙ line-ended key v (joined (lines key vs)) ∙ ap (λ (l : List ℕ). row key (joined v) ++ 10 ∷ l) (lines-ended key vs)

from-ended : (key : ℕ) (all : List (List (List (List ℕ)))) → joined (lines_from key all) ≡ ended (rows_from key all)
unfolding ended rows_from
from-ended key [] = from-joined-none key
from-ended key (vs ∷ more) =
    from-joined-cons key vs more
    ∙ ap (λ (l : List ℕ). l ++ joined (lines_from (key + 1) more)) (lines-ended key vs)
    ∙ ap (λ (l : List ℕ). ended (rows key vs) ++ l) (from-ended (key + 1) more)
    ∙ sym (ended-append (rows key vs) (rows_from (key + 1) more))

-- values with no line end in them
abbrev pub FreeValues : List (List (List ℕ)) → Type 0
FreeValues [] = Unit {0}
FreeValues (v ∷ vs) = Free 10 (joined v) × FreeValues vs

abbrev pub FreeAll : List (List (List (List ℕ))) → Type 0
FreeAll [] = Unit {0}
FreeAll (vs ∷ more) = FreeValues vs × FreeAll more

abbrev FreeRows : List (List ℕ) → Type 0
FreeRows [] = Unit {0}
FreeRows (r ∷ rs) = Free 10 r × FreeRows rs

rows_append : (rs ss : List (List ℕ)) → FreeRows rs → FreeRows ss → FreeRows (rs ++ ss)
rows_append [] ss f g = g
rows_append (r ∷ rs) ss f g = (f.0, rows_append rs ss f.1 g)

rows-free : (key : ℕ) → key < 20 → (vs : List (List (List ℕ))) → FreeValues vs → FreeRows (rows key vs)
unfolding rows
rows-free key h [] f = tt
rows-free key h (v ∷ vs) f = (free-append 10 (key_name key) (61 ∷ joined v) (key-end key h) (free-cons 10 61 (joined v) (λ q. omega arith) f.0), rows-free key h vs f.1)

from-free : (key : ℕ) (all : List (List (List (List ℕ)))) → key + length all ≤ 20 → FreeAll all → FreeRows (rows_from key all)
unfolding rows_from
from-free key [] h f = tt
from-free key (vs ∷ more) h f = rows_append (rows key vs) (rows_from (key + 1) more) (rows-free key (omega arith) vs f.0) (from-free (key + 1) more (omega arith) f.1)

-- split at line ends: the lines, and nothing behind the last
split-ended : (rs : List (List ℕ)) → FreeRows rs → split 10 (ended rs) ≡ rs ++ ([] ∷ [])
unfolding ended
split-ended [] f = split-free 10 [] (free-nil 10)
split-ended (r ∷ rs) f = split-behind 10 r f.0 (ended rs) ∙ ap (λ (l : List (List ℕ)). r ∷ l) (split-ended rs f.1)

from-split : (key : ℕ) (all : List (List (List (List ℕ)))) → key + length all ≤ 20 → FreeAll all → split 10 (joined (lines_from key all)) ≡ rows_from key all ++ ([] ∷ [])
from-split key all h f = ap (split 10) (from-ended key all) ∙ split-ended (rows_from key all) (from-free key all h f)

-- a line's key and its value
module _ (key : ℕ) (h : key < 20) (x : List ℕ) where
  before : take (first_at 61 (row key x)) (row key x) ≡ key_name key
  before = let e : take (first_at 61 (row key x)) (row key x) ∷ behind 61 (drop (first_at 61 (row key x)) (row key x)) ≡ key_name key ∷ split 61 x = sym (split-first 61 (row key x)) ∙ split-behind 61 (key_name key) (key-equals key h) x in cc

  place : first_at 61 (row key x) ≡ length (key_name key)
  place = omega (arith, ap length before, length-take (first_at 61 (row key x)) (row key x), first-most 61 (row key x))

  row-value : value_of (row key x) ≡ x
  unfolding value_of
  row-value = rw place (drop-append-add (key_name key) (61 ∷ x) 1)

  row-key : 0 < key → key_in (row key x) ≡ key
  unfolding key_in
  row-key p = rw before (own key p h)
    where
      own : (k : ℕ) → 0 < k → k < 20 → key_number (key_name k) ≡ k
      own zero p l = absurd (omega arith)
      own (suc k) p l = let e : key_number (key_name (k + 1)) ≡ k + 1 = key-own k (omega arith) in let s : k + 1 ≡ suc k = omega arith in rw s at e

nothing-in : key_in [] ≡ 0
unfolding key_in
nothing-in = rw (take-nil {A = ℕ} (first_at 61 [])) no-empty

-- the values of a key
values-append : (k : ℕ) (rs ss : List (List ℕ)) → values_of k (rs ++ ss) ≡ values_of k rs ++ values_of k ss
unfolding values_of
values-append k [] ss = refl
values-append k (r ∷ rs) ss = by (eqb (key_in r) k) (values-append k rs ss)
  where
    by : (t : Bool) → values_of k (rs ++ ss) ≡ values_of k rs ++ values_of k ss
        → pick t (value_of r ∷ values_of k (rs ++ ss)) (values_of k (rs ++ ss)) ≡ pick t (value_of r ∷ values_of k rs) (values_of k rs) ++ values_of k ss
    by true e = ap (λ (l : List (List ℕ)). value_of r ∷ l) e
    by false e = e

module _ (key : ℕ) (p : 0 < key) (h : key < 20) where
  values-own : (vs : List (List (List ℕ))) → values_of key (rows key vs) ≡ map joined vs
  unfolding values_of rows
  values-own [] = refl
  values-own (v ∷ vs) = rw (row-key key h (joined v) p, eq-eqb key key refl, row-value key h (joined v), values-own vs)

  values_other : (k : ℕ) → (key ≡ k → ⊥) → (vs : List (List (List ℕ))) → values_of k (rows key vs) ≡ []
  unfolding values_of rows
  values_other k n [] = refl
  values_other k n (v ∷ vs) = rw (row-key key h (joined v) p, ne_eqb key k n) (values_other k n vs)

values-end : (k : ℕ) → 0 < k → values_of k ([] ∷ []) ≡ []
unfolding values_of
values-end k p = rw (nothing-in, ne_eqb 0 k (λ e. omega arith))

from-before : (k key : ℕ) (all : List (List (List (List ℕ)))) → 0 < key → key + length all ≤ 20 → k < key → values_of k (rows_from key all) ≡ []
unfolding rows_from values_of
from-before k key [] p h l = refl
from-before k key (vs ∷ more) p h l =
    values-append k (rows key vs) (rows_from (key + 1) more)
    ∙ rw (values_other key p (omega arith) k (λ e. omega arith) vs, from-before k (key + 1) more (omega arith) (omega arith) (omega arith))

from_at : (key : ℕ) (all : List (List (List (List ℕ)))) (i : ℕ) → 0 < key → key + length all ≤ 20 → i < length all → values_of (key + i) (rows_from key all) ≡ map joined (get_or all i [])
unfolding rows_from
from_at key [] i p h l = absurd (omega arith)
from_at key (vs ∷ more) zero p h l =
    rw (add-zero key)
    (values-append key (rows key vs) (rows_from (key + 1) more)
    ∙ rw (values-own key p (omega arith) vs, from-before key (key + 1) more (omega arith) (omega arith) (omega arith)) (append-nil (map joined vs)))
from_at key (vs ∷ more) (suc i) p h l =
    let n : key + 1 + i ≡ key + suc i = omega arith in
    let r : values_of (key + suc i) (rows_from (key + 1) more) ≡ map joined (get_or more i []) = rw n at (from_at (key + 1) more i (omega arith) (omega arith) (omega arith)) in
    values-append (key + suc i) (rows key vs) (rows_from (key + 1) more) ∙ rw (values_other key p (omega arith) (key + suc i) (λ e. omega arith) vs) r

-- the values of a key of a whole report
pub values-back : (all : List (List (List (List ℕ)))) (i : ℕ) → length all ≤ 19 → i < length all → FreeAll all → values_of (1 + i) (split 10 (joined (lines_from 1 all))) ≡ map joined (get_or all i [])
values-back all i h l f =
    ap (values_of (1 + i)) (from-split 1 all (omega arith) f)
    ∙ values-append (1 + i) (rows_from 1 all) ([] ∷ [])
    ∙ rw (values-end (1 + i) (omega arith), append-nil (values_of (1 + i) (rows_from 1 all))) (from_at 1 all i (omega arith) (omega arith) l)
