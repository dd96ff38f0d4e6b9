-- Laws of values: what the piece at a place adds to one.
-- Assumes nothing.
use mathlib.Core.Path.{◌≡◌, refl, sym, ap, ◌∙◌}
use mathlib.Core.Bool.{Bool, true, false, not, ◌&&◌, ◌||◌}
use mathlib.Core.List.{List, [], ◌∷◌}
use Prim.Native.Nat.{ℕ, suc, ◌+◌, ◌<◌, ◌≤◌, zero-le, suc-le-suc}
use native.Mathlib.Numerals.{add-one}
use native.Mathlib.Omega.{arith}
use lib.Dec.{eqb}
use lib.ListN.{length, drop, take, get_or, drop_of_length-le}
use lib.Seq.{drop-cons}
use borrow.Author.Tests.{eq-eqb, ne_eqb, eqb-true, eqb-false}
use Rattle.std.specs.List.{list_any}
use Rattle.byte.specs.Byte.{pick}
use Rattle.scan.specs.Scan.{run_from, run, end_of}
use Rattle.scan.proofs.Runs.{run-stop}
use Rattle.backslash.specs.Backslash.{piece_len, gained_at, until, unescaped_from, unescaped}

-- the value that a text begins with, where the test tells before what it ends
abbrev pub value_by : (List ℕ → Bool) → List ℕ → List ℕ
value_by ends t = unescaped (take (run (until ends) t) t)

-- a piece at the front of a text: a byte, a backslash with the byte behind it, or a backslash that is the last
module _ (ends : List ℕ → Bool) where
  run-plain : (a : ℕ) (t : List ℕ) → ends (a ∷ t) ≡ false → (a ≡ 92 → ⊥) → run (until ends) (a ∷ t) ≡ suc (run (until ends) t)
  unfolding run_from piece_len
  run-plain a [] e n = rw e
  run-plain a (b ∷ t) e n = rw (e, ne_eqb a 92 n)

  run-escaped : (b : ℕ) (t : List ℕ) → ends (92 ∷ b ∷ t) ≡ false → run (until ends) (92 ∷ b ∷ t) ≡ suc (suc (run (until ends) t))
  unfolding run_from piece_len
  run-escaped b t e = rw e

  run-last : ends (92 ∷ []) ≡ false → run (until ends) (92 ∷ []) ≡ 1
  unfolding run_from piece_len
  run-last e = rw e

  value-plain : (a : ℕ) (t : List ℕ) → ends (a ∷ t) ≡ false → (a ≡ 92 → ⊥) → value_by ends (a ∷ t) ≡ a ∷ value_by ends t
  unfolding unescaped_from
  value-plain a t e n = rw (run-plain a t e n, ne_eqb a 92 n)

  value-escaped : (b : ℕ) (t : List ℕ) → ends (92 ∷ b ∷ t) ≡ false → value_by ends (92 ∷ b ∷ t) ≡ b ∷ value_by ends t
  unfolding unescaped_from
  value-escaped b t e = rw (run-escaped b t e)

  value-last : ends (92 ∷ []) ≡ false → value_by ends (92 ∷ []) ≡ []
  unfolding unescaped_from
  value-last e = rw (run-last e)

  pub value_none : (t : List ℕ) → until ends t ≡ 0 → value_by ends t ≡ []
  unfolding unescaped_from
  value_none t e = rw (run-stop (until ends) t e)

-- the piece at a place, by the byte that it adds
data Piece (s : List ℕ) (i : ℕ) : ℕ → Type 0 where
  itself : (get_or s i 0 ≡ 92 → ⊥) → Piece s i i
  next : get_or s i 0 ≡ 92 → Piece s i (i + 1)

piece-at : (s : List ℕ) (i j : ℕ) → j ≡ gained_at s i → Piece s i j
unfolding gained_at
piece-at s i j is = rw is (by (eqb (get_or s i 0) 92) refl)
  where
    by : (t : Bool) → eqb (get_or s i 0) 92 ≡ t → Piece s i (pick t (i + 1) i)
    by true e = next (eqb-true (get_or s i 0) 92 e)
    by false e = itself (eqb-false (get_or s i 0) 92 e)

from-by : {s : List ℕ} {i : ℕ} (j : ℕ) → Piece s i j → i ≤ j
from-by j (itself n) = omega arith
from-by j (next b) = omega arith

-- a piece with a byte to add: the value goes on behind that byte
pub record Turn (ends : List ℕ → Bool) (s : List ℕ) (i j : ℕ) : Type 0 where
  pub same : end_of (until ends) s i ≡ end_of (until ends) s (j + 1)
  pub value : value_by ends (drop i s) ≡ get_or s j 0 ∷ value_by ends (drop (j + 1) s)
  pub from : i ≤ j

-- a backslash that is the last: it adds nothing
pub record Last (ends : List ℕ → Bool) (s : List ℕ) (i j : ℕ) : Type 0 where
  pub same : end_of (until ends) s i ≡ j
  pub value : value_by ends (drop i s) ≡ []

module _ (ends : List ℕ → Bool) (s : List ℕ) (i : ℕ) (h : i < length s) (on : ends (drop i s) ≡ false) where
  turn_by : (j : ℕ) → Piece s i j → j < length s → Turn ends s i j
  turn_by j (itself n) l =
      let e : drop i s ≡ get_or s i 0 ∷ drop (suc i) s = drop-cons s i 0 h in
      let o : ends (get_or s i 0 ∷ drop (suc i) s) ≡ false = rw e at on in
      record {
        same = rw (e, run-plain ends (get_or s i 0) (drop (suc i) s) o n, add-one i) (omega arith);
        value = rw (e, value-plain ends (get_or s i 0) (drop (suc i) s) o n, add-one i);
        from = omega arith;
      }
  turn_by j (next b) l =
      let e : drop i s ≡ 92 ∷ get_or s (suc i) 0 ∷ drop (suc (suc i)) s = drop-cons s i 0 h ∙ rw (b, drop-cons s (suc i) 0 (omega arith)) in
      let o : ends (92 ∷ get_or s (suc i) 0 ∷ drop (suc (suc i)) s) ≡ false = rw e at on in
      let k : i + 1 + 1 ≡ suc (suc i) = omega arith in
      record {
        same = rw (k, e, run-escaped ends (get_or s (suc i) 0) (drop (suc (suc i)) s) o) (omega arith);
        value = rw (k, e, value-escaped ends (get_or s (suc i) 0) (drop (suc (suc i)) s) o, add-one i);
        from = omega arith;
      }

  last-by : (j : ℕ) → Piece s i j → length s ≤ j → Last ends s i j
  last-by j (itself n) l = absurd (omega arith)
  last-by j (next b) l =
      let z : drop (suc i) s ≡ [] = drop_of_length-le s {i = suc i} (omega arith) in
      let e : drop i s ≡ 92 ∷ [] = drop-cons s i 0 h ∙ rw (b, z) in
      let o : ends (92 ∷ []) ≡ false = rw e at on in
      record {
        same = rw (e, run-last ends o);
        value = rw (e, value-last ends o);
      }

  pub turn : (j : ℕ) → j ≡ gained_at s i → j < length s → Turn ends s i j
  turn j e l = turn_by j (piece-at s i j e) l

  pub last : (j : ℕ) → j ≡ gained_at s i → length s ≤ j → Last ends s i j
  last j e l = last-by j (piece-at s i j e) l

-- a byte that is no backslash is gained itself
pub gained-itself : (s : List ℕ) (i : ℕ) → (get_or s i 0 ≡ 92 → ⊥) → i ≡ gained_at s i
unfolding gained_at
gained-itself s i n = rw (ne_eqb (get_or s i 0) 92 n)

-- the byte that is gained stands no earlier than its piece
pub gained-from : (s : List ℕ) (i : ℕ) → i < length s → (j : ℕ) → j ≡ gained_at s i → i ≤ j
gained-from s i h j is = from-by j (piece-at s i j is)

-- a decoded value is never longer than it is written
shorter-from : (behind : Bool) (s : List ℕ) → length (unescaped_from behind s) ≤ length s
unfolding unescaped_from
shorter-from behind [] = zero-le
shorter-from true (a ∷ s) = suc-le-suc (shorter-from false s)
shorter-from false (a ∷ s) = by (eqb a 92) (shorter-from true s) (shorter-from false s)
  where
    by : (t : Bool) → length (unescaped_from true s) ≤ length s → length (unescaped_from false s) ≤ length s
        → length (pick t (unescaped_from true s) (a ∷ unescaped_from false s)) ≤ suc (length s)
    by true p q = omega arith
    by false p q = suc-le-suc q

pub shorter : (s : List ℕ) → length (unescaped s) ≤ length s
shorter s = shorter-from false s

-- one that is as long is as it is written
pub as_written : (s : List ℕ) → length (unescaped s) ≡ length s → unescaped s ≡ s
unfolding unescaped_from
as_written [] e = refl
as_written (a ∷ s) e = by (eqb a 92) (shorter-from true s) (as_written s) e
  where
    by : (t : Bool) → length (unescaped_from true s) ≤ length s → (length (unescaped s) ≡ length s → unescaped s ≡ s)
        → length (pick t (unescaped_from true s) (a ∷ unescaped s)) ≡ suc (length s) → pick t (unescaped_from true s) (a ∷ unescaped s) ≡ a ∷ s
    by true p later l = absurd (omega arith)
    by false p later l = ap (λ (v : List ℕ). a ∷ v) (later (omega arith))

-- a byte at a time, where the flag tells whether a backslash stands before it: a backslash that none stands before adds nothing, any other byte itself
abbrev pub sign : Bool → ℕ → Bool
sign behind a = not behind && eqb a 92

sign-turn : (behind : Bool) (a : ℕ) (s : List ℕ) → unescaped_from behind (a ∷ s) ≡ pick (sign behind a) (unescaped_from true s) (a ∷ unescaped_from false s)
unfolding unescaped_from
sign-turn true a s = refl
sign-turn false a s = refl

module _ (s : List ℕ) (i : ℕ) (behind t : Bool) (h : i < length s) (is : t ≡ sign behind (get_or s i 0)) where
  turned : unescaped_from behind (drop i s) ≡ pick t (unescaped_from true (drop (i + 1) s)) (get_or s i 0 ∷ unescaped_from false (drop (i + 1) s))
  turned = rw (is, add-one i, drop-cons s i 0 h) (sign-turn behind (get_or s i 0) (drop (suc i) s))

  pub sign-on : t ≡ true → unescaped_from behind (drop i s) ≡ unescaped_from true (drop (i + 1) s)
  sign-on e = turned ∙ rw e

  pub sign-off : t ≡ false → unescaped_from behind (drop i s) ≡ get_or s i 0 ∷ unescaped_from false (drop (i + 1) s)
  sign-off e = turned ∙ rw e

pub sign-past : (s : List ℕ) (i : ℕ) (behind : Bool) → length s ≤ i → unescaped_from behind (drop i s) ≡ []
unfolding unescaped_from
sign-past s i behind h = rw (drop_of_length-le s h) (by behind)
  where
    by : (t : Bool) → unescaped_from t [] ≡ []
    by true = refl
    by false = refl

-- a value is as it is written where no backslash stands in it
pub none-written : (s : List ℕ) → not (list_any (λ b. eqb b 92) s) ≡ eqb (length (unescaped s)) (length s)
unfolding unescaped_from
none-written [] = refl
none-written (a ∷ s) = by (eqb a 92) (shorter-from true s) (none-written s)
  where
    on : (q : Bool) → eqb (length (unescaped s)) (length s) ≡ q → q ≡ eqb (suc (length (unescaped s))) (suc (length s))
    on true e = sym (eq-eqb _ _ (ap suc (eqb-true (length (unescaped s)) (length s) e)))
    on false e = let n : length (unescaped s) ≡ length s → ⊥ = eqb-false (length (unescaped s)) (length s) e in sym (ne_eqb _ _ (λ (q : suc (length (unescaped s)) ≡ suc (length s)). n (omega (arith, q))))

    by : (t : Bool) → length (unescaped_from true s) ≤ length s → not (list_any (λ b. eqb b 92) s) ≡ eqb (length (unescaped s)) (length s)
        → not (t || list_any (λ b. eqb b 92) s) ≡ eqb (length (pick t (unescaped_from true s) (a ∷ unescaped s))) (suc (length s))
    by true p e = sym (ne_eqb _ _ (λ (q : length (unescaped_from true s) ≡ suc (length s)). absurd (omega arith)))
    by false p e = e ∙ on (eqb (length (unescaped s)) (length s)) refl
