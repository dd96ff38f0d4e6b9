-- A key is told by its first two bytes and its length: no two keys have the same mark.
-- Assumes nothing.
use Prim.Native.Nat.{ℕ, zero, suc, ◌+◌, ◌-◌, ◌%◌, ◌≤◌, ◌<◌}
use mathlib.Core.Path.{◌≡◌, refl, sym, ap, ◌∙◌}
use mathlib.Core.Bool.{Bool, true, false}
use mathlib.Core.List.{List, [], ◌∷◌}
use native.Mathlib.Numerals.{add-one}
use native.Mathlib.Omega.{arith}
use lib.Dec.{eqb}
use lib.ListN.{length, get_or}
use borrow.Author.Tests.{eq-eqb, eqb-true, eqb-false}
use Rattle.byte.specs.Byte.{pick}
use Rattle.byte.specs.Same.{same}
use Rattle.byte.proofs.Same.{same_true, same_refl}
use Rattle.byte.proofs.Table.{every, holds_at}
use Rattle.name_table.specs.Names.{fixed, key_names, key_name}
use Rattle.name_table.specs.Find.{key_number}
use Rattle.name_table.proofs.Arms.{Not, member, not-member}
use Rattle.name_table.proofs.Among.{Found, number-found}
use Rattle.name_table.proofs.Rows.{key, no-name-zero}
use Rattle.name_table.proofs.Examples.{key-own, no-empty}

unfoldable pub mark : List ℕ → ℕ
mark s = (get_or s 0 0 + get_or s 0 0 + get_or s 1 0 + length s % 64) % 64

-- the marks of the keys, the last arm's first
unfoldable pub marks : List ℕ
marks = 61 ∷ 48 ∷ 39 ∷ 33 ∷ 32 ∷ 29 ∷ 27 ∷ 25 ∷ 21 ∷ 19 ∷ 14 ∷ 13 ∷ 10 ∷ 9 ∷ 7 ∷ 5 ∷ 4 ∷ 3 ∷ 2 ∷ []

-- key m, counted from 0, has the mark k only if it is key n
unfoldable pub agrees : ℕ → ℕ → ℕ → Bool
agrees k n m = pick (eqb (mark (get_or key_names m [])) k) (eqb n (m + 1)) true

marked : ℕ → Bool
marked m = member (mark (get_or key_names m [])) marks

tested : every 19 marked ≡ true
unfolding marked mark marks
tested = refl

-- a text that is a key
module _ (s : List ℕ) (some : key_number s ≡ 0 → ⊥) where
  found : Found 1 key_names s (key_number s)
  unfolding key_number
  found = number-found key_names s some

  place : key_number s - 1 < 19
  place = let l : length key_names ≡ 19 = refl in omega (arith, found.from, found.within)

  pub key-is : key_name (key_number s) ≡ s
  unfolding key_name
  key-is =
      let e : key_number s ≡ suc (key_number s - 1) = omega (arith, found.from) in
      ap (λ (n : ℕ). get_or ([] ∷ key_names) n []) e ∙ found.is

  pub told : (k n : ℕ) → every 19 (agrees k n) ≡ true → mark s ≡ k → n ≡ key_number s
  unfolding agrees
  told k n t e =
      let m : ℕ = key_number s - 1 in
      let a : eqb n (m + 1) ≡ true = by (get_or key_names m []) found.is (holds_at 19 (agrees k n) t m place) in
      let b : n ≡ m + 1 = eqb-true n (m + 1) a in
      omega (arith, found.from)
    where
      by : (w : List ℕ) → w ≡ s → pick (eqb (mark w) k) (eqb n (key_number s - 1 + 1)) true ≡ true → eqb n (key_number s - 1 + 1) ≡ true
      by w p q = rw (p, e, eq-eqb k k refl) at q

  pub unmarked : Not marks (mark s) → 0 ≡ key_number s
  unfolding marked
  unmarked r =
      let h : marked (key_number s - 1) ≡ true = holds_at 19 marked tested (key_number s - 1) place in
      let g : member (mark s) marks ≡ true = by (get_or key_names (key_number s - 1) []) found.is h in
      let f : member (mark s) marks ≡ false = not-member marks (mark s) r in
      let bad : false ≡ true = sym f ∙ g in
      cc
    where
      by : (w : List ℕ) → w ≡ s → member (mark w) marks ≡ true → member (mark s) marks ≡ true
      by w p q = rw p at q

-- the mark from what was read
pub mark-is : (s : List ℕ) (x y k : ℕ) → x ≡ get_or s 0 0 → y ≡ get_or s 1 0 → (x + x + y + length s % 64) % 64 ≡ k → mark s ≡ k
unfolding mark
mark-is s x y k e f h = rw (← e, ← f) h

-- what one comparison says, where a text can only be key k
module _ (s : List ℕ) (k : ℕ) (only : (key_number s ≡ 0 → ⊥) → k ≡ key_number s) where
  either : (t : Bool) → eqb (key_number s) 0 ≡ t → (n : ℕ) → (key_number s ≡ 0 → n ≡ 0) → ((key_number s ≡ 0 → ⊥) → n ≡ key_number s) → n ≡ key_number s
  either true e n f g = let z : key_number s ≡ 0 = eqb-true (key_number s) 0 e in f z ∙ sym z
  either false e n f g = g (eqb-false (key_number s) 0 e)

  pub other : k ≤ 19 → same s (get_or fixed k []) ≡ false → 0 ≡ key_number s
  other h e = either (eqb (key_number s) 0) refl 0 (λ z. refl) (λ some. differs some)
    where
      differs : (key_number s ≡ 0 → ⊥) → 0 ≡ key_number s
      differs some =
          let q : get_or fixed k [] ≡ s = key k (omega arith) ∙ ap key_name (only some) ∙ key-is s some in
          let bad : false ≡ true = sym e ∙ ap (same s) q ∙ same_refl s in
          cc

pub present : (s : List ℕ) (k : ℕ) → k ≤ 19 → same s (get_or fixed k []) ≡ true → k ≡ key_number s
present s zero h e =
    let q : s ≡ [] = same_true s (get_or fixed 0 []) e ∙ no-name-zero in
    sym (ap key_number q ∙ no-empty)
present s (suc k) h e =
    let q : s ≡ key_name (suc k) = same_true s (get_or fixed (suc k) []) e ∙ key (suc k) (omega arith) in
    let o : key_number (key_name (suc k)) ≡ suc k = rw add-one at (key-own k (omega arith)) in
    sym (ap key_number q ∙ o)
