-- The names by their places: a run of them, the keys, the words of each key. Each rule is one computed test.
-- Assumes nothing.
use Prim.Native.Nat.{ℕ, ◌≤◌, ◌<◌}
use mathlib.Core.Path.{◌≡◌, refl}
use mathlib.Core.Bool.{Bool, true, false, ◌||◌}
use mathlib.Core.List.{List, [], ◌∷◌}
use native.Mathlib.Omega.{arith}
use lib.Dec.{leb, eqb}
use lib.ListN.{length, get_or, get_or-eq_default}
use borrow.Author.Tests.{leb-true, leb-false, eqb-true}
use Rattle.byte.specs.Same.{same}
use Rattle.byte.proofs.Same.{same_true}
use Rattle.byte.proofs.Table.{holds_at}
use Rattle.name_table.proofs.Arms.{Not, member, not-member}
use Rattle.name_table.specs.Names.{fixed, key_names, key_name, word_lists, words_of}

-- behind the last name there is none
pub beyond : (k : ℕ) → 35 ≤ k → get_or fixed k [] ≡ []
unfolding fixed
beyond k h = get_or-eq_default fixed [] h

is_key : ℕ → Bool
is_key k = same (get_or fixed k []) (key_name k)

module _ (k : ℕ) (h : k < 20) where
  pub key : get_or fixed k [] ≡ key_name k
  unfolding is_key same fixed key_name
  key = same_true _ _ (holds_at 20 is_key refl k h)

-- a number that is no key's
pub no_key : (k : ℕ) → 20 ≤ k → key_name k ≡ []
unfolding key_name
no_key k h = get_or-eq_default ([] ∷ key_names) [] h

pub no_words : (k : ℕ) → 20 ≤ k → words_of k ≡ []
unfolding words_of
no_words k h = get_or-eq_default word_lists [] h

pub no-name-zero : get_or fixed 0 [] ≡ []
unfolding fixed
no-name-zero = refl

-- the keys that take a word, the last one first: no other has any
abbrev pub wordy : List ℕ
wordy = 19 ∷ 18 ∷ 17 ∷ 7 ∷ 6 ∷ []

silent : ℕ → Bool
silent k = member k wordy || eqb (length (words_of k)) 0

empty : {A : Type 0} (ws : List A) → length ws ≡ 0 → ws ≡ []
empty [] e = refl
empty (w ∷ ws) e = absurd (omega arith)

pub wordless : (k : ℕ) → Not wordy k → words_of k ≡ []
unfolding silent words_of
wordless k r = by (leb 20 k) refl
  where
    by : (t : Bool) → leb 20 k ≡ t → words_of k ≡ []
    by true e = no_words k (leb-true 20 k e)
    by false e =
        let h : silent k ≡ true = holds_at 20 silent refl k (leb-false 20 k e) in
        let l : eqb (length (words_of k)) 0 ≡ true = rw (not-member wordy k r) at h in
        empty (words_of k) (eqb-true (length (words_of k)) 0 l)

-- the arms of the table, the last one first: no other number has a name
abbrev pub named : List ℕ
named = 34 ∷ 33 ∷ 32 ∷ 27 ∷ 26 ∷ 25 ∷ 24 ∷ 23 ∷ 30 ∷ 22 ∷ 29 ∷ 21 ∷ 31 ∷ 28 ∷ 20 ∷ 19 ∷ 18 ∷ 17 ∷ 16 ∷ 15 ∷ 14 ∷ 13 ∷ 12 ∷ 11 ∷ 10 ∷ 9 ∷ 8 ∷ 7 ∷ 6 ∷ 5 ∷ 4 ∷ 3 ∷ 2 ∷ 1 ∷ []

bare : ℕ → Bool
bare k = member k named || eqb (length (get_or fixed k [])) 0

pub nameless : (i : ℕ) → Not named i → get_or fixed i [] ≡ []
unfolding bare fixed
nameless i r = by (leb 35 i) refl
  where
    by : (t : Bool) → leb 35 i ≡ t → get_or fixed i [] ≡ []
    by true e = beyond i (leb-true 35 i e)
    by false e =
        let h : bare i ≡ true = holds_at 35 bare refl i (leb-false 35 i e) in
        let l : eqb (length (get_or fixed i [])) 0 ≡ true = rw (not-member named i r) at h in
        empty (get_or fixed i []) (eqb-true (length (get_or fixed i [])) 0 l)
