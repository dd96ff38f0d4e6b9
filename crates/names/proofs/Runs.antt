-- The words of a key are a run of the names: which of them a text is, and where each stands.
-- Assumes nothing.
use Prim.Native.Nat.{ℕ, suc, ◌+◌, ◌-◌, ◌≤◌, ◌<◌}
use mathlib.Core.Path.{◌≡◌, refl, sym, ap, ◌∙◌}
use mathlib.Core.Bool.{Bool, true, false}
use mathlib.Core.List.{List, [], ◌∷◌}
use native.Mathlib.Omega.{arith}
use native.Mathlib.Numerals.{add-one}
use lib.ListN.{length, take, drop, get_or, get_or-eq_default, length-drop, length-take, drop_of_length-le}
use lib.Seq.{get_or-take, get_or-drop, drop-cons}
use Rattle.byte.specs.Byte.{pick}
use Rattle.byte.specs.Same.{same}
use Rattle.name_table.specs.Names.{fixed}
use Rattle.name_table.specs.Find.{among, number_in}
use Rattle.name_table.proofs.Rows.{no-name-zero}

fixed-long : length fixed ≡ 35
unfolding fixed
fixed-long = refl

module _ (first n : ℕ) (ws : List (List ℕ)) (room : first + n ≤ 35) (words : take n (drop first fixed) ≡ ws) where
  counted : length ws ≡ n
  counted = ap length (sym words) ∙ omega (arith, length-take n (drop first fixed), length-drop first fixed, fixed-long)

  -- word k, counted from 0
  pub entry : (k : ℕ) → k < n → get_or fixed (first + k) [] ≡ get_or ws k []
  entry k h = sym (get_or-drop first fixed k []) ∙ sym (get_or-take n (drop first fixed) k [] h) ∙ ap (λ (l : List (List ℕ)). get_or l k []) words

  -- a word counted from 1, and one that the key has not
  pub word : (w : ℕ) → (w ≡ 0 → ⊥) → w ≤ n → get_or fixed (first + (w - 1)) [] ≡ get_or ([] ∷ ws) w []
  word w p h =
      let e : suc (w - 1) ≡ w = omega (arith, p) in
      entry (w - 1) (omega (arith, p)) ∙ ap (λ (m : ℕ). get_or ([] ∷ ws) m []) e

  pub no_word : (w : ℕ) → n < w → get_or fixed 0 [] ≡ get_or ([] ∷ ws) w []
  no_word w h = no-name-zero ∙ sym (get_or-eq_default ([] ∷ ws) [] {n = w} (omega (arith, counted)))

  -- the tests of the words in turn
  module _ (s : List ℕ) where
    pub from_first : number_in ws s ≡ among (0 + 1) (drop 0 ws) s
    unfolding number_in
    from_first = refl

    turn : (k : ℕ) → k < n → (t : Bool) → t ≡ same s (get_or fixed (first + k) []) → among (k + 1) (drop k ws) s ≡ pick t (k + 1) (among (k + 1 + 1) (drop (k + 1) ws) s)
    unfolding among
    turn k h t e =
        let d : drop k ws ≡ get_or ws k [] ∷ drop (suc k) ws = drop-cons ws k [] (omega (arith, counted)) in
        rw (d, e, entry k h, add-one)

    pub found : (k : ℕ) → k < n → true ≡ same s (get_or fixed (first + k) []) → among (k + 1) (drop k ws) s ≡ k + 1
    found k h e = turn k h true e

    pub passed : (k : ℕ) → k < n → false ≡ same s (get_or fixed (first + k) []) → among (k + 1) (drop k ws) s ≡ among (k + 1 + 1) (drop (k + 1) ws) s
    passed k h e = turn k h false e

    pub spent : (k : ℕ) → n ≤ k → among (k + 1) (drop k ws) s ≡ 0
    unfolding among
    spent k h = let z : length ws ≤ k = omega (arith, counted) in rw (drop_of_length-le ws z)
