-- Texts of which every byte stands as it is, found by the greatest mark.
-- Assumes nothing.
use Prim.Native.Nat.{ℕ, suc, max, ◌+◌, ◌<◌, ◌≤◌}
use mathlib.Core.Path.{◌≡◌, refl, sym, ◌∙◌}
use mathlib.Core.Bool.{Bool, true, false, ◌&&◌}
use mathlib.Core.List.{List}
use native.Mathlib.Omega.{arith}
use native.Mathlib.Numerals.{add-one}
use lib.Dec.{eqb}
use lib.ListN.{length, get_or, drop, drop_of_length-le}
use lib.Seq.{drop-cons}
use borrow.Author.Tests.{ne_eqb}
use Rattle.byte.specs.Byte.{pick}
use Rattle.byte.proofs.Laws.{and-false}
use Rattle.escape.specs.Escape.{plain, all_plain}

-- a byte's mark
module _ (b : ℕ) where
  pub mark-plain : plain b ≡ true → ◌≡◌ {A = ℕ} 0 (pick (plain b) 0 1)
  mark-plain e = rw e

  pub mark-other : plain b ≡ false → ◌≡◌ {A = ℕ} 1 (pick (plain b) 0 1)
  mark-other e = rw e

and-end : (a : Bool) → a && true ≡ a
and-end true = refl
and-end false = refl

-- the greatest of two marks is 0 where both are
greatest-mark : (most n : ℕ) (t : Bool) → n ≡ max most (pick t 0 1) → eqb n 0 ≡ eqb most 0 && t
greatest-mark most n true e = let k : n ≡ most = omega (arith, e) in rw k (sym (and-end (eqb most 0)))
greatest-mark most n false e = rw (ne_eqb n 0 (λ q. absurd (omega (arith, q, e)))) (sym (and-false (eqb most 0)))

and_last : (a b c : Bool) → a && (b && c) ≡ (a && b) && c
and_last true b c = refl
and_last false b c = refl

-- the loop: all bytes stand as they are where those so far do, and those from the place i on
module _ (x : List ℕ) (most i : ℕ) (so_far : all_plain x ≡ eqb most 0 && all_plain (drop i x)) where
  pub plain_more : i < length x → (m n : ℕ) → m ≡ pick (plain (get_or x i 0)) 0 1 → n ≡ max most m → all_plain x ≡ eqb n 0 && all_plain (drop (i + 1) x)
  unfolding all_plain
  plain_more h m n e f =
      so_far ∙ rw (add-one, drop-cons x i 0 h, greatest-mark most n (plain (get_or x i 0)) (rw e at f)) (and_last (eqb most 0) (plain (get_or x i 0)) (all_plain (drop (suc i) x)))

  pub plain_done : length x ≤ i → eqb most 0 ≡ all_plain x
  unfolding all_plain
  plain_done h = sym (so_far ∙ rw (drop_of_length-le x h) (and-end (eqb most 0)))
