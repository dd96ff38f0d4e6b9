-- Laws of places: the text from a place on, its parts, and the first byte in it that passes a test.
-- Assumes nothing.
use Prim.Native.Nat.{ℕ, zero, suc, ◌+◌, ◌≤◌, ◌<◌, ◌-◌}
use mathlib.Core.Path.{◌≡◌, refl, ap, sym, ◌∙◌}
use mathlib.Core.Bool.{Bool, true, false, cond}
use mathlib.Core.List.{List, [], ◌∷◌}
use native.Mathlib.Omega.{arith}
use native.Mathlib.Numerals.{add-one}
use native.Mathlib.Nat.{add-zero, sub-zero, zero-sub, suc-sub-suc}
use lib.ListN.{length, take, drop, get_or, drop_of_length-le, length-drop}
use lib.Dec.{eqb, ltb}
use lib.Seq.{drop-cons, drop-drop, get_or-drop, take-nil, take-take}
use borrow.Author.Tests.{ltb-true, ltb-false}
use Rattle.std.specs.List.{position_or_len}
use Rattle.std.proofs.lemmas.List.Recursion.{is_position_or_len}
use Rattle.byte.specs.Byte.{pick, part_of}
use Rattle.byte.proofs.Parts.{part-is}
use Rattle.split.specs.Split.{first_at}
use Rattle.url_parser.specs.Uri.{first_of}
use Rattle.url_parser.specs.Step.{skipped}

module _ (at : ℕ) (s : List ℕ) where
  pub front-byte : get_or (drop at s) 0 0 ≡ get_or s at 0
  front-byte = get_or-drop at s 0 0 ∙ ap (λ (n : ℕ). get_or s n 0) (add-zero at)

  -- a part in terms of the text from the place on
  pub part-front : (k : ℕ) → part_of at (at + k) s ≡ take k (drop at s)
  part-front k = let e : at + k - at ≡ k = omega arith in part-is at (at + k) s ∙ ap (λ (n : ℕ). take n (drop at s)) e

  pub part-shift : (a b : ℕ) → part_of (at + a) (at + b) s ≡ part_of a b (drop at s)
  part-shift a b =
      let e : at + b - (at + a) ≡ b - a = omega arith in
      part-is (at + a) (at + b) s ∙ ap (λ (n : ℕ). take n (drop (at + a) s)) e ∙ ap (λ (l : List ℕ). take (b - a) l) (sym (drop-drop a at s)) ∙ sym (part-is a b (drop at s))

module _ (f : ℕ → Bool) where
  -- the first byte from a place on that passes: here, further on, or nowhere
  module _ (s : List ℕ) (i : ℕ) where
    pub of-here : i < length s → f (get_or s i 0) ≡ true → first_of f (drop i s) ≡ 0
    unfolding first_of
    of-here h e = rw (drop-cons s i 0 h, e)

    pub of-on : i < length s → f (get_or s i 0) ≡ false → first_of f (drop i s) ≡ suc (first_of f (drop (i + 1) s))
    unfolding first_of
    of-on h e = rw (add-one, drop-cons s i 0 h, e)

    pub of_end : length s ≤ i → first_of f (drop i s) ≡ 0
    unfolding first_of
    of_end h = rw (drop_of_length-le s h)

  pub of-most : (s : List ℕ) → first_of f s ≤ length s
  unfolding first_of
  of-most [] = omega arith
  of-most (a ∷ s) = by (f a) (of-most s)
    where
      by : (t : Bool) → first_of f s ≤ length s → pick t 0 (suc (first_of f s)) ≤ suc (length s)
      by true h = omega arith
      by false h = omega arith

-- a text cut at the end and then at the front
pub drop-take : (k e : ℕ) (t : List ℕ) → drop k (take e t) ≡ take (e - k) (drop k t)
drop-take zero e t = rw (sub-zero e)
drop-take (suc k) zero t = rw (zero-sub (suc k))
drop-take (suc k) (suc e) [] = sym (take-nil (suc e - suc k))
drop-take (suc k) (suc e) (a ∷ t) = drop-take k e t ∙ ap (λ (n : ℕ). take n (drop k t)) (sym (suc-sub-suc e k))

-- a part of the front of a text
pub part-take : (a b e : ℕ) (t : List ℕ) → b ≤ e → part_of a b (take e t) ≡ part_of a b t
part-take a b e t h =
    part-is a b (take e t) ∙ ap (take (b - a)) (drop-take a e t) ∙ take-take (b - a) (e - a) (drop a t) (omega arith) ∙ sym (part-is a b t)

pub part-start : (k : ℕ) (t : List ℕ) → part_of 0 k t ≡ take k t
part-start k t = part-is 0 k t ∙ ap (λ (n : ℕ). take n t) (sub-zero k)

-- behind a byte, or at the end: the same is left
pub drop-skipped : (at : ℕ) (s : List ℕ) → drop (skipped at (drop at s)) s ≡ drop (at + 1) s
unfolding skipped
drop-skipped at s = by (ltb 0 (length (drop at s))) refl
  where
    by : (t : Bool) → ltb 0 (length (drop at s)) ≡ t → drop (pick t (at + 1) at) s ≡ drop (at + 1) s
    by true e = refl
    by false e =
        let h : length s ≤ at = omega (arith, ltb-false 0 (length (drop at s)) e, length-drop at s) in
        drop_of_length-le s h ∙ sym (drop_of_length-le s {i = at + 1} (omega arith))

pub skip-from : (at : ℕ) (s : List ℕ) → at ≤ skipped at (drop at s)
unfolding skipped
skip-from at s = by (ltb 0 (length (drop at s)))
  where
    by : (t : Bool) → at ≤ pick t (at + 1) at
    by true = omega arith
    by false = omega arith

pub skip-within : (at : ℕ) (s : List ℕ) → at ≤ length s → skipped at (drop at s) ≤ length s
unfolding skipped
skip-within at s h = by (ltb 0 (length (drop at s))) refl
  where
    by : (t : Bool) → ltb 0 (length (drop at s)) ≡ t → pick t (at + 1) at ≤ length s
    by true e = omega (arith, ltb-true 0 (length (drop at s)) e, length-drop at s)
    by false e = h

-- where the first byte that passes stands in what is left before it
pub of-drop : (f : ℕ → Bool) (k : ℕ) (t : List ℕ) → k ≤ first_of f t → first_of f (drop k t) ≡ first_of f t - k
unfolding first_of
of-drop f zero t h = sym (sub-zero (first_of f t))
of-drop f (suc k) [] h = absurd (omega arith)
of-drop f (suc k) (a ∷ t) h = by (f a) h (of-drop f k t)
  where
    by : (b : Bool) → suc k ≤ pick b 0 (suc (first_of f t)) → (k ≤ first_of f t → first_of f (drop k t) ≡ first_of f t - k)
        → first_of f (drop k t) ≡ pick b 0 (suc (first_of f t)) - suc k
    by true l r = absurd (omega arith)
    by false l r = r (omega arith) ∙ sym (suc-sub-suc (first_of f t) k)

-- the first byte b is the first that is equal to it
pub first-of : (b : ℕ) (t : List ℕ) → first_at b t ≡ first_of (λ (a : ℕ). eqb a b) t
unfolding first_at first_of
first-of b [] = refl
first-of b (a ∷ t) = rw (first-of b t)

pub first-drop : (b k : ℕ) (t : List ℕ) → k ≤ first_at b t → first_at b (drop k t) ≡ first_at b t - k
first-drop b k t h =
    let q : k ≤ first_of (λ (a : ℕ). eqb a b) t = omega (arith, first-of b t) in
    first-of b (drop k t) ∙ of-drop (λ (a : ℕ). eqb a b) k t q ∙ ap (λ (n : ℕ). n - k) (sym (first-of b t))

-- the first byte that passes is the library's
pub of-position : (f : ℕ → Bool) (s : List ℕ) → first_of f s ≡ position_or_len f s
unfolding first_of
of-position f s = is_position_or_len (first_of f) f refl (λ x xs. by (f x) (first_of f xs)) s
  where
    by : (t : Bool) (n : ℕ) → pick t 0 (suc n) ≡ cond t 0 (1 + n)
    by true n = refl
    by false n = omega arith
