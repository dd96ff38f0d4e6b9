-- Laws of percent decoding: those that a scan goes by, and what a caller may know of a decoded text.
-- Assumes nothing.
use mathlib.Core.Path.{◌≡◌, refl, sym, ap, ◌∙◌}
use mathlib.Core.Bool.{Bool, true, false, ◌&&◌}
use mathlib.Core.List.{List, [], ◌∷◌}
use mathlib.Core.Logic.{◌↔◌}
use Prim.Native.Nat.{ℕ, zero, suc, ◌+◌, ◌-◌, ◌*◌, ◌<◌, ◌≤◌, zero-le, suc-le-suc}
use native.Mathlib.Omega.{arith}
use native.Mathlib.Nat.{add-zero}
use lib.Dec.{eqb}
use lib.ListN.{length, take, drop, get_or, drop_of_length-le, length-drop, get_or-eq_default}
use lib.Seq.{drop-cons, drop-drop, get_or-drop, take_all}
use borrow.Author.Tests.{eq-eqb, ne_eqb, lt-ltb, le-ltb}
use Rattle.byte.specs.Byte.{pick, between}
use Rattle.byte.specs.Digit.{digit_of}
use Rattle.byte.proofs.Laws.{past, and_right, and-false}
use Rattle.percent.specs.declared.Piece.{Piece}
use Rattle.percent.specs.Percent.{piece_of, piece_at, decoded_from, decoded, is_hex}

-- a byte that stands for itself
abbrev pub itself : ℕ → Piece
itself b = record { byte = b; skip = 0 }

-- a read past the end gives no hex digit
no_digit : digit_of 0 ≡ 16
unfolding digit_of between
no_digit = refl

-- what stands at a place, by what the code finds out in turn
module _ (s : List ℕ) (at : ℕ) where
  -- a byte that is no `%`
  pub other : (get_or s at 0 ≡ 37 → ⊥) → piece_at s at ≡ itself (get_or s at 0)
  unfolding piece_at piece_of
  other h = rw (ne_eqb (get_or s at 0) 37 h)

  module _ (percent : get_or s at 0 ≡ 37) where
    -- a `%` without two hex digits behind it
    pub no-high : 16 ≤ digit_of (get_or s (at + 1) 0) → piece_at s at ≡ itself (get_or s at 0)
    unfolding piece_at piece_of
    no-high h = rw (eq-eqb (get_or s at 0) 37 percent, le-ltb (digit_of (get_or s (at + 1) 0)) 16 h)

    pub no-low : 16 ≤ digit_of (get_or s (at + 2) 0) → piece_at s at ≡ itself (get_or s at 0)
    unfolding piece_at piece_of
    no-low h = rw (eq-eqb (get_or s at 0) 37 percent, le-ltb (digit_of (get_or s (at + 2) 0)) 16 h, and-false)

    pub cut_off : length s ≤ at + 2 → piece_at s at ≡ itself (get_or s at 0)
    cut_off h = no-low (rw (get_or-eq_default s 0 h, no_digit) (omega arith))

    -- a `%` with two
    pub coded : digit_of (get_or s (at + 1) 0) < 16 → digit_of (get_or s (at + 2) 0) < 16
        → piece_at s at ≡ record { byte = digit_of (get_or s (at + 1) 0) * 16 + digit_of (get_or s (at + 2) 0); skip = 2 }
    unfolding piece_at piece_of
    coded h l = rw (eq-eqb (get_or s at 0) 37 percent, lt-ltb (digit_of (get_or s (at + 1) 0)) 16 h, lt-ltb (digit_of (get_or s (at + 2) 0)) 16 l)

-- a piece takes at most two bytes besides its first
pub small : (s : List ℕ) (at : ℕ) → (piece_at s at).skip ≤ 2
unfolding piece_at piece_of
small s at = by (eqb (get_or s at 0) 37 && is_hex (get_or s (at + 1) 0) && is_hex (get_or s (at + 2) 0)) _ _ (omega arith) (omega arith)
  where
    by : (t : Bool) (p q : Piece) → p.skip ≤ 2 → q.skip ≤ 2 → (pick t p q).skip ≤ 2
    by true p q a b = a
    by false p q a b = b

-- and stands within the text
pub fits-piece : (s : List ℕ) (i : ℕ) → i < length s → i + 1 + (piece_at s i).skip ≤ length s
unfolding piece_at piece_of digit_of between
fits-piece s i h = by (eqb (get_or s i 0) 37 && is_hex (get_or s (i + 1) 0) && is_hex (get_or s (i + 2) 0)) refl
  where
    by : (t : Bool) → eqb (get_or s i 0) 37 && is_hex (get_or s (i + 1) 0) && is_hex (get_or s (i + 2) 0) ≡ t
        → i + 1 + (pick t (record { byte = digit_of (get_or s (i + 1) 0) * 16 + digit_of (get_or s (i + 2) 0); skip = 2 }) (itself (get_or s i 0))).skip ≤ length s
    by true e = omega (arith, past is_hex refl s (i + 2) (and_right (eqb (get_or s i 0) 37 && is_hex (get_or s (i + 1) 0)) _ e))
    by false e = omega arith

-- a piece at a place of the text from a place on
pub piece-drop : (s : List ℕ) (i : ℕ) → piece_at (drop i s) 0 ≡ piece_at s i
unfolding piece_at
piece-drop s i =
    let a : i + 0 ≡ i = omega arith in
    simp (get_or-drop, a)

-- to leave bytes out is to decode what is left
pub skip : (k : ℕ) (s : List ℕ) → decoded_from k s ≡ decoded (drop k s)
unfolding decoded_from decoded
skip zero [] = refl
skip zero (a ∷ s) = refl
skip (suc k) [] = refl
skip (suc k) (a ∷ s) = skip k s

-- the text decoded from a place on: the piece there, and what follows it decoded
begins : (l : List ℕ) (a : ℕ) (t : List ℕ) → l ≡ a ∷ t → decoded l ≡ (piece_at l 0).byte ∷ decoded (drop (piece_at l 0).skip t)
unfolding decoded_from decoded
begins l a t e = rw e (ap (λ (x : List ℕ). (piece_at (a ∷ t) 0).byte ∷ x) (skip (piece_at (a ∷ t) 0).skip t))

pub step : (s : List ℕ) (i : ℕ) → i < length s → decoded (drop i s) ≡ (piece_at s i).byte ∷ decoded (drop (i + 1 + (piece_at s i).skip) s)
step s i h =
    let k : ℕ = (piece_at s i).skip in
    let e : suc i + k ≡ i + 1 + k = omega arith in
    begins (drop i s) (get_or s i 0) (drop (suc i) s) (drop-cons s i 0 h)
    ∙ ap (λ (p : Piece). p.byte ∷ decoded (drop p.skip (drop (suc i) s))) (piece-drop s i)
    ∙ ap (λ (l : List ℕ). (piece_at s i).byte ∷ decoded l) (drop-drop k (suc i) s ∙ ap (λ (n : ℕ). drop n s) e)

-- nothing behind the end
pub stop : (s : List ℕ) (i : ℕ) → length s ≤ i → decoded (drop i s) ≡ []
unfolding decoded_from decoded
stop s i h = rw (drop_of_length-le s h)

shorter-from : (k : ℕ) (s : List ℕ) → length (decoded_from k s) ≤ length s
unfolding decoded_from
shorter-from k [] = zero-le
shorter-from zero (a ∷ s) = suc-le-suc (shorter-from (piece_at (a ∷ s) 0).skip s)
shorter-from (suc k) (a ∷ s) = omega (arith, shorter-from k s)

-- a decoded text is never longer than the text
pub shorter : (s : List ℕ) → length (decoded s) ≤ length s
unfolding decoded
shorter s = shorter-from 0 s

-- its first byte is that of the piece at the start, also where there is none
pub head : (s : List ℕ) → get_or (decoded s) 0 0 ≡ (piece_at s 0).byte
unfolding decoded decoded_from piece_at piece_of
head [] = refl
head (a ∷ s) = refl

-- a decoded text is empty exactly where the text is
pub empty : (s : List ℕ) → (decoded s ≡ []) ↔ (s ≡ [])
unfolding decoded decoded_from
empty [] = ((λ e. refl), (λ e. refl))
empty (a ∷ s) = ((λ e. cc), (λ e. cc))

-- a text without `%` is decoded already
pub plain : (s : List ℕ) → ((i : ℕ) → get_or s i 0 ≡ 37 → ⊥) → decoded s ≡ s
unfolding decoded decoded_from
plain [] h = refl
plain (a ∷ s) h = rw (other (a ∷ s) 0 (h 0)) (ap (λ (l : List ℕ). a ∷ l) (plain s (λ i. h (suc i))))

-- a scan that counts the pieces: a turn counts one, and at the end all are counted
module _ (s : List ℕ) (i n : ℕ) (so_far : length (decoded s) ≡ n + length (decoded (drop i s))) where
  pub counted : i < length s → length (decoded s) ≡ n + 1 + length (decoded (drop (i + 1 + (piece_at s i).skip) s))
  counted h = omega (arith, ap length (step s i h))

  pub count_fits : i < length s → n < length s
  count_fits h = omega (arith, ap length (step s i h), shorter s)

  pub count-done : length s ≤ i → n ≡ length (decoded s)
  count-done h = omega (arith, ap length (stop s i h))

-- a byte that is no `%` stands for itself at its place
pub plain_step : (s : List ℕ) (i : ℕ) → i < length s → (get_or s i 0 ≡ 37 → ⊥) → decoded (drop i s) ≡ get_or s i 0 ∷ decoded (drop (i + 1) s)
plain_step s i h n =
    step s i h
    ∙ ap (λ (p : Piece). p.byte ∷ decoded (drop (i + 1 + p.skip) s)) (other s i n)
    ∙ ap (λ (k : ℕ). get_or s i 0 ∷ decoded (drop k s)) (add-zero (i + 1))

-- the text from a place on, as a slice has it
pub slice-from : (s : List ℕ) (i : ℕ) → take (length s - i) (drop i s) ≡ drop i s
slice-from s i = take_all (length s - i) (drop i s) (omega (arith, length-drop i s))

-- the piece in front and what is left behind it, as the code cuts it off
module _ (s : List ℕ) (h : 0 < length s) (p : Piece) (is : p ≡ piece_at s 0) where
  pub front-piece : decoded s ≡ p.byte ∷ decoded (take (length s - (1 + p.skip)) (drop (1 + p.skip) s))
  front-piece = rw is (step s 0 h ∙ ap (λ (l : List ℕ). (piece_at s 0).byte ∷ decoded l) (sym (slice-from s (1 + (piece_at s 0).skip))))

  pub front-fits : 1 + p.skip ≤ length s
  front-fits = rw is (fits-piece s 0 h)
