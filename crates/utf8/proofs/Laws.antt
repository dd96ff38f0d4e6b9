-- Laws of characters and of well formed texts.
-- Assumes nothing.
use mathlib.Core.Path.{◌≡◌, refl, sym, ap, ◌∙◌}
use mathlib.Core.Bool.{Bool, true, false, ◌&&◌}
use mathlib.Core.List.{List, [], ◌∷◌}
use Prim.Native.Nat.{ℕ, zero, suc, ◌+◌, ◌-◌, ◌*◌, ◌%◌, ◌<◌, ◌≤◌, zero-le}
use native.Mathlib.Omega.{arith}
use lib.Dec.{ltb}
use lib.ListN.{length, take, drop, get_or, length-drop, drop_of_length-le}
use lib.Seq.{drop-cons, drop-drop, get_or-drop}
use borrow.Author.Tests.{lt-ltb, le-ltb, ltb-true}
use Rattle.byte.specs.Byte.{pick, between}
use Rattle.byte.proofs.Laws.{past, and_left, and_right}
use Rattle.utf8.specs.declared.Char.{Char}
use Rattle.utf8.specs.Utf8.{char, none, tail, second, two, three, four, longer, char_of, char_at, well_from, well_formed}

-- behind k bytes
pub skip : (k : ℕ) (s : List ℕ) → well_from k s ≡ well_formed (drop k s)
unfolding well_from
skip zero [] = refl
skip zero (a ∷ s) = refl
skip (suc k) [] = refl
skip (suc k) (a ∷ s) = skip k s

bad-cons : (a : ℕ) (s : List ℕ) → (char_at (a ∷ s)).len ≡ 0 → well_formed (a ∷ s) ≡ false
unfolding well_from
bad-cons a s e = rw e

good-cons : (a : ℕ) (s : List ℕ) (n : ℕ) → (char_at (a ∷ s)).len ≡ n → 0 < n → well_formed (a ∷ s) ≡ well_formed (drop (n - 1) s)
unfolding well_from
good-cons a s n e h = rw (e, lt-ltb 0 n h, skip (n - 1) s)

some-cons : (a : ℕ) (s : List ℕ) → well_formed (a ∷ s) ≡ true → 0 < (char_at (a ∷ s)).len
unfolding well_from
some-cons a s e = ltb-true 0 _ (and_left _ _ e)

-- at the end: a text is well formed behind its last byte
pub end : (s : List ℕ) (at : ℕ) → length s ≤ at → well_formed (drop at s) ≡ true
unfolding well_from
end s at h = rw (drop_of_length-le s h)

-- no character at the end
pub char-end : (s : List ℕ) (at : ℕ) → length s ≤ at → char_at (drop at s) ≡ none
unfolding char_at
char-end s at h = rw (drop_of_length-le s h)

module _ (s : List ℕ) (at : ℕ) (h : at < length s) where
  -- no character at a place: the text is not well formed from there
  pub bad : (char_at (drop at s)).len ≡ 0 → well_formed (drop at s) ≡ false
  bad e = rw (drop-cons s at 0) (bad-cons (get_or s at 0) (drop (suc at) s) (rw (drop-cons s at 0) at e))

  -- a character at a place: as the text is behind it
  pub good : (n : ℕ) → (char_at (drop at s)).len ≡ n → 0 < n → well_formed (drop at s) ≡ well_formed (drop (at + n) s)
  good n e p =
      let q : suc at + (n - 1) ≡ at + n = omega arith in
      rw (drop-cons s at 0) (good-cons (get_or s at 0) (drop (suc at) s) n (rw (drop-cons s at 0) at e) p
      ∙ ap well_formed (drop-drop (n - 1) (suc at) s ∙ ap (λ (k : ℕ). drop k s) q))

  -- a well formed text has a character at each place that it is well formed from
  pub some : well_formed (drop at s) ≡ true → 0 < (char_at (drop at s)).len
  some e = rw (drop-cons s at 0) (some-cons (get_or s at 0) (drop (suc at) s) (rw (drop-cons s at 0) at e))

  -- the character by the four bytes from the place
  pub front : char_at (drop at s) ≡ char_of (get_or s at 0) (get_or s (at + 1) 0) (get_or s (at + 2) 0) (get_or s (at + 3) 0)
  unfolding char_at
  front =
      let a : suc at + 0 ≡ at + 1 = omega arith in
      let b : suc at + 1 ≡ at + 2 = omega arith in
      let c : suc at + 2 ≡ at + 3 = omega arith in
      rw (drop-cons s at 0) (simp (get_or-drop, a, b, c))

  -- an ASCII byte is a character
  pub ascii : get_or s at 0 < 0x80 → char_at (drop at s) ≡ char (get_or s at 0) 1
  unfolding char_of
  ascii p = front ∙ rw (lt-ltb _ _ p)

  -- any other byte begins a longer one, or none
  pub beyond : 0x80 ≤ get_or s at 0 → char_at (drop at s) ≡ longer (get_or s at 0) (get_or s (at + 1) 0) (get_or s (at + 2) 0) (get_or s (at + 3) 0)
  unfolding char_of
  beyond p = front ∙ rw (le-ltb _ _ p)

  -- one of two bytes, by its first byte
  pub pair : 0x80 ≤ get_or s at 0 → between 0xc2 0xdf (get_or s at 0) ≡ true → char_at (drop at s) ≡ two (get_or s at 0) (get_or s (at + 1) 0)
  unfolding longer
  pair p e = beyond p ∙ rw e

  -- how long it is, by its second byte
  pub pair-len : (t : Bool) → 0x80 ≤ get_or s at 0 → between 0xc2 0xdf (get_or s at 0) ≡ true → t ≡ tail (get_or s (at + 1) 0) → pick t 2 0 ≡ (char_at (drop at s)).len
  unfolding two
  pair-len t p e f = rw f (by (tail (get_or s (at + 1) 0)) (char (get_or s at 0 % 32 * 64 + get_or s (at + 1) 0 % 64) 2) refl ∙ ap (λ (x : Char). x.len) (sym (pair p e)))
    where
      by : (u : Bool) (x : Char) → x.len ≡ 2 → pick u 2 0 ≡ (pick u x none).len
      by true x g = sym g
      by false x g = refl

pick-len : (t : Bool) (p q : Char) (n : ℕ) → (t ≡ true → p.len ≤ n) → q.len ≤ n → (pick t p q).len ≤ n
pick-len true p q n f g = f refl
pick-len false p q n f g = g

len_of : (a b c d n : ℕ) → 1 ≤ n → (tail b ≡ true → 2 ≤ n) → (tail c ≡ true → 3 ≤ n) → (tail d ≡ true → 4 ≤ n) → (char_of a b c d).len ≤ n
unfolding char_of longer two three four
len_of a b c d n h1 h2 h3 h4 =
    pick-len (ltb a 0x80) _ _ n (λ _. h1)
    (pick-len (between 0xc2 0xdf a) _ _ n (λ _. pick-len (tail b) _ _ n h2 zero-le)
    (pick-len (between 0xe0 0xef a) _ _ n (λ _. pick-len (second a b && tail c) _ _ n (λ e. h3 (and_right (second a b) _ e)) zero-le)
    (pick-len (between 0xf0 0xf4 a) _ _ n (λ _. pick-len (second a b && (tail c && tail d)) _ _ n (λ e. h4 (and_right (tail c) _ (and_right (second a b) _ e))) zero-le) zero-le)))

-- a character lies within the text
pub inside : (s : List ℕ) → (char_at s).len ≤ length s
unfolding char_at between
inside [] = omega arith
inside (a ∷ s) =
    len_of a (get_or s 0 0) (get_or s 1 0) (get_or s 2 0) (suc (length s)) (omega arith)
    (λ e. omega (arith, past tail refl s 0 e))
    (λ e. omega (arith, past tail refl s 1 e))
    (λ e. omega (arith, past tail refl s 2 e))

pub inside-at : (s : List ℕ) (at : ℕ) → at ≤ length s → at + (char_at (drop at s)).len ≤ length s
inside-at s at h = omega (arith, inside (drop at s), length-drop at s)

-- the bytes that a text has in front, by total reads
pub take-one : (s : List ℕ) → 1 ≤ length s → take 1 s ≡ get_or s 0 0 ∷ []
take-one [] h = absurd (omega arith)
take-one (b ∷ s) h = refl

pub take-two : (s : List ℕ) → 2 ≤ length s → take 2 s ≡ get_or s 0 0 ∷ get_or s 1 0 ∷ []
take-two [] h = absurd (omega arith)
take-two (b ∷ s) h = rw (take-one s (omega arith))

pub take-three : (s : List ℕ) → 3 ≤ length s → take 3 s ≡ get_or s 0 0 ∷ get_or s 1 0 ∷ get_or s 2 0 ∷ []
take-three [] h = absurd (omega arith)
take-three (b ∷ s) h = rw (take-two s (omega arith))
