-- Laws of the rules for white space and keys, told from a place of the text.
-- Assumes nothing.
use mathlib.Core.Path.{◌≡◌, refl, sym, ap, ◌∙◌}
use mathlib.Core.Bool.{Bool, true, false, ◌||◌, ◌&&◌, not}
use mathlib.Core.List.{List, [], ◌∷◌}
use Prim.Native.Nat.{ℕ, suc, ◌+◌, ◌*◌, ◌%◌, ◌<◌, ◌≤◌, zero-le}
use native.Mathlib.Omega.{arith}
use native.Mathlib.Nat.{add-zero}
use lib.Dec.{leb, ltb, eqb}
use lib.ListN.{length, drop, get_or, length-drop}
use lib.Seq.{drop-cons, get_or-drop}
use borrow.Author.Tests.{lt-leb, le-ltb, leb-true, leb-false, ltb-true, not-true, eq-eqb, ne_eqb, eqb-true, eqb-false}
use Rattle.byte.specs.Byte.{pick, between}
use Rattle.byte.proofs.Laws.{past, and_left, between_in, in_between, below-between, above-between}
use Rattle.byte.proofs.Table.{every, holds_at}
use Rattle.utf8.specs.Utf8.{char, none, tail, second, least, greatest, two, three, four, longer, char_of, char_at}
use Rattle.utf8.specs.declared.Char.{Char}
use Rattle.utf8.proofs.Laws.{inside, ascii, front}
use Rattle.space.specs.Space.{is_space, within, spaces}
use Rattle.space.proofs.Marks.{blank, nul, middle, highest}
use Rattle.scan.specs.Scan.{end_of, solid, starts_space, space_len, ends_key, key_len}
use Rattle.scan.proofs.Runs.{end-stop, end_more}

-- white space lies within the text
space-bounded : (s : List ℕ) → space_len s ≤ length s
unfolding space_len
space-bounded s = by (starts_space s)
  where
    by : (t : Bool) → pick t (char_at s).len 0 ≤ length s
    by true = inside s
    by false = zero-le

-- white space of n bytes at a place: the scan goes on behind it
pub record Skip (s : List ℕ) (i n : ℕ) : Type 0 where
  pub within : i + n ≤ length s
  pub same : end_of space_len s i ≡ end_of space_len s (i + n)

pub space-more : (s : List ℕ) (i n : ℕ) → n ≡ space_len (drop i s) → (n ≡ 0 → ⊥) → Skip s i n
space-more s i n e p =
    let h : n ≤ length (drop i s) = rw e (space-bounded (drop i s)) in
    let l : i + n ≤ length s = omega (arith, h, length-drop i s, p) in
    record { within = l; same = end_more space_len s i n (sym e) (omega (arith, p)) l }

visible : ℕ → Bool
visible c = leb c 32 || not (is_space c)

all-visible : every 128 visible ≡ true
unfolding visible is_space within spaces between
all-visible = refl

-- no visible ASCII character is white space
pub no-space : (c : ℕ) → 32 < c → c < 128 → is_space c ≡ false
unfolding visible
no-space c l h = not-true (is_space c) (rw (lt-leb c 32 l) at (holds_at 128 visible all-visible c h))

-- nor does any begin with a solid byte: neither with one that begins no character, nor with one whose characters lie between the marked ones
data Solid (a : ℕ) : Type 0 where
  low : 33 ≤ a → a ≤ 0xc1 → Solid a
  middling : 0xc3 ≤ a → a ≤ 0xe0 → Solid a
  high : 0xe4 ≤ a → Solid a

solid-is : (a : ℕ) → solid a ≡ true → Solid a
unfolding solid
solid-is a e = by (between 33 0xc1 a) (between 0xc3 0xe0 a) refl refl e
  where
    by : (p q : Bool) → between 33 0xc1 a ≡ p → between 0xc3 0xe0 a ≡ q → p || (q || leb 0xe4 a) ≡ true → Solid a
    by true q f g e = let i = between_in 33 0xc1 a f in low i.low i.high
    by false true f g e = let i = between_in 0xc3 0xe0 a g in middling i.low i.high
    by false false f g e = high (leb-true 0xe4 a e)

module _ (a b c d : ℕ) where
  two-apart : 0xc3 ≤ a → a ≤ 0xdf → is_space (two a b).code ≡ false
  unfolding two
  two-apart l h = by (tail b)
    where
      by : (t : Bool) → is_space (pick t (char (a % 32 * 64 + b % 64) 2) none).code ≡ false
      by true = middle (a % 32 * 64 + b % 64) (omega arith) (omega arith)
      by false = nul

  three-apart : 0xe4 ≤ a → a ≤ 0xef → is_space (three a b c).code ≡ false
  unfolding three
  three-apart l h = by (second a b && tail c)
    where
      by : (t : Bool) → is_space (pick t (char (a % 16 * 4096 + b % 64 * 64 + c % 64) 3) none).code ≡ false
      by true = highest (a % 16 * 4096 + b % 64 * 64 + c % 64) (omega arith)
      by false = nul

  three-first : a ≡ 0xe0 → is_space (three a b c).code ≡ false
  unfolding three least greatest
  three-first e = rw e (by (second 0xe0 b && tail c) refl)
    where
      by : (t : Bool) → between 0xa0 0xbf b && tail c ≡ t → is_space (pick t (char (0xe0 % 16 * 4096 + b % 64 * 64 + c % 64) 3) none).code ≡ false
      by true f =
          let i = between_in 0xa0 0xbf b (and_left _ _ f) in
          middle (0xe0 % 16 * 4096 + b % 64 * 64 + c % 64) (omega (arith, i.low, i.high)) (omega (arith, i.low, i.high))
      by false f = nul

  four-apart : 0xf1 ≤ a → a ≤ 0xf4 → is_space (four a b c d).code ≡ false
  unfolding four
  four-apart l h = by (second a b && (tail c && tail d))
    where
      by : (t : Bool) → is_space (pick t (char (a % 8 * 262144 + b % 64 * 4096 + c % 64 * 64 + d % 64) 4) none).code ≡ false
      by true = highest (a % 8 * 262144 + b % 64 * 4096 + c % 64 * 64 + d % 64) (omega arith)
      by false = nul

  four-first : a ≡ 0xf0 → is_space (four a b c d).code ≡ false
  unfolding four least greatest
  four-first e = rw e (by (second 0xf0 b && (tail c && tail d)) refl)
    where
      by : (t : Bool) → between 0x90 0xbf b && (tail c && tail d) ≡ t → is_space (pick t (char (0xf0 % 8 * 262144 + b % 64 * 4096 + c % 64 * 64 + d % 64) 4) none).code ≡ false
      by true f =
          let i = between_in 0x90 0xbf b (and_left _ _ f) in
          highest (0xf0 % 8 * 262144 + b % 64 * 4096 + c % 64 * 64 + d % 64) (omega (arith, i.low, i.high))
      by false f = nul

  longer-low : a ≤ 0xc1 → is_space (longer a b c d).code ≡ false
  unfolding longer
  longer-low h = rw (below-between 0xc2 0xdf a (omega arith), below-between 0xe0 0xef a (omega arith), below-between 0xf0 0xf4 a (omega arith)) nul

  longer-middle : 0xc3 ≤ a → a ≤ 0xe0 → is_space (longer a b c d).code ≡ false
  unfolding longer
  longer-middle l h = by (eqb a 0xe0) refl
    where
      by : (t : Bool) → eqb a 0xe0 ≡ t → is_space (longer a b c d).code ≡ false
      by true e =
          let n : a ≡ 0xe0 = eqb-true a 0xe0 e in
          rw (above-between 0xc2 0xdf a (omega arith), in_between 0xe0 0xef a (omega arith) (omega arith)) (three-first n)
      by false e =
          let n : a ≡ 0xe0 → ⊥ = eqb-false a 0xe0 e in
          rw (in_between 0xc2 0xdf a (omega arith) (omega arith)) (two-apart l (omega arith))

  longer-high : 0xe4 ≤ a → is_space (longer a b c d).code ≡ false
  unfolding longer
  longer-high l = rw (above-between 0xc2 0xdf a (omega arith)) (by (leb a 0xef) refl)
    where
      last : (t : Bool) → leb a 0xf4 ≡ t → 0xf1 ≤ a → is_space (pick (between 0xf0 0xf4 a) (four a b c d) none).code ≡ false
      last true e h = rw (in_between 0xf0 0xf4 a (omega arith) (leb-true a 0xf4 e)) (four-apart h (leb-true a 0xf4 e))
      last false e h = rw (above-between 0xf0 0xf4 a (leb-false a 0xf4 e)) nul

      more : (t : Bool) → eqb a 0xf0 ≡ t → 0xef < a → is_space (pick (between 0xf0 0xf4 a) (four a b c d) none).code ≡ false
      more true e h = let n : a ≡ 0xf0 = eqb-true a 0xf0 e in rw (in_between 0xf0 0xf4 a (omega arith) (omega arith)) (four-first n)
      more false e h = let n : a ≡ 0xf0 → ⊥ = eqb-false a 0xf0 e in last (leb a 0xf4) refl (omega arith)

      by : (t : Bool) → leb a 0xef ≡ t → is_space (pick (between 0xe0 0xef a) (three a b c) (pick (between 0xf0 0xf4 a) (four a b c d) none)).code ≡ false
      by true e = rw (in_between 0xe0 0xef a (omega arith) (leb-true a 0xef e)) (three-apart l (leb-true a 0xef e))
      by false e = rw (above-between 0xe0 0xef a (leb-false a 0xef e)) (more (eqb a 0xf0) refl (leb-false a 0xef e))

  apart : Solid a → is_space (char_of a b c d).code ≡ false
  unfolding char_of
  apart (low l h) = by (ltb a 0x80) refl
    where
      by : (t : Bool) → ltb a 0x80 ≡ t → is_space (pick t (char a 1) (longer a b c d)).code ≡ false
      by true e = no-space a (omega arith) (ltb-true a 0x80 e)
      by false e = longer-low h
  apart (middling l h) = rw (le-ltb a 0x80 (omega arith)) (longer-middle l h)
  apart (high l) = rw (le-ltb a 0x80 (omega arith)) (longer-high l)

solid-none : solid 0 ≡ false
unfolding solid between
solid-none = refl

pub glance : (s : List ℕ) (at : ℕ) → solid (get_or s at 0) ≡ true → starts_space (drop at s) ≡ false
unfolding starts_space
glance s at e =
    let within : at < length s = past solid solid-none s at e in
    ap (λ (c : Char). is_space c.code) (front s at within) ∙ apart (get_or s at 0) (get_or s (at + 1) 0) (get_or s (at + 2) 0) (get_or s (at + 3) 0) (solid-is (get_or s at 0) e)

-- white space at a place: a blank, none with a solid byte, or as the character that is read there says
pub blank-starts : (s : List ℕ) (at : ℕ) → get_or s at 0 ≡ 32 → starts_space (drop at s) ≡ true
unfolding starts_space
blank-starts s at e =
    let within : at < length s = past (λ (b : ℕ). eqb b 32) refl s at (eq-eqb (get_or s at 0) 32 e) in
    ap (λ (c : Char). is_space c.code) (ascii s at within (omega arith)) ∙ ap is_space e ∙ blank

pub blank-len : (s : List ℕ) (at : ℕ) → get_or s at 0 ≡ 32 → space_len (drop at s) ≡ 1
unfolding space_len starts_space
blank-len s at e =
    let within : at < length s = past (λ (b : ℕ). eqb b 32) refl s at (eq-eqb (get_or s at 0) 32 e) in
    let q : char_at (drop at s) ≡ char 32 1 = ascii s at within (omega arith) ∙ ap (λ (n : ℕ). char n 1) e in
    rw (q, blank)

pub solid-len : (s : List ℕ) (at : ℕ) → solid (get_or s at 0) ≡ true → space_len (drop at s) ≡ 0
unfolding space_len
solid-len s at e = rw (glance s at e)

pub read-len : (s : List ℕ) (at : ℕ) (x : Char) (t : Bool) → x ≡ char_at (drop at s) → t ≡ is_space x.code → pick t x.len 0 ≡ space_len (drop at s)
unfolding space_len starts_space
read-len s at x t e f = rw (f, e)

or-true : (t : Bool) → t || true ≡ true
or-true true = refl
or-true false = refl

or-false : (t : Bool) → t || false ≡ t
or-false true = refl
or-false false = refl

-- a key ends at a place, or goes on behind the byte there
key-none : (t : List ℕ) → ends_key t ≡ true → key_len t ≡ 0
unfolding key_len
key-none [] e = refl
key-none (a ∷ t) e = rw e

key_one : (a : ℕ) (t : List ℕ) → ends_key (a ∷ t) ≡ false → key_len (a ∷ t) ≡ 1
unfolding key_len
key_one a t e = rw e

module _ (s : List ℕ) (i : ℕ) where
  pub key-stop : ends_key (drop i s) ≡ true → end_of key_len s i ≡ i
  key-stop e = end-stop key_len s i (key-none (drop i s) e)

  pub key_more : i < length s → ends_key (drop i s) ≡ false → end_of key_len s i ≡ end_of key_len s (i + 1)
  key_more h e =
      let d : drop i s ≡ get_or s i 0 ∷ drop (suc i) s = drop-cons s i 0 h in
      end_more key_len s i 1 (ap key_len d ∙ key_one (get_or s i 0) (drop (suc i) s) (rw d at e)) (omega arith) (omega arith)

  -- the test for `=`
  pub at_sign : (b : ℕ) → b ≡ get_or s i 0 → starts_space (drop i s) ≡ false → eqb b 61 ≡ ends_key (drop i s)
  unfolding ends_key
  at_sign b e n = rw (n, get_or-drop i s 0 0, add-zero i, e)

  -- where `=` stands a key ends, and elsewhere white space decides
  pub sign-ends : get_or s i 0 ≡ 61 → ends_key (drop i s) ≡ true
  unfolding ends_key
  sign-ends e = rw (get_or-drop i s 0 0, add-zero i, e) (or-true (starts_space (drop i s)))

  pub sign-not : (get_or s i 0 ≡ 61 → ⊥) → starts_space (drop i s) ≡ ends_key (drop i s)
  unfolding ends_key
  sign-not n = rw (get_or-drop i s 0 0, add-zero i, ne_eqb (get_or s i 0) 61 n) (sym (or-false (starts_space (drop i s))))

  -- a byte above `=` that is solid ends no key
  pub key-glance : between 62 0xc1 (get_or s i 0) ≡ true → ends_key (drop i s) ≡ false
  unfolding solid
  key-glance e =
      let b = between_in 62 0xc1 (get_or s i 0) e in
      let n : starts_space (drop i s) ≡ false = glance s i (rw (in_between 33 0xc1 (get_or s i 0) (omega (arith, b.low)) b.high)) in
      sym (at_sign (get_or s i 0) refl n) ∙ ne_eqb (get_or s i 0) 61 (λ q. omega (arith, b.low))
