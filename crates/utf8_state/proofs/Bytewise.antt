-- Laws of the state that goes byte by byte: it judges as the definition of a well formed text does.
-- Assumes nothing.
use mathlib.Core.Path.{◌≡◌, refl, sym, ap, ◌∙◌}
use mathlib.Core.Bool.{Bool, true, false, ◌&&◌}
use mathlib.Core.List.{List, [], ◌∷◌, ◌++◌}
use Prim.Native.Nat.{ℕ, zero, suc, ◌+◌, ◌-◌, ◌*◌, ◌%◌, ◌<◌}
use native.Mathlib.Omega.{arith}
use lib.Dec.{ltb, eqb}
use lib.ListN.{get_or, drop}
use lib.Seq.{drop-drop, get_or-drop}
use borrow.Author.Tests.{lt-ltb, ne_eqb}
use Rattle.byte.specs.Byte.{pick, between}
use Rattle.byte.proofs.Laws.{below-between, above-between}
use Rattle.utf8.specs.declared.Char.{Char}
use Rattle.utf8_state.specs.declared.State.{State}
use Rattle.utf8.specs.Utf8.{char, none, tail, second, least, greatest, two, three, four, longer, char_of, char_at, well_from, well_formed}
use Rattle.utf8_tail.proofs.Laws.{least-tail}
use Rattle.utf8_state.specs.Bytewise.{state, start_state, broken, first_state, next_state, whole_state, state_after}

-- how the state goes on
pub after_none : (t : State) → state_after t [] ≡ t
unfolding state_after
after_none t = refl

pub after_more : (t : State) (b : ℕ) (s : List ℕ) → state_after t (b ∷ s) ≡ state_after (next_state t b) s
unfolding state_after
after_more t b s = refl

pub after-append : (t : State) (s u : List ℕ) → state_after t (s ++ u) ≡ state_after (state_after t s) u
unfolding state_after
after-append t [] u = refl
after-append t (b ∷ s) u = after-append (next_state t b) s u

pub after_last : (t : State) (s : List ℕ) (b : ℕ) → state_after t (s ++ (b ∷ [])) ≡ next_state (state_after t s) b
unfolding state_after
after_last t s b = after-append t s (b ∷ [])

-- whether what follows a state ends it in whole characters
abbrev ends : State → List ℕ → Bool
ends t s = whole_state (state_after t s)

-- no byte lies between 1 and 0, so the broken state stays broken
nothing-between : (b : ℕ) → between 1 0 b ≡ false
nothing-between zero = below-between 1 0 0 (omega arith)
nothing-between (suc b) = above-between 1 0 (suc b) (omega arith)

broken-next : (b : ℕ) → next_state broken b ≡ broken
unfolding next_state
broken-next b = rw (nothing-between b)

broken-ends : (s : List ℕ) → ends broken s ≡ false
unfolding state_after whole_state
broken-ends [] = refl
broken-ends (b ∷ s) = ap (λ (t : State). ends t s) (broken-next b) ∙ broken-ends s

-- where bytes are lacking, the next one decides; past the end there is none
lack-next : (n lo hi b : ℕ) → next_state (state (suc n) lo hi) b ≡ pick (between lo hi b) (state n 0x80 0xbf) broken
unfolding next_state
lack-next n lo hi b =
    let less : suc n - 1 ≡ n = omega arith in
    rw (ne_eqb (suc n) 0 (λ e. omega arith), less)

lacks : (n lo hi : ℕ) → 0 < lo → (s : List ℕ) → ends (state (suc n) lo hi) s ≡ between lo hi (get_or s 0 0) && ends (state n 0x80 0xbf) (drop 1 s)
unfolding state_after whole_state
lacks n lo hi h [] = rw (below-between lo hi 0 h) (ne_eqb (suc n) 0 (λ e. omega arith))
lacks n lo hi h (b ∷ s) = ap (λ (t : State). ends t s) (lack-next n lo hi b) ∙ by (between lo hi b)
  where
    by : (q : Bool) → ends (pick q (state n 0x80 0xbf) broken) s ≡ q && ends (state n 0x80 0xbf) s
    by true = refl
    by false = broken-ends s

-- what the definition of a well formed text asks of the character at the front, and of what follows its first byte
abbrev asked : Char → List ℕ → Bool
asked c s = ltb 0 c.len && ends start_state (drop (c.len - 1) s)

module _ (a : ℕ) (s : List ℕ) where
  ends-two : ends (state 1 0x80 0xbf) s ≡ asked (two a (get_or s 0 0)) s
  unfolding two
  ends-two = lacks 0 0x80 0xbf (omega arith) s ∙ by (tail (get_or s 0 0))
    where
      by : (q : Bool) → q && ends start_state (drop 1 s) ≡ asked (pick q (char (a % 32 * 64 + get_or s 0 0 % 64) 2) none) s
      by true = refl
      by false = refl

  ends-three : ends (state 2 (least a) (greatest a)) s ≡ asked (three a (get_or s 0 0) (get_or s 1 0)) s
  unfolding three
  ends-three = lacks 1 (least a) (greatest a) (omega (arith, least-tail a)) s ∙ rw (lacks 0 0x80 0xbf (omega arith) (drop 1 s), get_or-drop, drop-drop) (by (second a (get_or s 0 0)) (tail (get_or s 1 0)))
    where
      by : (q r : Bool) → q && (r && ends start_state (drop 2 s)) ≡ asked (pick (q && r) (char (a % 16 * 4096 + get_or s 0 0 % 64 * 64 + get_or s 1 0 % 64) 3) none) s
      by true true = refl
      by true false = refl
      by false r = refl

  ends-four : ends (state 3 (least a) (greatest a)) s ≡ asked (four a (get_or s 0 0) (get_or s 1 0) (get_or s 2 0)) s
  unfolding four
  ends-four = lacks 2 (least a) (greatest a) (omega (arith, least-tail a)) s
      ∙ rw (lacks 1 0x80 0xbf (omega arith) (drop 1 s), lacks 0 0x80 0xbf (omega arith) (drop 1 (drop 1 s))) (simp (get_or-drop, drop-drop) (by (second a (get_or s 0 0)) (tail (get_or s 1 0)) (tail (get_or s 2 0))))
    where
      by : (q r t : Bool) → q && (r && (t && ends start_state (drop 3 s))) ≡ asked (pick (q && (r && t)) (char (a % 8 * 262144 + get_or s 0 0 % 64 * 4096 + get_or s 1 0 % 64 * 64 + get_or s 2 0 % 64) 4) none) s
      by true true true = refl
      by true true false = refl
      by true false t = refl
      by false r t = refl

  ends-first : ends start_state (a ∷ s) ≡ asked (char_at (a ∷ s)) s
  unfolding state_after next_state first_state char_at char_of longer
  ends-first = by (ltb a 0x80) (between 0xc2 0xdf a) (between 0xe0 0xef a) (between 0xf0 0xf4 a)
    where
      by : (p q r t : Bool) →
          ends (pick p start_state (pick q (state 1 0x80 0xbf) (pick r (state 2 (least a) (greatest a)) (pick t (state 3 (least a) (greatest a)) broken)))) s
          ≡ asked (pick p (char a 1) (pick q (two a (get_or s 0 0)) (pick r (three a (get_or s 0 0) (get_or s 1 0)) (pick t (four a (get_or s 0 0) (get_or s 1 0) (get_or s 2 0)) none)))) s
      by true q r t = refl
      by false true r t = ends-two
      by false false true t = ends-three
      by false false false true = ends-four
      by false false false false = broken-ends s

-- behind any number of bytes
whole_from : (k : ℕ) (s : List ℕ) → well_from k s ≡ ends start_state (drop k s)
unfolding well_from state_after whole_state
whole_from zero [] = refl
whole_from (suc k) [] = refl
whole_from (suc k) (a ∷ s) = whole_from k s
whole_from zero (a ∷ s) = ap (λ (b : Bool). ltb 0 (char_at (a ∷ s)).len && b) (whole_from ((char_at (a ∷ s)).len - 1) s) ∙ sym (ends-first a s)

-- a text is well formed exactly when the state is whole after its bytes
pub whole-after : (s : List ℕ) → well_formed s ≡ whole_state (state_after start_state s)
whole-after s = whole_from 0 s

-- where a character is whole, the next byte begins another
whole-next : (t : State) (b : ℕ) → whole_state t ≡ true → next_state t b ≡ first_state b
unfolding whole_state next_state
whole-next t b e = rw e

whole-ends : (t : State) (u : List ℕ) → whole_state t ≡ true → ends t u ≡ ends start_state u
unfolding state_after whole_state
whole-ends t [] e = e
whole-ends t (b ∷ u) e = ap (λ (x : State). ends x u) (whole-next t b e ∙ sym (whole-next start_state b refl))

-- what follows a well formed text is judged by itself
pub append-well : (s u : List ℕ) → well_formed s ≡ true → well_formed (s ++ u) ≡ well_formed u
append-well s u e =
    whole-after (s ++ u) ∙ ap whole_state (after-append start_state s u)
    ∙ whole-ends (state_after start_state s) u (sym (whole-after s) ∙ e) ∙ sym (whole-after u)

-- no ASCII byte goes on with a character
abbrev Lacking : State → Type 0
Lacking t = (a : ℕ) → a < 0x80 → between t.lo t.hi a ≡ false

module _ (a : ℕ) where
  first-lacking : Lacking (first_state a)
  unfolding first_state
  first-lacking = by (ltb a 0x80) (between 0xc2 0xdf a) (between 0xe0 0xef a) (between 0xf0 0xf4 a)
    where
      by : (p q r t : Bool) → Lacking (pick p start_state (pick q (state 1 0x80 0xbf) (pick r (state 2 (least a) (greatest a)) (pick t (state 3 (least a) (greatest a)) broken))))
      by true q r t b h = below-between 0x80 0xbf b h
      by false true r t b h = below-between 0x80 0xbf b h
      by false false true t b h = below-between (least a) (greatest a) b (omega (arith, least-tail a))
      by false false false true b h = below-between (least a) (greatest a) b (omega (arith, least-tail a))
      by false false false false b h = nothing-between b

  next-lacking : (t : State) → Lacking (next_state t a)
  unfolding next_state
  next-lacking t = by (eqb t.left 0) (between t.lo t.hi a)
    where
      by : (p q : Bool) → Lacking (pick p (first_state a) (pick q (state (t.left - 1) 0x80 0xbf) broken))
      by true q b h = first-lacking b h
      by false true b h = below-between 0x80 0xbf b h
      by false false b h = nothing-between b

after-lacking : (s : List ℕ) (t : State) → Lacking t → Lacking (state_after t s)
unfolding state_after
after-lacking [] t l = l
after-lacking (b ∷ s) t l = after-lacking s (next_state t b) (next-lacking b t)

ascii-next : (a : ℕ) → a < 0x80 → (t : State) → Lacking t → next_state t a ≡ pick (whole_state t) start_state broken
unfolding next_state first_state whole_state
ascii-next a h t l = rw (lt-ltb a 0x80 h, l a h)

ascii-ends : (a : ℕ) (u : List ℕ) → a < 0x80 → (t : State) → Lacking t → ends t (a ∷ u) ≡ whole_state t && ends start_state u
unfolding state_after
ascii-ends a u h t l = ap (λ (x : State). ends x u) (ascii-next a h t l) ∙ by (whole_state t)
  where
    by : (p : Bool) → ends (pick p start_state broken) u ≡ p && ends start_state u
    by true = refl
    by false = broken-ends u

-- a text that is cut at an ASCII byte is well formed exactly when both parts are
pub cut-well : (s : List ℕ) (a : ℕ) (u : List ℕ) → a < 0x80 → well_formed (s ++ (a ∷ u)) ≡ well_formed s && well_formed u
cut-well s a u h =
    whole-after (s ++ (a ∷ u)) ∙ ap whole_state (after-append start_state s (a ∷ u))
    ∙ ascii-ends a u h (state_after start_state s) (after-lacking s start_state (λ b l. below-between 0x80 0xbf b l))
    ∙ rw (whole-after s, whole-after u)
