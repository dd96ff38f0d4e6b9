-- Laws of runs of plain bytes: they stand for themselves, each a character of UTF-8, so that a scan may pass over them.
-- Assumes nothing.
use mathlib.Core.Path.{◌≡◌, refl, ap, sym, ◌∙◌}
use mathlib.Core.Bool.{Bool, true, false, ◌||◌, cond}
use mathlib.Core.List.{List, [], ◌∷◌}
use Prim.Native.Nat.{ℕ, zero, suc, ◌+◌, ◌-◌, ◌<◌, ◌≤◌}
use native.Mathlib.Omega.{arith}
use native.Mathlib.Numerals.{add-one}
use native.Mathlib.Nat.{zero-add, add-zero}
use lib.Dec.{eqb, leb}
use lib.ListN.{length, take, drop, get_or, drop_of_length-le}
use lib.Seq.{drop-cons, drop-drop}
use borrow.Author.Tests.{eqb-true, eqb-false, leb-false, lt-leb, ne_eqb}
use Rattle.std.specs.List.{position_or_len}
use Rattle.std.proofs.lemmas.List.Recursion.{is_position_or_len}
use Rattle.byte.specs.Byte.{pick, part_of}
use Rattle.byte.proofs.Parts.{part-is, part-short}
use Rattle.split.specs.Split.{first_at}
use Rattle.split.proofs.Split.{first-end}
use Rattle.utf8.specs.Utf8.{well_formed, well_from}
use Rattle.utf8_state.proofs.Bytewise.{cut-well}
use Rattle.percent_check.specs.declared.Checked.{Checked}
use Rattle.percent.specs.Percent.{piece_at, decoded}
use Rattle.percent_check.specs.Plain.{checked, ends_plain, plain_until, checked_on, checked_until}
use Rattle.percent.proofs.Laws.{step, stop}
use Rattle.percent.proofs.Rules.{other-stays}

-- an ASCII byte in front leaves it open whether a text is UTF-8
pub ascii-front : (a : ℕ) (u : List ℕ) → a < 128 → well_formed (a ∷ u) ≡ well_formed u
unfolding well_from
ascii-front a u h = cut-well [] a u h

-- a scan that counts on while the pieces are ASCII: a turn, and the end
module _ (n : ℕ) (s : List ℕ) (i : ℕ) where
  pub on-more : i < length s → (piece_at s i).byte < 128 → checked_on n i s ≡ checked_on (n + 1) (i + 1 + (piece_at s i).skip) s
  on-more h a =
      let u : List ℕ = decoded (drop (i + 1 + (piece_at s i).skip) s) in
      let l : n + suc (length u) ≡ n + 1 + length u = omega arith in
      rw (step s i h, ascii-front (piece_at s i).byte u a, l)

  pub on-end : length s ≤ i → record { len = n; utf8 = true } ≡ checked_on n i s
  unfolding well_from
  on-end h = rw (stop s i h, add-zero n)

module _ (b : ℕ) where
  -- a run from a place on: it ends here, goes on, or ends with the text
  module _ (s : List ℕ) (i : ℕ) where
    pub run-here : i < length s → ends_plain b (get_or s i 0) ≡ true → plain_until b (drop i s) ≡ 0
    unfolding plain_until
    run-here h e = rw (drop-cons s i 0 h, e)

    pub run_on : i < length s → ends_plain b (get_or s i 0) ≡ false → plain_until b (drop i s) ≡ suc (plain_until b (drop (i + 1) s))
    unfolding plain_until
    run_on h e = rw (add-one, drop-cons s i 0 h, e)

    pub run_end : length s ≤ i → plain_until b (drop i s) ≡ 0
    unfolding plain_until
    run_end h = rw (drop_of_length-le s h)

    -- whether the first b stands at the place: nothing is left, or the byte there decides
    pub stop-end : length s ≤ i → true ≡ eqb (first_at b (drop i s)) 0
    stop-end h = rw (first-end b s i h)

    pub stop-byte : i < length s → eqb (get_or s i 0) b ≡ eqb (first_at b (drop i s)) 0
    unfolding first_at
    stop-byte h = rw (drop-cons s i 0 h) (by (eqb (get_or s i 0) b))
      where
        by : (t : Bool) → t ≡ eqb (pick t 0 (suc (first_at b (drop (suc i) s)))) 0
        by true = refl
        by false =
            let n : suc (first_at b (drop (suc i) s)) ≡ 0 → ⊥ = λ (z : suc (first_at b (drop (suc i) s)) ≡ 0). absurd (omega arith) in
            sym (ne_eqb (suc (first_at b (drop (suc i) s))) 0 n)

  -- what a byte of the run is not
  pub record Plain (a : ℕ) : Type 0 where
    pub other : a ≡ b → ⊥
    pub no-percent : a ≡ 37 → ⊥
    pub ascii : a < 128

  true-false : true ≡ false → ⊥
  true-false e = let z : ◌≡◌ {A = ℕ} 0 1 = cc in omega arith

  plain_byte : (a : ℕ) → ends_plain b a ≡ false → Plain a
  unfolding ends_plain
  plain_byte a = by (eqb a b) refl (eqb a 37) refl (leb 128 a) refl
    where
      by : (x : Bool) → eqb a b ≡ x → (y : Bool) → eqb a 37 ≡ y → (z : Bool) → leb 128 a ≡ z → x || y || z ≡ false → Plain a
      by true p y q z r e = absurd (true-false e)
      by false p true q z r e = absurd (true-false e)
      by false p false q true r e = absurd (true-false e)
      by false p false q false r e = record { other = eqb-false a b p; no-percent = eqb-false a 37 q; ascii = leb-false 128 a r }

  pub run_more : (a : ℕ) (s : List ℕ) → (a ≡ b → ⊥) → (a ≡ 37 → ⊥) → a < 128 → plain_until b (a ∷ s) ≡ suc (plain_until b s)
  unfolding plain_until ends_plain
  run_more a s p q h = rw (ne_eqb a b p, ne_eqb a 37 q, lt-leb 128 a h)

  -- a run is passed over: what the scan has counted, where the text is decoded from there on, and where the first b stands
  run_length : (s : List ℕ) → length (decoded s) ≡ plain_until b s + length (decoded (drop (plain_until b s) s))
  unfolding plain_until
  run_length [] = sym (zero-add _)
  run_length (a ∷ s) = by (ends_plain b a) refl (run_length s)
    where
      by : (t : Bool) → ends_plain b a ≡ t → length (decoded s) ≡ plain_until b s + length (decoded (drop (plain_until b s) s))
          → length (decoded (a ∷ s)) ≡ pick t 0 (suc (plain_until b s)) + length (decoded (drop (pick t 0 (suc (plain_until b s))) (a ∷ s)))
      by true e h = sym (zero-add _)
      by false e h = omega (arith, ap length (other-stays a s (plain_byte a e).no-percent))

  run-utf8 : (s : List ℕ) → well_formed (decoded s) ≡ well_formed (decoded (drop (plain_until b s) s))
  unfolding plain_until
  run-utf8 [] = refl
  run-utf8 (a ∷ s) = by (ends_plain b a) refl (run-utf8 s)
    where
      by : (t : Bool) → ends_plain b a ≡ t → well_formed (decoded s) ≡ well_formed (decoded (drop (plain_until b s) s))
          → well_formed (decoded (a ∷ s)) ≡ well_formed (decoded (drop (pick t 0 (suc (plain_until b s))) (a ∷ s)))
      by true e h = refl
      by false e h = ap well_formed (other-stays a s (plain_byte a e).no-percent) ∙ ascii-front a (decoded s) (plain_byte a e).ascii ∙ h

  pub run-checked : (s : List ℕ) → checked_on (plain_until b s) (plain_until b s) s ≡ checked s
  run-checked s = sym (rw (run_length s, run-utf8 s))

  run-first : (s : List ℕ) → first_at b s ≡ plain_until b s + first_at b (drop (plain_until b s) s)
  unfolding plain_until first_at
  run-first [] = refl
  run-first (a ∷ s) = by (ends_plain b a) refl (run-first s)
    where
      by : (t : Bool) → ends_plain b a ≡ t → first_at b s ≡ plain_until b s + first_at b (drop (plain_until b s) s)
          → first_at b (a ∷ s) ≡ pick t 0 (suc (plain_until b s)) + first_at b (drop (pick t 0 (suc (plain_until b s))) (a ∷ s))
      by true e h = sym (zero-add _)
      by false e h = rw (ne_eqb a b (plain_byte a e).other) (omega arith)

  -- it is the same in the front of the text, where that is no shorter
  run-front : (s : List ℕ) (e : ℕ) → plain_until b s ≤ e → plain_until b (take e s) ≡ plain_until b s
  unfolding plain_until
  run-front [] zero h = refl
  run-front [] (suc e) h = refl
  run-front (a ∷ s) zero h = omega arith
  run-front (a ∷ s) (suc e) h = by (ends_plain b a) h (run-front s e)
    where
      by : (t : Bool) → pick t 0 (suc (plain_until b s)) ≤ suc e → (plain_until b s ≤ e → plain_until b (take e s) ≡ plain_until b s)
          → pick t 0 (suc (plain_until b (take e s))) ≡ pick t 0 (suc (plain_until b s))
      by true l h = refl
      by false l h = ap suc (h (omega arith))

  front-checked : (s : List ℕ) (e : ℕ) → plain_until b s ≤ e → checked_on (plain_until b s) (plain_until b s) (take e s) ≡ checked (take e s)
  front-checked s e h = rw (run-front s e h) at (run-checked (take e s))

  -- a part up to the first b, whose plain bytes end at a place: it ends there too, or is read on from there
  module _ (at : ℕ) (s : List ℕ) (plain : ℕ) (p : plain ≡ at + plain_until b (drop at s)) where
    abbrev n : ℕ
    n = plain_until b (drop at s)

    behind : first_at b (drop at s) ≡ n + first_at b (drop plain s)
    behind = run-first (drop at s) ∙ ap (λ (l : List ℕ). n + first_at b l) (drop-drop n at s ∙ ap (λ (i : ℕ). drop i s) (sym p))

    pub until-more : (end : ℕ) → end ≡ plain + first_at b (drop plain s) → (v : List ℕ) → v ≡ part_of at end s → (c : Checked) → c ≡ checked_on (plain - at) (plain - at) v
        → record { end = end; judged = c } ≡ checked_until b at s
    until-more end e v w c h =
        let q : end ≡ at + first_at b (drop at s) = omega (arith, behind) in
        let m : plain - at ≡ n = omega arith in
        let k : n ≤ end - at = omega arith in
        let x : v ≡ take (end - at) (drop at s) = w ∙ part-is at end s in
        let j : c ≡ checked v = h ∙ rw (m, x) (front-checked (drop at s) (end - at) k) in
        rw (j, w, q)

    pub until-plain : eqb (first_at b (drop plain s)) 0 ≡ true → record { end = plain; judged = record { len = plain - at; utf8 = true } } ≡ checked_until b at s
    until-plain e =
        let v : List ℕ = part_of at plain s in
        let z : first_at b (drop plain s) ≡ 0 = eqb-true _ _ e in
        let q : plain ≡ plain + first_at b (drop plain s) = omega arith in
        let l : length v ≤ plain - at = part-short at plain s in
        until-more plain q v refl _ (on-end (plain - at) v (plain - at) l)

-- a text that is plain from its start up to a place
module _ (s : List ℕ) (plain : ℕ) (p : plain ≡ 0 + plain_until 37 (drop 0 s)) where
  pub whole-more : checked_on plain plain s ≡ checked s
  whole-more = rw (p, zero-add (plain_until 37 s)) (run-checked 37 s)

  pub whole_plain : length s ≤ plain → record { len = plain; utf8 = true } ≡ checked s
  whole_plain h = on-end plain s plain h ∙ whole-more

-- a run ends at the library's first byte that ends it, and within the text
pub run-position : (b : ℕ) (s : List ℕ) → plain_until b s ≡ position_or_len (ends_plain b) s
unfolding plain_until
run-position b s = is_position_or_len (plain_until b) (ends_plain b) refl (λ x xs. by (ends_plain b x) (plain_until b xs)) s
  where
    by : (t : Bool) (n : ℕ) → pick t 0 (suc n) ≡ cond t 0 (1 + n)
    by true n = refl
    by false n = omega arith

pub run-most : (b : ℕ) (s : List ℕ) → plain_until b s ≤ length s
unfolding plain_until
run-most b [] = omega arith
run-most b (a ∷ s) = by (ends_plain b a) (run-most b s)
  where
    by : (t : Bool) → plain_until b s ≤ length s → pick t 0 (suc (plain_until b s)) ≤ suc (length s)
    by true h = omega arith
    by false h = omega arith
