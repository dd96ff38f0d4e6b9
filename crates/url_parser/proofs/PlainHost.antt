-- Laws of a host that is plain: it ends where a scan finds its end, and is judged by having been found.
-- Assumes nothing.
use Rattle.std.proofs.Common.{Some}
use Prim.Native.Nat.{ℕ, zero, suc, ◌+◌, ◌-◌, ◌≤◌, ◌<◌}
use mathlib.Core.Path.{◌≡◌, refl, ap, sym, ◌∙◌}
use mathlib.Core.Bool.{Bool, true, false, ◌||◌}
use mathlib.Core.List.{List, [], ◌∷◌}
use native.Mathlib.Omega.{arith}
use native.Mathlib.Nat.{zero-add, add-zero}
use lib.Dec.{eqb, ltb, leb}
use lib.ListN.{length, take, drop, get_or, length-take}
use lib.Seq.{drop-cons, drop-drop, take-take}
use borrow.Author.Tests.{eqb-true, eqb-false, ne_eqb, ltb-true, ltb-false, leb-false}
use Rattle.byte.specs.Byte.{pick, part_of}
use Rattle.split.specs.Split.{first_at}
use Rattle.split.proofs.Split.{first-most}
use Rattle.percent_check.specs.declared.Checked.{Checked}
use Rattle.percent_check.specs.Plain.{checked}
use Rattle.percent_check.specs.Plain.{plain_until}
use Rattle.percent_check.proofs.Runs.{run_more, whole_plain}
use Rattle.url_parser.specs.declared.Stage.TheVariants.{Port}
use Rattle.url_parser.specs.Uri.{first_of, ends_hosts}
use Rattle.url_parser.specs.Step.{given, url, found, give, ends_chunk, chunk_end, ends_host, ends_plain_host, place, host_place, host_checked, placed_step, chunk_step}
use Rattle.url_parser.proofs.Places.{front-byte, part-start, of_end}
use Rattle.url_parser.proofs.Branches.{place-plain, host-utf8}

-- a byte of the plain front
pub record PlainByte (a : ℕ) : Type 0 where
  pub no-percent : a ≡ 37 → ⊥
  pub ascii : a < 128
  pub goes_on : ends_host a ≡ false

true-false : true ≡ false → ⊥
true-false e = let z : ◌≡◌ {A = ℕ} 0 1 = cc in omega arith

-- no byte above `?` ends a host
high-goes-on : (a : ℕ) → 63 < a → ends_host a ≡ false
unfolding ends_host ends_chunk ends_hosts
high-goes-on a h =
    let p : a ≡ 58 → ⊥ = λ (z : a ≡ 58). absurd (omega arith) in
    let q : a ≡ 44 → ⊥ = λ (z : a ≡ 44). absurd (omega arith) in
    let r : a ≡ 47 → ⊥ = λ (z : a ≡ 47). absurd (omega arith) in
    let t : a ≡ 63 → ⊥ = λ (z : a ≡ 63). absurd (omega arith) in
    rw (ne_eqb a 58 p, ne_eqb a 44 q, ne_eqb a 47 r, ne_eqb a 63 t)

plain_byte : (a : ℕ) → ends_plain_host a ≡ false → PlainByte a
unfolding ends_plain_host
plain_byte a = by (ltb 63 a) refl (leb 128 a) refl (eqb a 37) refl (ends_host a) refl
  where
    by : (x : Bool) → ltb 63 a ≡ x → (y : Bool) → leb 128 a ≡ y → (z : Bool) → eqb a 37 ≡ z → (w : Bool) → ends_host a ≡ w → pick x y (z || w) ≡ false → PlainByte a
    by true p true q z r w t e = absurd (true-false e)
    by true p false q z r w t e =
        let h : 63 < a = ltb-true 63 a p in
        record { no-percent = λ (k : a ≡ 37). absurd (omega arith); ascii = leb-false 128 a q; goes_on = high-goes-on a h }
    by false p y q true r w t e = absurd (true-false e)
    by false p y q false r true t e = absurd (true-false e)
    by false p y q false r false t e =
        let h : a ≤ 63 = ltb-false 63 a p in
        record { no-percent = eqb-false a 37 r; ascii = omega arith; goes_on = t }

-- outside brackets a host ends at the first `:` of its chunk: at the first byte that ends a host
host-first : (t : List ℕ) → first_at 58 (take (chunk_end t) t) ≡ first_of ends_host t
unfolding first_of first_at ends_host
host-first [] = refl
host-first (a ∷ t) = by (ends_chunk a) (eqb a 58) refl (host-first t)
  where
    by : (x y : Bool) → eqb a 58 ≡ y → first_at 58 (take (chunk_end t) t) ≡ first_of ends_host t
        → first_at 58 (take (pick x 0 (suc (chunk_end t))) (a ∷ t)) ≡ pick (y || x) 0 (suc (first_of ends_host t))
    by true true q h = refl
    by true false q h = refl
    by false true q h = rw q
    by false false q h = rw q (ap suc h)

-- whether a host ends at a place: nothing is left, or the byte there decides
module _ (s : List ℕ) (i : ℕ) where
  pub host-ends : length s ≤ i → true ≡ eqb (first_of ends_host (drop i s)) 0
  host-ends h = rw (of_end ends_host s i h)

  pub host-byte : i < length s → ends_host (get_or s i 0) ≡ eqb (first_of ends_host (drop i s)) 0
  unfolding first_of
  host-byte h = rw (drop-cons s i 0 h) (by (ends_host (get_or s i 0)))
    where
      by : (x : Bool) → x ≡ eqb (pick x 0 (suc (first_of ends_host (drop (suc i) s)))) 0
      by true = refl
      by false =
          let n : suc (first_of ends_host (drop (suc i) s)) ≡ 0 → ⊥ = λ (z : suc (first_of ends_host (drop (suc i) s)) ≡ 0). absurd (omega arith) in
          sym (ne_eqb (suc (first_of ends_host (drop (suc i) s))) 0 n)

-- the plain front is passed over
host-run : (t : List ℕ) → first_of ends_host t ≡ first_of ends_plain_host t + first_of ends_host (drop (first_of ends_plain_host t) t)
unfolding first_of
host-run [] = sym (zero-add _)
host-run (a ∷ t) = by (ends_plain_host a) refl (host-run t)
  where
    by : (x : Bool) → ends_plain_host a ≡ x → first_of ends_host t ≡ first_of ends_plain_host t + first_of ends_host (drop (first_of ends_plain_host t) t)
        → first_of ends_host (a ∷ t) ≡ pick x 0 (suc (first_of ends_plain_host t)) + first_of ends_host (drop (pick x 0 (suc (first_of ends_plain_host t))) (a ∷ t))
    by true e h = sym (zero-add _)
    by false e h = rw (plain_byte a e).goes_on (omega arith)

-- and is plain
run-host : (t : List ℕ) → plain_until 37 (take (first_of ends_plain_host t) t) ≡ first_of ends_plain_host t
unfolding first_of plain_until
run-host [] = refl
run-host (a ∷ t) = by (ends_plain_host a) refl (run-host t)
  where
    by : (x : Bool) → ends_plain_host a ≡ x → plain_until 37 (take (first_of ends_plain_host t) t) ≡ first_of ends_plain_host t
        → plain_until 37 (take (pick x 0 (suc (first_of ends_plain_host t))) (a ∷ t)) ≡ pick x 0 (suc (first_of ends_plain_host t))
    by true e h = refl
    by false e h = let b = plain_byte a e in run_more 37 a (take (first_of ends_plain_host t) t) b.no-percent b.no-percent b.ascii ∙ ap suc h

front-not : (k : ℕ) (t : List ℕ) → (get_or t 0 0 ≡ 91 → ⊥) → get_or (take k t) 0 0 ≡ 91 → ⊥
front-not zero t h e = absurd (omega arith)
front-not (suc k) [] h e = h e
front-not (suc k) (a ∷ t) h e = h e

module _ (at : ℕ) (s : List ℕ) (to : ℕ) (p : to ≡ at + first_of ends_plain_host (drop at s)) (h : get_or s at 0 ≡ 91 → ⊥) (e : eqb (first_of ends_host (drop to s)) 0 ≡ true) where
  abbrev t : List ℕ
  t = drop at s

  abbrev c : List ℕ
  c = take (chunk_end t) t

  ends_there : first_at 58 c ≡ to - at
  ends_there =
      let n : ℕ = first_of ends_plain_host t in
      let d : drop n t ≡ drop to s = drop-drop n at s ∙ ap (λ (i : ℕ). drop i s) (sym p) in
      let z : first_of ends_host (drop n t) ≡ 0 = ap (first_of ends_host) d ∙ eqb-true _ 0 e in
      omega (arith, host-first t, host-run t)

  within : to - at ≤ chunk_end t
  within = omega (arith, ends_there, first-most 58 c, length-take (chunk_end t) t)

  the-host : part_of 0 (to - at) c ≡ take (to - at) t
  the-host = part-start (to - at) c ∙ take-take (to - at) (chunk_end t) t within

  judged : record { len = to - at; utf8 = true } ≡ checked (take (to - at) t)
  judged =
      let n : first_of ends_plain_host t ≡ to - at = omega arith in
      let r : plain_until 37 (take (to - at) t) ≡ to - at = rw n at (run-host t) in
      whole_plain (take (to - at) t) (to - at) (sym (zero-add (plain_until 37 (take (to - at) t)) ∙ r)) (omega (arith, length-take (to - at) t))

  host-judged : record { len = to - at; utf8 = true } ≡ host_checked (part_of 0 (to - at) c)
  host-judged = judged ∙ host-utf8 (take (to - at) t) (sym (ap (λ (x : Checked). x.utf8) judged)) ∙ ap host_checked (sym the-host)

  placed : host_place c ≡ Some (place 0 (to - at) (to - at))
  placed = sym (place-plain c (front-not (chunk_end t) t (λ (z : get_or t 0 0 ≡ 91). h (sym (front-byte at s) ∙ z))) (to - at) (sym (zero-add _ ∙ ends_there)))

  pub chunk-plain : given (found 20 at to (to - at) (url Port to)) ≡ chunk_step at (drop at s)
  unfolding chunk_step placed_step give
  chunk-plain =
      let n : ℕ = to - at in
      let q : at + n ≡ to = omega arith in
      sym
      (ap (placed_step at c) placed
      ∙ ap (λ (j : Checked). give 20 (at + 0) (at + n) j (url Port (at + n))) (sym host-judged)
      ∙ ap (λ (i : ℕ). given (found 20 i (at + n) n (url Port (at + n)))) (add-zero at)
      ∙ ap (λ (i : ℕ). given (found 20 at i n (url Port i))) q)
