-- A text is read as an IPv4 address exactly when it has the form of one, and then as what that stands for.
-- Assumes nothing.
use Prim.Native.Nat.{ℕ, ◌+◌, ◌*◌, ◌^◌, ◌<◌, ◌≤◌}
use mathlib.Core.Path.{◌≡◌, refl, sym, ◌∙◌}
use mathlib.Core.Bool.{Bool, true, false}
use mathlib.Core.List.{List, [], ◌∷◌, ◌++◌}
use mathlib.Core.Logic.{◌↔◌}
use native.Mathlib.Omega.{arith}
use lib.Dec.{ltb, eqb}
use lib.ListN.{length, get_or, length-append}
use borrow.Author.Tests.{ltb-false, eq-eqb, eqb-true, le-ltb}
use Rattle.byte.specs.Byte.{pick}
use Rattle.byte.specs.Digit.{digit_of}
use Rattle.byte.proofs.Laws.{and-false}
use Rattle.std.specs.Prelude.{Option, Some, None, Result, Ok, Err}
use Rattle.number.specs.declared.NumberError.{NumberError}
use Rattle.number.specs.Number.{digits_in}
use Rattle.number.proofs.Laws.{digits-is, digits-told, Told}
use Rattle.split.specs.Split.{split, join}
use Rattle.split.proofs.Split.{Free, free-cons, free-append, AllFree, free_one, free_more, join_one, join_more, join-split, split-join}
use Rattle.ipv4.specs.V4.{as_part, zero_led, part_of, four_of, parts_of, v4_of}
use Rattle.ipv4.specs.Form.{PartText, V4Text}
use Rattle.ipv4.proofs.V4.{digits-free, dot-no-digit}

-- Parts.
plain_of : (p : List ℕ) → zero_led p ≡ false → 0 < length p → get_or p 0 0 ≡ 48 → length p ≡ 1
plain_of p z h e = let l : ltb 1 (length p) ≡ false = rw (eq-eqb (get_or p 0 0) 48 e) at z in omega (arith, ltb-false 1 (length p) l)

pub part_sound : (p : List ℕ) (n : ℕ) → part_of p ≡ Some n → PartText p n
unfolding part_of
part_sound p n = by (zero_led p) (digits_in 10 255 p) refl refl
  where
    by : (t : Bool) (r : Result ℕ NumberError) → zero_led p ≡ t → digits_in 10 255 p ≡ r → pick t None (as_part r) ≡ Some n → PartText p n
    by true r z q e = let x : ◌≡◌ {A = ℕ} 0 1 = cc in absurd (omega arith)
    by false (Ok m) z q e =
        let x : m ≡ n = cc in
        let k : Told 10 255 p m = digits-told 10 255 p m q in
        record { some = k.some; digits = k.all; plain = plain_of p z k.some; means = sym x ∙ k.means; low = omega (arith, k.low) }
    by false (Err r) z q e = let x : ◌≡◌ {A = ℕ} 0 1 = cc in absurd (omega arith)

pub part-complete : (p : List ℕ) (n : ℕ) → PartText p n → part_of p ≡ Some n
unfolding part_of
part-complete p n k =
    rw (digits-is 10 255 p k.some k.digits (omega (arith, k.means, k.low)), by (eqb (get_or p 0 0) 48) refl, ← k.means)
  where
    by : (t : Bool) → eqb (get_or p 0 0) 48 ≡ t → zero_led p ≡ false
    by true e = let l : length p ≡ 1 = k.plain (eqb-true (get_or p 0 0) 48 e) in rw (le-ltb 1 (length p) (omega arith)) (and-false (eqb (get_or p 0 0) 48))
    by false e = rw e

-- Four of them.
parts-sound : (ps : List (List ℕ)) (v : ℕ) → parts_of ps ≡ Some v → V4Text (join 46 ps) v
unfolding parts_of
parts-sound [] v e = let x : ◌≡◌ {A = ℕ} 0 1 = cc in absurd (omega arith)
parts-sound (p ∷ []) v e = let x : ◌≡◌ {A = ℕ} 0 1 = cc in absurd (omega arith)
parts-sound (p ∷ q ∷ []) v e = let x : ◌≡◌ {A = ℕ} 0 1 = cc in absurd (omega arith)
parts-sound (p ∷ q ∷ r ∷ []) v e = let x : ◌≡◌ {A = ℕ} 0 1 = cc in absurd (omega arith)
parts-sound (p ∷ q ∷ r ∷ t ∷ []) v e = by (part_of p) (part_of q) (part_of r) (part_of t) refl refl refl refl e
  where
    by : (a b c d : Option ℕ) → part_of p ≡ a → part_of q ≡ b → part_of r ≡ c → part_of t ≡ d → four_of a b c d ≡ Some v → V4Text (join 46 (p ∷ q ∷ r ∷ t ∷ [])) v
    by (Some a) (Some b) (Some c) (Some d) i j k l e =
        let m : v ≡ a * 2 ^ 24 + b * 2 ^ 16 + c * 2 ^ 8 + d = cc in
        record {
          p = p;
          q = q;
          r = r;
          t = t;
          a = a;
          b = b;
          c = c;
          d = d;
          first = part_sound p a i;
          second = part_sound q b j;
          third = part_sound r c k;
          fourth = part_sound t d l;
          text = refl;
          means = m;
        }
    by (Some a) (Some b) (Some c) None i j k l e = let x : ◌≡◌ {A = ℕ} 0 1 = cc in absurd (omega arith)
    by (Some a) (Some b) None d i j k l e = let x : ◌≡◌ {A = ℕ} 0 1 = cc in absurd (omega arith)
    by (Some a) None c d i j k l e = let x : ◌≡◌ {A = ℕ} 0 1 = cc in absurd (omega arith)
    by None b c d i j k l e = let x : ◌≡◌ {A = ℕ} 0 1 = cc in absurd (omega arith)
parts-sound (p ∷ q ∷ r ∷ t ∷ u ∷ ps) v e = let x : ◌≡◌ {A = ℕ} 0 1 = cc in absurd (omega arith)

pub v4-sound : (s : List ℕ) (v : ℕ) → v4_of s ≡ Some v → V4Text s v
unfolding v4_of
v4-sound s v e = rw (join-split 46 s) at (parts-sound (split 46 s) v e)

part_free : {p : List ℕ} {n : ℕ} (b : ℕ) → 10 ≤ digit_of b → PartText p n → Free b p
part_free {p} b h k = digits-free 10 b h p k.digits

pub v4-complete : (s : List ℕ) (v : ℕ) → V4Text s v → v4_of s ≡ Some v
unfolding v4_of parts_of
v4-complete s v k =
    let free : AllFree 46 (k.p ∷ k.q ∷ k.r ∷ k.t ∷ []) =
    free_more (part_free 46 dot-no-digit k.first) (free_more (part_free 46 dot-no-digit k.second) (free_more (part_free 46 dot-no-digit k.third) (free_one (part_free 46 dot-no-digit k.fourth)))) in
    rw (k.text, split-join 46 free, part-complete _ _ k.first, part-complete _ _ k.second, part-complete _ _ k.third, part-complete _ _ k.fourth, k.means)

pub v4-exactly : (s : List ℕ) (v : ℕ) → (v4_of s ≡ Some v) ↔ V4Text s v
v4-exactly s v = (v4-sound s v, v4-complete s v)

-- what stands in such a text: no byte that is neither a digit nor a dot
joined : (p q r t : List ℕ) → join 46 (p ∷ q ∷ r ∷ t ∷ []) ≡ p ++ 46 ∷ (q ++ 46 ∷ (r ++ 46 ∷ t))
joined p q r t = rw (join_more 46 p q (r ∷ t ∷ []), join_more 46 q r (t ∷ []), join_more 46 r t [], join_one 46 t)

pub v4-free : (b : ℕ) → 10 ≤ digit_of b → (b ≡ 46 → ⊥) → (s : List ℕ) (v : ℕ) → V4Text s v → Free b s
v4-free b h n s v k =
    let dot : (t : List ℕ) → Free b t → Free b (46 ∷ t) = λ t f. free-cons b 46 t (λ e. n (sym e)) f in
    rw (k.text, joined k.p k.q k.r k.t)
    (free-append b k.p _ (part_free b h k.first)
    (dot _ (free-append b k.q _ (part_free b h k.second)
    (dot _ (free-append b k.r _ (part_free b h k.third)
    (dot _ (part_free b h k.fourth)))))))

pub v4-some : (s : List ℕ) (v : ℕ) → V4Text s v → 0 < length s
v4-some s v k =
    rw (k.text, joined k.p k.q k.r k.t)
    (omega (arith, k.first.some, length-append k.p (46 ∷ (k.q ++ 46 ∷ (k.r ++ 46 ∷ k.t)))))

-- it stands for a number of 32 bits
pub v4-below : (s : List ℕ) (v : ℕ) → V4Text s v → v < 2 ^ 32
v4-below s v k = omega (arith, k.means, k.first.low, k.second.low, k.third.low, k.fourth.low)
