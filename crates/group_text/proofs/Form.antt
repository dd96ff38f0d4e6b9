-- Pieces are read as groups exactly when they have the form of groups, and then as what those stand for; no `::` stands in them.
-- Assumes nothing.
use Prim.Native.Nat.{ℕ, zero, suc, ◌+◌, ◌/◌, ◌%◌, ◌^◌, ◌<◌, ◌≤◌}
use mathlib.Core.Path.{◌≡◌, refl, sym, ap, ◌∙◌}
use mathlib.Core.Bool.{Bool, true, false}
use mathlib.Core.List.{List, [], ◌∷◌, ◌++◌, append-nil, append_assoc}
use native.Mathlib.Omega.{arith}
use lib.Dec.{leb, lit≤}
use lib.ListN.{length, length-append}
use borrow.Author.Tests.{le-leb, leb-true}
use Rattle.byte.specs.Byte.{pick, between}
use Rattle.byte.specs.Digit.{digit_of}
use Rattle.std.specs.Prelude.{Option, Some, None, Result, Ok, Err}
use Rattle.number.specs.declared.NumberError.{NumberError}
use Rattle.number.specs.Number.{digits_in}
use Rattle.number.proofs.Laws.{digits-is, digits-told, Told}
use Rattle.digits.proofs.Digits.{value-below}
use Rattle.split.specs.Split.{split, join}
use Rattle.split.proofs.Split.{Free, free-head, AllFree, free_one, free_more, join_one, join_more, join-split, split-join}
use Rattle.ipv4.specs.V4.{v4_of}
use Rattle.ipv4.specs.Form.{V4Text}
use Rattle.ipv4.proofs.V4.{digits-free, v4-undotted}
use Rattle.ipv4.proofs.Form.{v4-sound, v4-complete, v4-free, v4-some}
use Rattle.group_text.specs.Text.{as_group, group_of, before, alone, tail_of, last_of, groups_of, side_of, gap_at}
use Rattle.group_text.proofs.Gap.{gap-single, gap-free, side-empty, side-some}
use Rattle.group_text.specs.Form.{GroupText, GroupTexts, SideText}

-- Groups.
pub group-sound : (p : List ℕ) (n : ℕ) → group_of p ≡ Some n → GroupText p n
unfolding group_of
group-sound p n = by (leb (length p) 4) (digits_in 16 65535 p) refl refl
  where
    by : (t : Bool) (r : Result ℕ NumberError) → leb (length p) 4 ≡ t → digits_in 16 65535 p ≡ r → pick t (as_group r) None ≡ Some n → GroupText p n
    by false r z q e = let x : ◌≡◌ {A = ℕ} 0 1 = cc in absurd (omega arith)
    by true (Ok m) z q e =
        let x : m ≡ n = cc in
        let k : Told 16 65535 p m = digits-told 16 65535 p m q in
        record { some = k.some; short = leb-true (length p) 4 z; digits = k.all; means = sym x ∙ k.means }
    by true (Err r) z q e = let x : ◌≡◌ {A = ℕ} 0 1 = cc in absurd (omega arith)

-- four hex digits stay below 65,536
pub four-digits : (k v : ℕ) → k ≤ 4 → v < 16 ^ k → v ≤ 65535
four-digits zero v h l = omega arith
four-digits (suc zero) v h l = omega arith
four-digits (suc (suc zero)) v h l = omega arith
four-digits (suc (suc (suc zero))) v h l = omega arith
four-digits (suc (suc (suc (suc zero)))) v h l = omega arith
four-digits (suc (suc (suc (suc (suc k))))) v h l = absurd (omega arith)

pub group-most : (p : List ℕ) (n : ℕ) → group_of p ≡ Some n → n ≤ 65535
group-most p n e =
    let k : GroupText p n = group-sound p n e in
    rw k.means (four-digits (length p) _ k.short (value-below 16 p k.digits))

pub group-complete : (p : List ℕ) (n : ℕ) → GroupText p n → group_of p ≡ Some n
unfolding group_of
group-complete p n k =
    rw (le-leb (length p) 4 k.short, digits-is 16 65535 p k.some k.digits (four-digits (length p) _ k.short (value-below 16 p k.digits)), ← k.means)

colon-no-digit : 16 ≤ digit_of 58
unfolding digit_of between
colon-no-digit = lit≤ tt

dot-no-hex : 16 ≤ digit_of 46
unfolding digit_of between
dot-no-hex = lit≤ tt

group-free : {p : List ℕ} {n : ℕ} → GroupText p n → Free 58 p
group-free {p} k = digits-free 16 58 colon-no-digit p k.digits

pub four-free : {p : List ℕ} {v : ℕ} → V4Text p v → Free 58 p
four-free {p} {v} k = v4-free 58 (omega (arith, colon-no-digit)) (λ e. omega arith) p v k

group-no-four : {p : List ℕ} {n : ℕ} → GroupText p n → v4_of p ≡ None
group-no-four {p} k = v4-undotted p (digits-free 16 46 dot-no-hex p k.digits)

-- Groups between colons.
alone-sound : (tail : Bool) (p gs : List ℕ) → alone (group_of p) ≡ Some gs → GroupTexts tail (p ∷ []) gs
alone-sound tail p gs = by (group_of p) refl
  where
    by : (x : Option ℕ) → group_of p ≡ x → alone x ≡ Some gs → GroupTexts tail (p ∷ []) gs
    by (Some n) q e = let z : n ∷ [] ≡ gs = cc in rw (← z) (GroupTexts.one (group-sound p n q))
    by None q e = let z : ◌≡◌ {A = ℕ} 0 1 = cc in absurd (omega arith)

last-sound : (tail : Bool) (p gs : List ℕ) → last_of tail p ≡ Some gs → GroupTexts tail (p ∷ []) gs
last-sound false p gs e = alone-sound false p gs e
last-sound true p gs e = by (v4_of p) refl e
  where
    by : (f : Option ℕ) → v4_of p ≡ f → tail_of f (alone (group_of p)) ≡ Some gs → GroupTexts true (p ∷ []) gs
    by (Some v) q e = let z : v / 2 ^ 16 ∷ v % 2 ^ 16 ∷ [] ≡ gs = cc in rw (← z) (GroupTexts.four refl (v4-sound p v q))
    by None q e = alone-sound true p gs e

pub groups-sound : (tail : Bool) (ps : List (List ℕ)) (gs : List ℕ) → groups_of tail ps ≡ Some gs → GroupTexts tail ps gs
unfolding groups_of
groups-sound tail [] gs e = let z : ◌≡◌ {A = ℕ} 0 1 = cc in absurd (omega arith)
groups-sound tail (p ∷ []) gs e = last-sound tail p gs e
groups-sound tail (p ∷ q ∷ ps) gs e = by (group_of p) (groups_of tail (q ∷ ps)) refl (groups-sound tail (q ∷ ps)) e
  where
    by : (x : Option ℕ) (r : Option (List ℕ)) → group_of p ≡ x → ((hs : List ℕ) → r ≡ Some hs → GroupTexts tail (q ∷ ps) hs) → before x r ≡ Some gs → GroupTexts tail (p ∷ q ∷ ps) gs
    by (Some n) (Some hs) i f e = let z : n ∷ hs ≡ gs = cc in rw (← z) (GroupTexts.more (group-sound p n i) (f hs refl))
    by (Some n) None i f e = let z : ◌≡◌ {A = ℕ} 0 1 = cc in absurd (omega arith)
    by None r i f e = let z : ◌≡◌ {A = ℕ} 0 1 = cc in absurd (omega arith)

one-complete : (tail : Bool) (p : List ℕ) (n : ℕ) → GroupText p n → last_of tail p ≡ Some (n ∷ [])
one-complete true p n k = rw (group-no-four k, group-complete p n k)
one-complete false p n k = rw (group-complete p n k)

pub groups-complete : {tail : Bool} {ps : List (List ℕ)} {gs : List ℕ} → GroupTexts tail ps gs → groups_of tail ps ≡ Some gs
unfolding groups_of
groups-complete {tail} (GroupTexts.one k) = one-complete tail _ _ k
groups-complete (GroupTexts.four e k) = rw (e, v4-complete _ _ k)
groups-complete (GroupTexts.more k r) = rw (group-complete _ _ k, groups-complete r)

pub groups-free : {tail : Bool} {ps : List (List ℕ)} {gs : List ℕ} → GroupTexts tail ps gs → AllFree 58 ps
groups-free (GroupTexts.one k) = free_one (group-free k)
groups-free (GroupTexts.four e k) = free_one (four-free k)
groups-free (GroupTexts.more k r) = free_more (group-free k) (groups-free r)

-- such a text begins with a byte that is no colon
data First (s : List ℕ) : Type 0 where
  first : (a : ℕ) (u : List ℕ) → s ≡ a ∷ u → (a ≡ 58 → ⊥) → First s

first-of : (p : List ℕ) → 0 < length p → Free 58 p → (u s : List ℕ) → s ≡ p ++ u → First s
first-of [] h f u s e = absurd (omega arith)
first-of (a ∷ p) h f u s e = first a (p ++ u) e (free-head 58 a p f)

groups-first : {tail : Bool} {ps : List (List ℕ)} {gs : List ℕ} → GroupTexts tail ps gs → First (join 58 ps)
groups-first (GroupTexts.one {p} k) = first-of p k.some (group-free k) [] _ (join_one 58 p ∙ sym (append-nil p))
groups-first (GroupTexts.four {p} e k) = first-of p (v4-some _ _ k) (four-free k) [] _ (join_one 58 p ∙ sym (append-nil p))
groups-first (GroupTexts.more {p} {q} {ps} k r) = first-of p k.some (group-free k) (58 ∷ join 58 (q ∷ ps)) _ (join_more 58 p q ps)

-- and holds no `::`
colon-first : (s u : List ℕ) → First s → gap_at (58 ∷ s ++ u) ≡ suc (gap_at (s ++ u))
colon-first s u (first a w e n) = rw e (gap-single a (w ++ u) n)

pub groups-gap : {tail : Bool} {ps : List (List ℕ)} {gs : List ℕ} → GroupTexts tail ps gs → (u : List ℕ) → gap_at (join 58 ps ++ u) ≡ length (join 58 ps) + gap_at u
groups-gap (GroupTexts.one {p} k) u = rw (join_one 58 p) (gap-free p (group-free k) u)
groups-gap (GroupTexts.four {p} e k) u = rw (join_one 58 p) (gap-free p (four-free k) u)
groups-gap (GroupTexts.more {p} {q} {ps} k r) u =
    let j : List ℕ = join 58 (q ∷ ps) in
    let a : gap_at (p ++ (58 ∷ j ++ u)) ≡ length p + gap_at (58 ∷ j ++ u) = gap-free p (group-free k) (58 ∷ j ++ u) in
    let b : gap_at (58 ∷ j ++ u) ≡ suc (gap_at (j ++ u)) = colon-first j u (groups-first r) in
    let c : gap_at (j ++ u) ≡ length j + gap_at u = groups-gap r u in
    rw (join_more 58 p q ps, append_assoc p (58 ∷ j) u) (omega (arith, a, b, c, length-append p (58 ∷ j)))

groups-some : {tail : Bool} {ps : List (List ℕ)} {gs : List ℕ} → GroupTexts tail ps gs → length (join 58 ps) ≡ 0 → ⊥
groups-some k e = by (groups-first k) e
  where
    by : {s : List ℕ} → First s → length s ≡ 0 → ⊥
    by (first a u q n) e = let z : suc (length u) ≡ 0 = sym (ap length q) ∙ e in omega arith

-- Sides of a `::`.
pub side-sound : (tail : Bool) (s gs : List ℕ) → side_of tail s ≡ Some gs → SideText tail s gs
unfolding side_of
side-sound tail [] gs e = let z : gs ≡ [] = cc in SideText.nothing refl z
side-sound tail (a ∷ s) gs e = SideText.pieces (split 58 (a ∷ s)) (groups-sound tail (split 58 (a ∷ s)) gs e) (sym (join-split 58 (a ∷ s)))

pub side-complete : {tail : Bool} {s gs : List ℕ} → SideText tail s gs → side_of tail s ≡ Some gs
side-complete {tail} {s} (SideText.nothing e f) = side-empty tail s (ap length e) ∙ ap Some (sym f)
side-complete {tail} {s} (SideText.pieces ps k e) =
    side-some tail s (λ z. groups-some k (ap length (sym e) ∙ z))
    ∙ ap (λ (w : List ℕ). groups_of tail (split 58 w)) e ∙ ap (groups_of tail) (split-join 58 (groups-free k)) ∙ groups-complete k

pub side-gap : {tail : Bool} {s gs : List ℕ} → SideText tail s gs → (u : List ℕ) → gap_at (s ++ u) ≡ length s + gap_at u
side-gap (SideText.nothing e f) u = rw e (omega arith)
side-gap (SideText.pieces ps k e) u = rw e (groups-gap k u)
