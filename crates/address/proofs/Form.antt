-- A text is read as an IPv6 address exactly when it has the form of one, and then as what that stands for; none has both forms.
-- Assumes nothing.
use Prim.Native.Nat.{ℕ, ◌+◌, ◌-◌, ◌<◌}
use mathlib.Core.Path.{◌≡◌, refl, sym, ap, ◌∙◌}
use mathlib.Core.Bool.{Bool, true, false}
use mathlib.Core.List.{List, [], ◌∷◌, ◌++◌, append-nil}
use Rattle.std.specs.Prelude.{Option, Some, None}
use mathlib.Core.Logic.{◌↔◌}
use native.Mathlib.Omega.{arith}
use lib.Dec.{ltb, leb, eqb}
use lib.ListN.{length, take, drop, replicate, length-append}
use lib.Seq.{take-append_seam, drop-append-add}
use borrow.Author.Tests.{le-leb, leb-true, ltb-true, ltb-false, eq-eqb, eqb-true}
use Rattle.byte.specs.Byte.{pick}
use Rattle.split.specs.Split.{split, join}
use Rattle.split.proofs.Split.{Free, join-split, split-join, split-free}
use Rattle.ipv4.specs.V4.{v4_of}
use Rattle.ipv4.specs.Form.{V4Text}
use Rattle.ipv4.proofs.Form.{v4-sound, v4-complete}
use Rattle.group_text.proofs.Gap.{gap-first, gap-nothing, gap-free, gap-text}
use Rattle.group_text.proofs.Form.{four-free, groups-sound, groups-complete, groups-free, groups-gap, side-sound, side-complete, side-gap}
use Rattle.address.specs.declared.Kind.{Kind}
use Rattle.address.specs.declared.Address.{Address}
use Rattle.address.specs.Address.{groups_of, side_of, gap_at, quad, v6, whole, around, v6_of, either, address_of}
use Rattle.address.specs.Form.{V6Text, AddressText}
use Rattle.address.proofs.Gap.{v6-whole, v6-around}

pub v6-complete : (s gs : List ℕ) → V6Text s gs → v6_of s ≡ v6 gs
v6-complete s gs (V6Text.whole ps k n e) =
    let g : gap_at s ≡ length s = ap gap_at e ∙ ap gap_at (sym (append-nil (join 58 ps))) ∙ groups-gap k [] ∙ omega (arith, gap-nothing) ∙ ap length (sym e) in
    let q : groups_of true (split 58 s) ≡ Some gs = ap (λ (w : List ℕ). groups_of true (split 58 w)) e ∙ ap (groups_of true) (split-join 58 (groups-free k)) ∙ groups-complete k in
    v6-whole s (gap_at s) refl (omega arith) ∙ rw (q, eq-eqb (length gs) 8 n)
v6-complete s gs (V6Text.around l r gl gr a b h e f) =
    let t : List ℕ = l ++ 58 ∷ 58 ∷ r in
    let g : length l ≡ gap_at t = omega (arith, side-gap a (58 ∷ 58 ∷ r), gap-first r) in
    let m : length l < length t = omega (arith, length-append l (58 ∷ 58 ∷ r)) in
    ap v6_of e ∙ v6-around t (length l) g m
    ∙ rw (take-append_seam l (58 ∷ 58 ∷ r), drop-append-add l (58 ∷ 58 ∷ r) 2, side-complete a, side-complete b, le-leb (length gl + length gr) 7 h, f)

pub record V6Reads (s : List ℕ) (x : Option Address) : Type 0 where
  pub gs : List ℕ
  pub text : V6Text s gs
  pub is : v6 gs ≡ x

whole-sound : (s : List ℕ) (x : Address) (o : Option (List ℕ)) → groups_of true (split 58 s) ≡ o → whole o ≡ Some x → V6Reads s (Some x)
whole-sound s x None q e = let z : ◌≡◌ {A = ℕ} 0 1 = cc in absurd (omega arith)
whole-sound s x (Some gs) q e = by (eqb (length gs) 8) refl e
  where
    by : (t : Bool) → eqb (length gs) 8 ≡ t → pick t (v6 gs) None ≡ Some x → V6Reads s (Some x)
    by true h e = record { gs = gs; text = V6Text.whole (split 58 s) (groups-sound true (split 58 s) gs q) (eqb-true (length gs) 8 h) (sym (join-split 58 s)); is = e }
    by false h e = let z : ◌≡◌ {A = ℕ} 0 1 = cc in absurd (omega arith)

around-sound : (s l r : List ℕ) (x : Address) → s ≡ l ++ 58 ∷ 58 ∷ r → (a b : Option (List ℕ)) → side_of false l ≡ a → side_of true r ≡ b
    → around a b ≡ Some x → V6Reads s (Some x)
around-sound s l r x k None b p q e = let z : ◌≡◌ {A = ℕ} 0 1 = cc in absurd (omega arith)
around-sound s l r x k (Some gl) None p q e = let z : ◌≡◌ {A = ℕ} 0 1 = cc in absurd (omega arith)
around-sound s l r x k (Some gl) (Some gr) p q e = by (leb (length gl + length gr) 7) refl e
  where
    by : (t : Bool) → leb (length gl + length gr) 7 ≡ t → pick t (v6 (gl ++ replicate (8 - (length gl + length gr)) 0 ++ gr)) None ≡ Some x → V6Reads s (Some x)
    by true h e =
        record {
          gs = gl ++ replicate (8 - (length gl + length gr)) 0 ++ gr;
          text = V6Text.around l r gl gr (side-sound false l gl p) (side-sound true r gr q) (leb-true (length gl + length gr) 7 h) k refl;
          is = e;
        }
    by false h e = let z : ◌≡◌ {A = ℕ} 0 1 = cc in absurd (omega arith)

pub v6-sound : (s : List ℕ) (x : Address) → v6_of s ≡ Some x → V6Reads s (Some x)
v6-sound s x e = by (ltb (gap_at s) (length s)) refl
  where
    by : (t : Bool) → ltb (gap_at s) (length s) ≡ t → V6Reads s (Some x)
    by true h =
        let l : gap_at s < length s = ltb-true (gap_at s) (length s) h in
        around-sound s (take (gap_at s) s) (drop (gap_at s + 2) s) x (gap-text s l) (side_of false (take (gap_at s) s)) (side_of true (drop (gap_at s + 2) s)) refl refl (sym (v6-around s (gap_at s) refl l) ∙ e)
    by false h = whole-sound s x (groups_of true (split 58 s)) refl (sym (v6-whole s (gap_at s) refl (ltb-false (gap_at s) (length s) h)) ∙ e)

-- no text is both
pub v4-not-v6 : (s : List ℕ) (v : ℕ) → V4Text s v → v6_of s ≡ None
unfolding groups_of
v4-not-v6 s v k =
    let f : Free 58 s = four-free k in
    let g : gap_at s ≡ length s = ap gap_at (sym (append-nil s)) ∙ gap-free s f [] ∙ omega (arith, gap-nothing) in
    v6-whole s (gap_at s) refl (omega arith) ∙ rw (split-free 58 s f, v4-complete s v k)

pub address-sound : (s : List ℕ) (x : Address) → address_of s ≡ Some x → AddressText s x
unfolding address_of
address-sound s x e = by (v4_of s) refl e
  where
    by : (f : Option ℕ) → v4_of s ≡ f → either f (v6_of s) ≡ Some x → AddressText s x
    by (Some v) q e = let z : x ≡ record { kind = Kind.V4 v } = cc in AddressText.four-parts v (v4-sound s v q) z
    by None q e =
        let r : V6Reads s (Some x) = v6-sound s x e in
        let i : v6 r.gs ≡ Some x = r.is in
        let z : x ≡ record { kind = Kind.V6 (quad r.gs 0) (quad r.gs 4) } = cc in
        AddressText.eight-groups r.gs r.text z

pub address-complete : (s : List ℕ) (x : Address) → AddressText s x → address_of s ≡ Some x
unfolding address_of
address-complete s x (AddressText.four-parts v k e) = rw (v4-complete s v k, e)
address-complete s x (AddressText.eight-groups gs k e) = by (v4_of s) refl
  where
    by : (f : Option ℕ) → v4_of s ≡ f → either f (v6_of s) ≡ Some x
    by (Some v) q =
        let n : v6_of s ≡ None = v4-not-v6 s v (v4-sound s v q) in
        let y : v6_of s ≡ v6 gs = v6-complete s gs k in
        let z : ◌≡◌ {A = ℕ} 0 1 = cc in absurd (omega arith)
    by None q = v6-complete s gs k ∙ ap Some (sym e)

-- A text is read as an address exactly when it has the form of one.
pub address-exactly : (s : List ℕ) (x : Address) → (address_of s ≡ Some x) ↔ AddressText s x
address-exactly s x = (address-sound s x, address-complete s x)
