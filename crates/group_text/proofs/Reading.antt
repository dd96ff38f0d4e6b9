-- Groups read piece by piece: what is held behind each.
-- Assumes nothing.
use mathlib.Core.Path.{◌≡◌, refl, sym, ap, ◌∙◌}
use mathlib.Core.Bool.{Bool, true, false}
use Rattle.std.specs.Prelude.{Option, Some, None}
use mathlib.Core.List.{List, [], ◌∷◌, append_assoc}
use Prim.Native.Nat.{ℕ, ◌+◌, ◌-◌, ◌/◌, ◌%◌, ◌^◌, ◌<◌, ◌≤◌}
use lib.ListN.{length, take, drop}
use Rattle.split.specs.Split.{first_at, split}
use Rattle.split.proofs.Split.{split-first, split-more, split-last}
use Rattle.ipv4.specs.V4.{v4_of}
use Rattle.groups.specs.declared.Groups.{Groups}
use Rattle.groups.specs.Eight.{packed, pushed, pushed_all, pushed_some}
use Rattle.groups.proofs.Eight.{snoc, follow, push-none, push-packed, push-last}
use Rattle.group_text.specs.Text.{group_of, before, alone, last_of, groups_of, pushed_last}

follow-before : (d : Option (List ℕ)) (x : Option ℕ) (r : Option (List ℕ)) → follow d (before x r) ≡ follow (snoc d x) r
follow-before None x r = refl
follow-before (Some l) None None = refl
follow-before (Some l) None (Some r) = refl
follow-before (Some l) (Some x) None = refl
follow-before (Some l) (Some x) (Some r) = ap Some (sym (append_assoc l (x ∷ []) r))

-- the groups of a piece and of those behind it
groups-more : (tail : Bool) (d : Option (List ℕ)) (p s : List ℕ)
    → follow d (groups_of tail (p ∷ split 58 s)) ≡ follow (snoc d (group_of p)) (groups_of tail (split 58 s))
unfolding groups_of
groups-more tail d p s = rw (split-first 58 s) (follow-before d (group_of p) _)

-- the last piece: a group, or where an IPv4 text may stand what that stands for
push-alone : (g : Option Groups) (x : Option ℕ) → pushed g x ≡ pushed_some g (alone x)
unfolding pushed pushed_all
push-alone g (Some x) = refl
push-alone g None = push-none g

module _ (g : Option Groups) (p : List ℕ) (tail : Bool) where
  pub last-plain : tail ≡ false → pushed g (group_of p) ≡ pushed_last tail g p
  last-plain e = rw e (push-alone g (group_of p))

  pub last-four : tail ≡ true → (v : ℕ) → v4_of p ≡ Some v → pushed (pushed g (Some (v / 2 ^ 16))) (Some (v % 2 ^ 16)) ≡ pushed_last tail g p
  unfolding pushed_all
  last-four e v f = rw (e, f)

  pub last-group : tail ≡ true → v4_of p ≡ None → pushed g (group_of p) ≡ pushed_last tail g p
  last-group e f = rw (e, f) (push-alone g (group_of p))

-- Groups read piece by piece: g holds those before the place i, and the text's are these and what stands from i on.
pub record Reading (tail : Bool) (s : List ℕ) (g : Option Groups) (i : ℕ) : Type 0 where
  pub done : Option (List ℕ)
  pub holds : g ≡ packed done
  pub rest : groups_of tail (split 58 s) ≡ follow done (groups_of tail (split 58 (drop i s)))

follow-nothing : (r : Option (List ℕ)) → r ≡ follow (Some []) r
follow-nothing None = refl
follow-nothing (Some r) = refl

module _ (tail : Bool) (s : List ℕ) where
  pub reading-start : (g : Option Groups) → g ≡ packed (Some []) → Reading tail s g 0
  reading-start g h = record { done = Some []; holds = h; rest = follow-nothing (groups_of tail (split 58 s)) }

  -- the next piece ends at e
  module _ (g : Option Groups) (i e : ℕ) (at : e ≡ i + first_at 58 (drop i s)) (R : Reading tail s g i) where
    pub reading-more : e < length s → (x : Option ℕ) → x ≡ group_of (take (e - i) (drop i s)) → (m : Option Groups) → m ≡ pushed g x → Reading tail s m (e + 1)
    reading-more h x q m k =
        let p : List ℕ = take (e - i) (drop i s) in
        record {
          done = snoc R.done (group_of p);
          holds = k ∙ ap (pushed g) q ∙ ap (λ (y : Option Groups). pushed y (group_of p)) R.holds ∙ push-packed R.done (group_of p);
          rest = R.rest ∙ ap (λ (l : List (List ℕ)). follow R.done (groups_of tail l)) (split-more 58 s i e at h) ∙ groups-more tail R.done p (drop (e + 1) s);
        }

    pub reading-last : length s ≤ e → pushed_last tail g (take (e - i) (drop i s)) ≡ packed (groups_of tail (split 58 s))
    unfolding groups_of
    reading-last h =
        let p : List ℕ = take (e - i) (drop i s) in
        ap (λ (x : Option Groups). pushed_last tail x p) R.holds ∙ push-last R.done (last_of tail p)
        ∙ sym (ap packed (R.rest ∙ ap (λ (l : List (List ℕ)). follow R.done (groups_of tail l)) (split-last 58 s i e at h)))
