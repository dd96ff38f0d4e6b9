-- Laws of groups in an array of eight.
-- Assumes nothing.
use mathlib.Core.Path.{◌≡◌, refl, sym, ap, ◌∙◌}
use mathlib.Core.Bool.{Bool, true, false}
use mathlib.Core.List.{List, [], ◌∷◌, ◌++◌, append_assoc, append-nil}
use Rattle.std.specs.Prelude.{Option, Some, None}
use Prim.Native.Nat.{ℕ, suc, ◌+◌, ◌-◌, ◌<◌, ◌≤◌}
use native.Mathlib.Omega.{arith}
use lib.Dec.{leb, ltb}
use lib.ListN.{length, get_or, set, replicate, length-append, length-replicate, get_or-replicate, get_or-append}
use lib.Seq.{set-append_seam, get_or-append-add}
use borrow.Author.Tests.{le-leb, lt-leb, lt-ltb, le-ltb, leb-true, leb-false, ltb-true, ltb-false}
use Rattle.byte.specs.Byte.{pick}
use Rattle.groups.specs.declared.Groups.{Groups}
use Rattle.groups.specs.Eight.{holding, packed, pushed, pushed_all, pushed_some, quad, group_at, quad_at}

-- groups and then a group, groups and then groups
abbrev pub snoc : Option (List ℕ) → Option ℕ → Option (List ℕ)
snoc (Some l) (Some x) = Some (l ++ x ∷ [])
snoc (Some l) None = None
snoc None x = None

abbrev pub follow : Option (List ℕ) → Option (List ℕ) → Option (List ℕ)
follow (Some l) (Some r) = Some (l ++ r)
follow (Some l) None = None
follow None r = None

-- what is held of a list: itself up to eight, and nothing of a longer one
abbrev pub held : ℕ → List ℕ → Option Groups
held n l = Some (record { n = n; at = l })

pub packed-some : (l : List ℕ) → length l ≤ 8 → packed (Some l) ≡ Some (holding l)
unfolding packed
packed-some l h = rw (le-leb (length l) 8 h)

pub packed-long : (l : List ℕ) → 8 < length l → packed (Some l) ≡ None
unfolding packed
packed-long l h = rw (lt-leb (length l) 8 h)

-- with one group more
module _ (l : List ℕ) (x : ℕ) where
  longer : length (l ++ x ∷ []) ≡ length l + 1
  longer = length-append l (x ∷ [])

  push-room : length l < 8 → pushed (packed (Some l)) (Some x) ≡ packed (Some (l ++ x ∷ []))
  unfolding pushed
  push-room h =
      let k : 8 - length l ≡ suc (7 - length l) = omega arith in
      let j : 8 - length (l ++ x ∷ []) ≡ 7 - length l = omega (arith, longer) in
      let a : set (l ++ replicate (8 - length l) 0) (length l) x ≡ l ++ x ∷ replicate (7 - length l) 0 = rw k (set-append_seam l 0 (replicate (7 - length l) 0) x) in
      let b : l ++ x ∷ replicate (7 - length l) 0 ≡ (l ++ x ∷ []) ++ replicate (8 - length (l ++ x ∷ [])) 0 = rw j (sym (append_assoc l (x ∷ []) (replicate (7 - length l) 0))) in
      rw (packed-some l (omega arith), packed-some (l ++ x ∷ []) (omega (arith, longer)), lt-ltb (length l) 8 h)
      (ap (λ (n : ℕ). held n (set (l ++ replicate (8 - length l) 0) (length l) x)) (sym longer) ∙ ap (held (length (l ++ x ∷ []))) (a ∙ b))

  push-full : length l ≡ 8 → pushed (packed (Some l)) (Some x) ≡ packed (Some (l ++ x ∷ []))
  unfolding pushed
  push-full h = rw (packed-some l (omega arith), packed-long (l ++ x ∷ []) (omega (arith, longer)), le-ltb (length l) 8 (omega arith))

  push-long : 8 < length l → pushed (packed (Some l)) (Some x) ≡ packed (Some (l ++ x ∷ []))
  unfolding pushed
  push-long h = rw (packed-long l h, packed-long (l ++ x ∷ []) (omega (arith, longer)))

  push-some : pushed (packed (Some l)) (Some x) ≡ packed (Some (l ++ x ∷ []))
  push-some = by (leb (length l) 7) (leb (length l) 8) refl refl
    where
      by : (t u : Bool) → leb (length l) 7 ≡ t → leb (length l) 8 ≡ u → pushed (packed (Some l)) (Some x) ≡ packed (Some (l ++ x ∷ []))
      by true u e f = push-room (omega (arith, leb-true (length l) 7 e))
      by false true e f = push-full (omega (arith, leb-false (length l) 7 e, leb-true (length l) 8 f))
      by false false e f = push-long (leb-false (length l) 8 f)

pub push-none : (g : Option Groups) → pushed g None ≡ None
unfolding pushed
push-none None = refl
push-none (Some g) = refl

pub push-packed : (d : Option (List ℕ)) (x : Option ℕ) → pushed (packed d) x ≡ packed (snoc d x)
unfolding packed pushed
push-packed None None = refl
push-packed None (Some x) = refl
push-packed (Some l) None = push-none (packed (Some l))
push-packed (Some l) (Some x) = push-some l x

-- with several
push-all : (xs : List ℕ) (d : Option (List ℕ)) → pushed_all (packed d) xs ≡ packed (follow d (Some xs))
unfolding pushed_all
push-all [] None = refl
push-all [] (Some l) = ap (λ (m : List ℕ). packed (Some m)) (sym (append-nil l))
push-all (x ∷ xs) None = rw (push-packed None (Some x)) (push-all xs None)
push-all (x ∷ xs) (Some l) = rw (push-packed (Some l) (Some x)) (push-all xs (Some (l ++ x ∷ [])) ∙ ap (λ (m : List ℕ). packed (Some m)) (append_assoc l (x ∷ []) xs))

pub push-last : (d r : Option (List ℕ)) → pushed_some (packed d) r ≡ packed (follow d r)
unfolding packed
push-last None None = refl
push-last (Some l) None = refl
push-last None (Some r) = push-all r None
push-last (Some l) (Some r) = push-all r (Some l)

-- the group at a place of two lists that are held, and of the eight groups that they make
abbrev pub eight : List ℕ → List ℕ → List ℕ
eight l r = l ++ replicate (8 - (length l + length r)) 0 ++ r

module _ (l r : List ℕ) (room : length l + length r ≤ 8) where
  gap-long : length (l ++ replicate (8 - (length l + length r)) 0) ≡ 8 - length r
  gap-long = omega (arith, length-append l (replicate (8 - (length l + length r)) 0), length-replicate {A = ℕ} (8 - (length l + length r)) 0)

  module _ (i : ℕ) where
    in_left : i < length l → get_or (eight l r) i 0 ≡ get_or l i 0
    in_left h =
        get_or-append (l ++ replicate (8 - (length l + length r)) 0) r 0 i (omega (arith, gap-long))
        ∙ get_or-append l (replicate (8 - (length l + length r)) 0) 0 i h

    in-gap : length l ≤ i → i < 8 - length r → get_or (eight l r) i 0 ≡ 0
    in-gap h k =
        let z : List ℕ = replicate (8 - (length l + length r)) 0 in
        let j : i ≡ length l + (i - length l) = omega arith in
        get_or-append (l ++ z) r 0 i (omega (arith, gap-long))
        ∙ ap (λ (n : ℕ). get_or (l ++ z) n 0) j
        ∙ get_or-append-add l z (i - length l) 0
        ∙ get_or-replicate (8 - (length l + length r)) (i - length l) 0 0 (omega arith)

    in_right : 8 - length r ≤ i → i < 8 → get_or (eight l r) i 0 ≡ get_or r (i - (8 - length r)) 0
    in_right h k =
        let x : List ℕ = l ++ replicate (8 - (length l + length r)) 0 in
        let j : i ≡ length x + (i - (8 - length r)) = omega (arith, gap-long) in
        ap (λ (n : ℕ). get_or (x ++ r) n 0) j ∙ get_or-append-add x r (i - (8 - length r)) 0

    group-held : i < 8 → group_at (holding l) (holding r) i ≡ get_or (eight l r) i 0
    unfolding group_at
    group-held k = by (ltb i (length l)) (ltb i (8 - length r)) refl refl
      where
        by : (t u : Bool) → ltb i (length l) ≡ t → ltb i (8 - length r) ≡ u
            → pick t (get_or (l ++ replicate (8 - length l) 0) i 0) (pick u 0 (get_or (r ++ replicate (8 - length r) 0) (i - (8 - length r)) 0)) ≡ get_or (eight l r) i 0
        by true u e f =
            let h : i < length l = ltb-true i (length l) e in
            get_or-append l (replicate (8 - length l) 0) 0 i h ∙ sym (in_left h)
        by false true e f = sym (in-gap (ltb-false i (length l) e) (ltb-true i (8 - length r) f))
        by false false e f =
            let h : 8 - length r ≤ i = ltb-false i (8 - length r) f in
            get_or-append r (replicate (8 - length r) 0) 0 (i - (8 - length r)) (omega arith) ∙ sym (in_right h k)

  pub quad-held : (k : ℕ) → k ≤ 4 → quad_at (holding l) (holding r) k ≡ quad (eight l r) k
  unfolding quad_at quad
  quad-held k h = rw (group-held k (omega arith), group-held (k + 1) (omega arith), group-held (k + 2) (omega arith), group-held (k + 3) (omega arith))
