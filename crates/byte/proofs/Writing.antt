-- Laws of writing into lent memory: what stands where after a write, and what a run of writes comes to.
-- Assumes nothing.
use mathlib.Core.Path.{◌≡◌, refl, sym, ap, ◌∙◌}
use mathlib.Core.Bool.{Bool, true, false}
use mathlib.Core.List.{List, [], ◌∷◌, ◌++◌, append_assoc, append-nil}
use Prim.Native.Nat.{ℕ, suc, ◌+◌, ◌<◌, ◌≤◌}
use native.Mathlib.Numerals.{add-one}
use native.Mathlib.Nat.{add-zero}
use native.Mathlib.Omega.{arith}
use lib.ListN.{length, take, drop, set, length-append, length-drop, take-append-drop}
use lib.Seq.{take_at, drop_at, length-take-le, drop-append-add, drop-drop, set_split, append_snoc}
use borrow.Author.Tests.{le-leb, lt-leb, leb-true}
use borrow.Rule.Slice.PartMut.{put_mid}
use Rattle.byte.specs.Byte.{pick}
use Rattle.byte.specs.Put.{put, fits, written, after}

-- nothing, written anywhere
pub put-nil : (d : List ℕ) (at : ℕ) → put d at [] ≡ d
unfolding put
put-nil d at = rw (append-nil (take at d), add-zero at) (take-append-drop at d)

pub written-nil : (d : List ℕ) (at : ℕ) → written d at [] ≡ d
unfolding written
written-nil d at = by (fits d at [])
  where
    by : (t : Bool) → pick t (put d at []) d ≡ d
    by true = put-nil d at
    by false = refl

pub after-nil : (d : List ℕ) (at : ℕ) → after d at [] ≡ at
unfolding after
after-nil d at = by (fits d at [])
  where
    by : (t : Bool) → pick t (at + 0) at ≡ at
    by true = add-zero at
    by false = refl

-- one byte
pub put_one : (d : List ℕ) (at b : ℕ) → at < length d → set d at b ≡ put d at (b ∷ [])
unfolding put
put_one d at b h = set_split d at b h ∙ sym (rw add-one (append_snoc (take at d) b (drop (suc at) d)))

module _ (d : List ℕ) (at : ℕ) (x : List ℕ) (room : at + length x ≤ length d) where
  head-long : length (take at d ++ x) ≡ at + length x
  head-long = length-append (take at d) x ∙ ap (λ (n : ℕ). n + length x) (length-take-le at d (omega arith))

  pub length-put : length (put d at x) ≡ length d
  unfolding put
  length-put = length-append (take at d ++ x) (drop (at + length x) d) ∙ omega (arith, head-long, length-drop (at + length x) d)

  -- the bytes before, in the place, and behind it
  pub before-put : take at (put d at x) ≡ take at d
  unfolding put
  before-put = rw (append_assoc (take at d) x (drop (at + length x) d)) (take_at (take at d) (x ++ drop (at + length x) d) at (length-take-le at d (omega arith)))

  pub part-put : take (length x) (drop at (put d at x)) ≡ x
  unfolding put
  part-put =
      rw (append_assoc (take at d) x (drop (at + length x) d), drop_at (take at d) (x ++ drop (at + length x) d) at (length-take-le at d (omega arith)))
      (take_at x (drop (at + length x) d) (length x) refl)

  pub behind-put : drop (at + length x) (put d at x) ≡ drop (at + length x) d
  unfolding put
  behind-put = drop_at (take at d ++ x) (drop (at + length x) d) (at + length x) head-long

  -- with room, a write is a put
  pub fits-room : fits d at x ≡ true
  unfolding fits
  fits-room = le-leb _ _ room

  pub written-room : written d at x ≡ put d at x
  unfolding written
  written-room = rw fits-room

  pub after-room : after d at x ≡ at + length x
  unfolding after
  after-room = rw fits-room

  -- two writes, one behind the other, are one
  pub put-append : (y : List ℕ) → put (put d at x) (at + length x) y ≡ put d at (x ++ y)
  unfolding put
  put-append y =
      let P : List ℕ = take at d ++ x in
      let R : List ℕ = drop (at + length x) d in
      let q : length P + length y ≡ at + length x + length y = ap (λ (n : ℕ). n + length y) head-long in
      let r : at + length x + length y ≡ at + length (x ++ y) = omega (arith, length-append x y) in
      ap (λ (l : List ℕ). l ++ y ++ drop (at + length x + length y) (P ++ R)) (take_at P R (at + length x) head-long)
      ∙ ap (λ (l : List ℕ). P ++ y ++ l) (ap (λ (n : ℕ). drop n (P ++ R)) (sym q) ∙ drop-append-add P R (length y) ∙ drop-drop (length y) (at + length x) d ∙ ap (λ (n : ℕ). drop n d) r)
      ∙ ap (λ (l : List ℕ). l ++ drop (at + length (x ++ y)) d) (append_assoc (take at d) x y)

module _ (d : List ℕ) (at : ℕ) (x : List ℕ) where
  -- without room nothing is written
  module _ (short : length d < at + length x) where
    pub fits-short : fits d at x ≡ false
    unfolding fits
    fits-short = lt-leb _ _ short

    pub written-short : written d at x ≡ d
    unfolding written
    written-short = rw fits-short

    pub after-short : after d at x ≡ at
    unfolding after
    after-short = rw fits-short

  -- a write keeps the length, whether it has room or not
  pub length-written : length (written d at x) ≡ length d
  unfolding written fits
  length-written = by (fits d at x) refl
    where
      by : (t : Bool) → fits d at x ≡ t → length (pick t (put d at x) d) ≡ length d
      by true e = length-put d at x (leb-true _ _ e)
      by false e = refl

  -- two writes that have room together are one
  module _ (y : List ℕ) (room : at + length (x ++ y) ≤ length d) where
    first : at + length x ≤ length d
    first = omega (arith, length-append x y)

    second : at + length x + length y ≤ length (put d at x)
    second = omega (arith, length-append x y, length-put d at x first)

    pub written-append : written (written d at x) (after d at x) y ≡ written d at (x ++ y)
    written-append =
        rw (written-room d at x first, after-room d at x first, written-room (put d at x) (at + length x) y second, written-room d at (x ++ y) room)
        (put-append d at x first y)

    pub after-append : after (written d at x) (after d at x) y ≡ after d at (x ++ y)
    after-append =
        rw (written-room d at x first, after-room d at x first, after-room (put d at x) (at + length x) y second, after-room d at (x ++ y) room)
        (omega (arith, length-append x y))

-- a part of lent memory written whole, in the library's words
pub put_mid-written : (d : List ℕ) (at : ℕ) (x : List ℕ) → at + length x ≤ length d → (k : ℕ) (y : List ℕ) → k ≡ length x → y ≡ x → put_mid at k d y ≡ written d at x
unfolding put
put_mid-written d at x room k y e f =
    rw (f, e, drop-drop (length x) at d, ← append_assoc) (sym (written-room d at x room))
