-- The line of a refusal: its parts, written one behind the other, are the line, and a report's buffer has room for it.
-- Assumes nothing.
use Prim.Native.Nat.{ℕ, ◌+◌, ◌≤◌}
use mathlib.Core.Path.{◌≡◌, ◌∙◌}
use mathlib.Core.List.{List, [], ◌∷◌, ◌++◌}
use native.Mathlib.Omega.{arith}
use lib.ListN.{length, length-append}
use Rattle.byte.specs.Ascii.{bytes}
use Rattle.byte.specs.Put.{put, written, after}
use Rattle.byte.proofs.Writing.{written-room, after-room, written-append, after-append}
use Rattle.decimal.specs.Decimal.{decimal}
use Rattle.decimal.proofs.Laws.{decimal-most}
use Rattle.refusal_line.specs.Refusal.{refusal_line}

abbrev word : List ℕ
word = bytes "refused "

numbered-most : (n : ℕ) → length (word ++ decimal n) ≤ 28
numbered-most n = omega (arith, length-append word (decimal n), decimal-most n)

pub line-most : (n : ℕ) → length (refusal_line n) ≤ 29
unfolding refusal_line
line-most n = omega (arith, length-append (word ++ decimal n) (10 ∷ []), numbered-most n)

-- y written behind x, where both have room
module _ (d x y : List ℕ) (room : 0 + length (x ++ y) ≤ length d) (k : ℕ) (d' : List ℕ) (e : k ≡ after d 0 x) (f : d' ≡ written d 0 x) where
  after_both : after d' k y ≡ after d 0 (x ++ y)
  after_both = rw (e, f) (after-append d 0 x y room)

  written_both : written d' k y ≡ written d 0 (x ++ y)
  written_both = rw (e, f) (written-append d 0 x y room)

pub line-written : (n : ℕ) (d : List ℕ) → 29 ≤ length d
    → (k : ℕ) (a : List ℕ) → k ≡ after d 0 word → a ≡ written d 0 word
    → (l : ℕ) (b : List ℕ) → l ≡ after a k (decimal n) → b ≡ written a k (decimal n)
    → (m : ℕ) (c : List ℕ) → m ≡ after b l (10 ∷ []) → c ≡ written b l (10 ∷ [])
    → (m ≡ length (refusal_line n)) × (c ≡ put d 0 (refusal_line n))
unfolding refusal_line
line-written n d h k a e f l b g i m c j o =
    let x : List ℕ = word ++ decimal n in
    let y : List ℕ = 10 ∷ [] in
    let few : 0 + length x ≤ length d = omega (arith, numbered-most n) in
    let room : 0 + length (x ++ y) ≤ length d = omega (arith, line-most n) in
    let p = g ∙ after_both d word (decimal n) few k a e f in
    let q = i ∙ written_both d word (decimal n) few k a e f in
    let z : 0 + length (x ++ y) ≡ length (x ++ y) = omega arith in (
      j ∙ after_both d x y room l b p q ∙ after-room d 0 (x ++ y) room ∙ z,
      o ∙ written_both d x y room l b p q ∙ written-room d 0 (x ++ y) room,
    )
