-- Laws of parts of a text.
-- Assumes nothing.
use mathlib.Core.Path.{◌≡◌, refl, sym, ◌∙◌}
use mathlib.Core.List.{List, []}
use Prim.Native.Nat.{ℕ, ◌-◌, ◌≤◌}
use native.Mathlib.Omega.{arith}
use native.Mathlib.Nat.{sub-zero}
use lib.ListN.{length, take, drop, length-take, length-drop, drop_of_length-le}
use lib.Seq.{take-nil, take_all, take-length}
use Rattle.byte.specs.Byte.{part_of}

module _ (a e : ℕ) (s : List ℕ) where
  -- what a part is, in the library's words
  pub part-is : part_of a e s ≡ take (e - a) (drop a s)
  unfolding part_of
  part-is = refl

  pub part-empty : e ≤ a → part_of a e s ≡ []
  unfolding part_of
  part-empty h = let z : e - a ≡ 0 = omega arith in rw z

  pub part-past : length s ≤ a → part_of a e s ≡ []
  unfolding part_of
  part-past h = rw (drop_of_length-le s h) (take-nil (e - a))

  -- a part that would end past the end
  pub part-rest : length s ≤ e → part_of a e s ≡ take (length s - a) (drop a s)
  unfolding part_of
  part-rest h = take_all (e - a) (drop a s) (omega (arith, length-drop a s)) ∙ sym (take_all (length s - a) (drop a s) (omega (arith, length-drop a s)))

  pub part_length : a ≤ e → e ≤ length s → length (part_of a e s) ≡ e - a
  unfolding part_of
  part_length h k = length-take (e - a) (drop a s) ∙ omega (arith, length-drop a s)

  pub part-most : length (part_of a e s) ≤ length s - a
  unfolding part_of
  part-most = omega (arith, length-take (e - a) (drop a s), length-drop a s)

  pub part-short : length (part_of a e s) ≤ e - a
  unfolding part_of
  part-short = omega (arith, length-take (e - a) (drop a s))

-- the whole is a part
pub part-whole : (s : List ℕ) → part_of 0 (length s) s ≡ s
unfolding part_of
part-whole s = rw sub-zero (take-length s)
