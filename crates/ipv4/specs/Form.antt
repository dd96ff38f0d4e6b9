-- What an IPv4 address looks like, as a relation: the definition of `V4` computes it, and proofs/Form.antt says so both ways.
-- Assumes nothing.
use Rattle.std.specs.Prelude.{ℕ, ◌+◌, ◌*◌, ◌^◌, ◌<◌, ◌≤◌, ◌≡◌, true, List, [], ◌∷◌, length, get_or}
use Rattle.number.specs.Digits.{all_digits, value_in}
use Rattle.split.specs.Split.{join}

-- p is a part that stands for n: decimal digits, a `0` (byte 48) in front only of nothing, and at most 255
pub record PartText (p : List ℕ) (n : ℕ) : Type 0 where
  pub some : 0 < length p
  pub digits : all_digits 10 p ≡ true
  pub plain : get_or p 0 0 ≡ 48 → length p ≡ 1
  pub means : n ≡ value_in 10 p
  pub low : n ≤ 255

-- s is four parts with a `.` (byte 46) between each two, and stands for v
pub record V4Text (s : List ℕ) (v : ℕ) : Type 0 where
  pub p : List ℕ
  pub q : List ℕ
  pub r : List ℕ
  pub t : List ℕ
  pub a : ℕ
  pub b : ℕ
  pub c : ℕ
  pub d : ℕ
  pub first : PartText p a
  pub second : PartText q b
  pub third : PartText r c
  pub fourth : PartText t d
  pub text : s ≡ join 46 (p ∷ q ∷ r ∷ t ∷ [])
  pub means : v ≡ a * 2 ^ 24 + b * 2 ^ 16 + c * 2 ^ 8 + d
