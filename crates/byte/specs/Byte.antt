-- Choices and ranges, in which every other definition is written.
-- Assumes nothing.
use Rattle.std.specs.Prelude.{ℕ, ◌-◌, Bool, true, false, ◌&&◌, List, leb, take, drop}

-- one of two by a test
abbrev pub pick : {A : Type 0} → Bool → A → A → A
pick true a b = a
pick false a b = b

-- lo ≤ c ≤ hi
unfoldable pub between : ℕ → ℕ → ℕ → Bool
between lo hi c = leb lo c && leb c hi

-- the bytes of s from the place a up to the place e, as far as they stand there
unfoldable pub part_of : ℕ → ℕ → List ℕ → List ℕ
part_of a e s = take (e - a) (drop a s)
