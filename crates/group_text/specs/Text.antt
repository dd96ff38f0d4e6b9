-- Groups in text, as RFC 4291, section 2.2, says.
-- Assumes nothing.
use Rattle.std.specs.Prelude.{ℕ, suc, ◌^◌, ◌/◌, ◌%◌, Bool, true, false, List, [], ◌∷◌, leb, length, take}
use Rattle.std.specs.Prelude.{Option, Some, None, Result}
use Rattle.std.specs.Result.{result_ok}
use Rattle.byte.specs.Byte.{pick}
use Rattle.byte.specs.Same.{same}
use Rattle.number.specs.declared.NumberError.{NumberError}
use Rattle.number.specs.Number.{digits_in}
use Rattle.split.specs.Split.{split}
use Rattle.ipv4.specs.V4.{v4_of}
use Rattle.groups.specs.declared.Groups.{Groups}
use Rattle.groups.specs.Eight.{pushed_some}

-- what was read within a range, as a group
abbrev pub as_group : Result ℕ NumberError → Option ℕ
as_group = result_ok

-- RFC 4291: "one to four hexadecimal digits", of either case
unfoldable pub group_of : List ℕ → Option ℕ
group_of p = pick (leb (length p) 4) (as_group (digits_in 16 65535 p)) None

-- a group in front of others, and one alone
abbrev pub before : Option ℕ → Option (List ℕ) → Option (List ℕ)
before (Some g) (Some gs) = Some (g ∷ gs)
before (Some g) None = None
before None gs = None

abbrev pub alone : Option ℕ → Option (List ℕ)
alone (Some g) = Some (g ∷ [])
alone None = None

-- "the 'd's are the decimal values of the four low-order 8-bit pieces of the address": an IPv4 text stands for two groups
abbrev pub tail_of : Option ℕ → Option (List ℕ) → Option (List ℕ)
tail_of (Some v) g = Some (v / 2 ^ 16 ∷ v % 2 ^ 16 ∷ [])
tail_of None g = g

-- the last piece: a group, or an IPv4 text where one may stand
abbrev pub last_of : Bool → List ℕ → Option (List ℕ)
last_of true p = tail_of (v4_of p) (alone (group_of p))
last_of false p = alone (group_of p)

-- the groups that pieces stand for
unfoldable pub groups_of : Bool → List (List ℕ) → Option (List ℕ)
groups_of tail [] = None
groups_of tail (p ∷ []) = last_of tail p
groups_of tail (p ∷ q ∷ ps) = before (group_of p) (groups_of tail (q ∷ ps))

-- what stands on one side of a `::`: nothing, or groups with a `:` (byte 58) between each two
unfoldable pub side_of : Bool → List ℕ → Option (List ℕ)
side_of tail [] = Some []
side_of tail (a ∷ s) = groups_of tail (split 58 (a ∷ s))

-- the place of the first `::`, or the length where there is none
unfoldable pub gap_at : List ℕ → ℕ
gap_at [] = 0
gap_at (a ∷ s) = pick (same (take 2 (a ∷ s)) (58 ∷ 58 ∷ [])) 0 (suc (gap_at s))

-- what the code holds with those of the last piece
abbrev pub pushed_last : Bool → Option Groups → List ℕ → Option Groups
pushed_last tail g p = pushed_some g (last_of tail p)
