-- IPv4 addresses in text, four decimal parts.
-- Assumes nothing.
use Rattle.std.specs.Prelude.{ℕ, ◌+◌, ◌*◌, ◌^◌, Bool, ◌&&◌, List, [], ◌∷◌, eqb, ltb, length, get_or}
use Rattle.std.specs.Result.{result_ok}
use Rattle.byte.specs.Byte.{pick}
use Rattle.std.specs.Prelude.{Option, Some, None, Result}
use Rattle.number.specs.declared.NumberError.{NumberError}
use Rattle.number.specs.Number.{digits_in}
use Rattle.split.specs.Split.{split}

-- what was read within a range, as a part
abbrev pub as_part : Result ℕ NumberError → Option ℕ
as_part = result_ok

-- a `0` (byte 48) with more behind it
abbrev pub zero_led : List ℕ → Bool
zero_led p = eqb (get_or p 0 0) 48 && ltb 1 (length p)

-- "decimal parts 0 to 255, no leading zero unless the part is `0`"
unfoldable pub part_of : List ℕ → Option ℕ
part_of p = pick (zero_led p) None (as_part (digits_in 10 255 p))

-- "value a·2^24 + b·2^16 + c·2^8 + d"
abbrev pub four_of : Option ℕ → Option ℕ → Option ℕ → Option ℕ → Option ℕ
four_of (Some a) (Some b) (Some c) (Some d) = Some (a * 2 ^ 24 + b * 2 ^ 16 + c * 2 ^ 8 + d)
four_of (Some a) (Some b) (Some c) None = None
four_of (Some a) (Some b) None d = None
four_of (Some a) None c d = None
four_of None b c d = None

-- "four" of them
unfoldable pub parts_of : List (List ℕ) → Option ℕ
parts_of [] = None
parts_of (a ∷ []) = None
parts_of (a ∷ b ∷ []) = None
parts_of (a ∷ b ∷ c ∷ []) = None
parts_of (a ∷ b ∷ c ∷ d ∷ []) = four_of (part_of a) (part_of b) (part_of c) (part_of d)
parts_of (a ∷ b ∷ c ∷ d ∷ e ∷ ps) = None

-- an IPv4 address: parts with a `.` (byte 46) between each two
unfoldable pub v4_of : List ℕ → Option ℕ
v4_of s = parts_of (split 46 s)

-- a part behind the number v of those before it, on the way to the four
abbrev pub with_part : ℕ → Option ℕ → Option ℕ
with_part v (Some p) = Some (v * 256 + p)
with_part v None = None
