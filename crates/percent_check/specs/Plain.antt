-- What scans tell of a text once decoded, and runs of plain bytes, which need no decoding and are UTF-8.
-- Assumes nothing.
use Rattle.std.specs.Prelude.{ℕ, suc, ◌+◌, Bool, ◌||◌, List, [], ◌∷◌, eqb, leb, length, drop}
use Rattle.byte.specs.Byte.{pick, part_of}
use Rattle.split.specs.Split.{first_at}
use Rattle.utf8.specs.Utf8.{well_formed}
use Rattle.percent.specs.Percent.{decoded}
use Rattle.percent_check.specs.declared.Checked.{Checked}
use Rattle.percent_check.specs.declared.Part.{Part}

-- what a scan that writes nothing tells of a text once decoded: its length, and whether it is UTF-8
abbrev pub checked : List ℕ → Checked
checked s = record { len = length (decoded s); utf8 = well_formed (decoded s) }

-- a byte that ends a run of plain ones: b, `%`, or one that is not ASCII
unfoldable pub ends_plain : ℕ → ℕ → Bool
ends_plain b a = eqb a b || eqb a 37 || leb 128 a

-- how many plain bytes a text begins with
unfoldable pub plain_until : ℕ → List ℕ → ℕ
plain_until b [] = 0
plain_until b (a ∷ s) = pick (ends_plain b a) 0 (suc (plain_until b s))

-- what a scan tells that has counted n bytes up to the place i, all of them UTF-8
abbrev pub checked_on : ℕ → ℕ → List ℕ → Checked
checked_on n i s = record { len = n + length (decoded (drop i s)); utf8 = well_formed (decoded (drop i s)) }

-- where the part from a place up to the first b ends, and what is told of it
abbrev pub checked_until : ℕ → ℕ → List ℕ → Part
checked_until b at s =
    record { end = at + first_at b (drop at s); judged = checked (part_of at (at + first_at b (drop at s)) s) }
