-- Groups in an array of eight, and what is held there of a list.
-- Assumes nothing.
use Rattle.std.specs.Prelude.{ℕ, ◌+◌, ◌-◌, ◌*◌, ◌^◌, List, [], ◌∷◌, ◌++◌, leb, ltb, length, get_or, set, replicate}
use Rattle.std.specs.Prelude.{Option, Some, None}
use Rattle.byte.specs.Byte.{pick}
use Rattle.groups.specs.declared.Groups.{Groups}

-- a list with zeros behind it
abbrev pub holding : List ℕ → Groups
holding gs = record { n = length gs; at = gs ++ replicate (8 - length gs) 0 }

-- what is held of a list: one of at most eight
unfoldable pub packed : Option (List ℕ) → Option Groups
packed None = None
packed (Some gs) = pick (leb (length gs) 8) (Some (holding gs)) None

-- one more
unfoldable pub pushed : Option Groups → Option ℕ → Option Groups
pushed None x = None
pushed (Some g) None = None
pushed (Some g) (Some x) = pick (ltb g.n 8) (Some (record { n = g.n + 1; at = set g.at g.n x })) None

-- several more
unfoldable pub pushed_all : Option Groups → List ℕ → Option Groups
pushed_all g [] = g
pushed_all g (x ∷ xs) = pushed_all (pushed g (Some x)) xs

abbrev pub pushed_some : Option Groups → Option (List ℕ) → Option Groups
pushed_some g None = None
pushed_some g (Some gs) = pushed_all g gs

-- four groups from the place k on as one number, the first one weighing most
unfoldable pub quad : List ℕ → ℕ → ℕ
quad gs k = get_or gs k 0 * 2 ^ 48 + get_or gs (k + 1) 0 * 2 ^ 32 + get_or gs (k + 2) 0 * 2 ^ 16 + get_or gs (k + 3) 0

-- the group at a place of eight: those of l first, those of r last, zeros between
unfoldable pub group_at : Groups → Groups → ℕ → ℕ
group_at l r i = pick (ltb i l.n) (get_or l.at i 0) (pick (ltb i (8 - r.n)) 0 (get_or r.at (i - (8 - r.n)) 0))

-- four of them as one number
unfoldable pub quad_at : Groups → Groups → ℕ → ℕ
quad_at l r k = group_at l r k * 2 ^ 48 + group_at l r (k + 1) * 2 ^ 32 + group_at l r (k + 2) * 2 ^ 16 + group_at l r (k + 3)
