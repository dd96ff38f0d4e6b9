-- Addresses in text: IPv6 as RFC 4291, section 2.2, says, or IPv4.
-- Assumes nothing.
use Rattle.std.specs.Prelude.{ℕ, ◌+◌, ◌-◌, true, false, List, ◌++◌, eqb, leb, ltb, length, take, drop, replicate}
use Rattle.std.specs.Prelude.{Option, Some, None}
use Rattle.byte.specs.Byte.{pick}
use Rattle.split.specs.Split.{split}
use Rattle.ipv4.specs.V4.{v4_of}
use Rattle.address.specs.declared.Kind.{Kind}
use Rattle.address.specs.declared.Address.{Address}
unfoldable pub use Rattle.groups.specs.Eight.{quad}
unfoldable pub use Rattle.group_text.specs.Text.{group_of, groups_of, side_of, gap_at}

-- eight groups are an address
abbrev pub v6 : List ℕ → Option Address
v6 gs = Some (record { kind = Kind.V6 (quad gs 0) (quad gs 4) })

-- "x:x:x:x:x:x:x:x": eight groups
abbrev pub whole : Option (List ℕ) → Option Address
whole None = None
whole (Some gs) = pick (eqb (length gs) 8) (v6 gs) None

-- "'::' indicates one or more groups of 16 bits of zeros"
abbrev pub around : Option (List ℕ) → Option (List ℕ) → Option Address
around None r = None
around (Some l) None = None
around (Some l) (Some r) =
    pick (leb (length l + length r) 7) (v6 (l ++ replicate (8 - (length l + length r)) 0 ++ r)) None

-- "The '::' can only appear once in an address": a second one would leave an empty piece behind the first, and no group is empty
unfoldable pub v6_of : List ℕ → Option Address
v6_of s =
    pick (ltb (gap_at s) (length s))
    (around (side_of false (take (gap_at s) s)) (side_of true (drop (gap_at s + 2) s)))
    (whole (groups_of true (split 58 s)))

-- an IPv4 address, or an IPv6 address
abbrev pub either : Option ℕ → Option Address → Option Address
either (Some v) six = Some (record { kind = Kind.V4 v })
either None six = six

unfoldable pub address_of : List ℕ → Option Address
address_of s = either (v4_of s) (v6_of s)
