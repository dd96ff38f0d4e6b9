-- What the code makes of groups in an array of eight.
-- Assumes nothing.
use Rattle.std.specs.Prelude.{◌+◌, [], eqb, leb, Option, Some, None}
use Rattle.byte.specs.Byte.{pick}
use Rattle.groups.specs.declared.Groups.{Groups}
use Rattle.groups.specs.Eight.{holding, quad_at}
use Rattle.address.specs.declared.Kind.{Kind}
use Rattle.address.specs.declared.Address.{Address}

abbrev pub six_of : Groups → Groups → Option Address
six_of l r = Some (record { kind = Kind.V6 (quad_at l r 0) (quad_at l r 4) })

unfoldable pub whole_at : Option Groups → Option Address
whole_at None = None
whole_at (Some g) = pick (eqb g.n 8) (six_of g (holding [])) None

unfoldable pub around_at : Option Groups → Option Groups → Option Address
around_at None r = None
around_at (Some l) None = None
around_at (Some l) (Some r) = pick (leb (l.n + r.n) 7) (six_of l r) None
