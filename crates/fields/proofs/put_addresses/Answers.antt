use Rattle.std.proofs.Common.{rules}
use Rattle.line.specs.Line.{address_value}
use Rattle.fields.proofs.put_addresses.Goals as goal

pub returns : goal.returns
returns c =
    rw c.used.ensures at (c.put_each.ensures 9 address_value (λ x d p q e called. search rules))
