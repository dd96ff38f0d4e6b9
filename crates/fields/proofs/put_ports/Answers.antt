use Rattle.std.proofs.Common.{rules}
use Rattle.line.specs.Line.{number_value}
use Rattle.fields.proofs.put_ports.Goals as goal

pub returns : goal.returns
returns c =
    rw c.used.ensures at (c.put_each.ensures 10 number_value (λ x d p q e called. search rules))
