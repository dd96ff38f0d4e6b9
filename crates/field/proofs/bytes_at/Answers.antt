use Rattle.field.proofs.Places.{bytes-cut}
use Rattle.field.proofs.bytes_at.Goals as goal

pub returns : goal.returns
returns c =
    bytes-cut _ _ _ _ c.min.ensures c.min-2.ensures
