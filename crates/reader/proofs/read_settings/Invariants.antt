use Prim.Native.Nat.{◌≤◌}
use lib.ListN.{length}
use Rattle.taking.proofs.Next.{measure}
use Rattle.outcome.proofs.Going.{Going}
use Rattle.reader.proofs.Branches.{state}
use Rattle.reader.proofs.read_settings.Given as goal

abbrev pub invariant-loop-t : goal.invariant-loop-t
invariant-loop-t l = (length l.text ≤ length l.initial.decode) × Going l.text l.initial.decode l.uri 8194 l.decode (state l.config l.packed l.url) l.count

abbrev pub decreases-loop-t : goal.decreases-loop-t
decreases-loop-t l = measure l.text l.uri l.url
