-- `next` meets its contract: the piece in front, and what follows it. Assumes nothing.
use mathlib.Core.Path.{ap}
use native.Mathlib.Omega.{arith}
use lib.ListN.{length}
use Rattle.percent.proofs.Laws.{front-piece, front-fits, stop}
use Rattle.percent.proofs.PiecesIterator.next.Goals as goal

pub returns-then-self-eq0-clause-steps : goal.returns-then-self-eq0-clause-steps
returns-then-self-eq0-clause-steps c =
    let e = stop c.args.self.now.rest.now 0 (omega arith) in
    (e, e)

pub overflow_add-self : goal.overflow_add-self
overflow_add-self c = omega (arith, front-fits c.args.self.now.rest.now (omega arith) _ c.piece_at-p.ensures)

pub slice_bounds-self-count : goal.slice_bounds-self-count
slice_bounds-self-count c = front-fits c.args.self.now.rest.now (omega arith) _ c.piece_at-p.ensures

pub slice_bounds-self-start : goal.slice_bounds-self-start
slice_bounds-self-start c = front-fits c.args.self.now.rest.now (omega arith) _ c.piece_at-p.ensures

pub returns-clause-steps : goal.returns-clause-steps
returns-clause-steps c = front-piece c.args.self.now.rest.now (omega arith) _ c.piece_at-p.ensures

pub returns-clause-goes : goal.returns-clause-goes
returns-clause-goes c =
    let e = ap length (front-piece c.args.self.now.rest.now (omega arith) _ c.piece_at-p.ensures) in
    record { on = λ f. (tt, tt, omega (arith, e)); keeps = tt; rests = λ f. tt }
