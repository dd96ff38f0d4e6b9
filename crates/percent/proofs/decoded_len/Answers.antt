-- `decoded_len` meets its contract: the bytes that are decoded are counted, and they are no more than the text has. Assumes nothing.
use mathlib.Core.Path.{ap}
use mathlib.Core.Logic.{inl}
use native.Mathlib.Omega.{arith}
use lib.ListN.{length}
use Rattle.percent.proofs.Laws.{shorter}
use Rattle.percent.proofs.decoded_len.Goals as goal

pub count-requires-clause-fits : goal.count-requires-clause-fits
count-requires-clause-fits c = inl (omega (arith, ap length c.decoding.ensures, shorter c.args.s.now))
