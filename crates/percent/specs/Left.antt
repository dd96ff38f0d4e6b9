-- What is left to read of a text that is decoded a byte a turn.
-- Assumes nothing.
use Rattle.std.specs.Prelude.{ℕ, List}
use Rattle.percent.specs.declared.Pieces.{Pieces}
use Rattle.percent.specs.Percent.{decoded}

abbrev pub decoded_left : Pieces → List ℕ
decoded_left p = decoded p.rest.now
