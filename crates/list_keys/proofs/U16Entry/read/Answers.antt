use Rattle.std.proofs.Common.{rules}
use Rattle.list_keys.proofs.Steps.{port-empty, port-full}
use Rattle.list_keys.proofs.U16Entry.read.Goals as goal

pub returns-then-is_empty : goal.returns-then-is_empty
returns-then-is_empty c =
    port-empty c.args.piece.now (search rules)

pub returns-in_err-read_u16 : goal.returns-in_err-read_u16
returns-in_err-read_u16 c =
    rw (← port-full c.args.piece.now (search rules)) (search rules)

pub returns : goal.returns
returns c =
    rw (← port-full c.args.piece.now (search rules)) (search rules)
