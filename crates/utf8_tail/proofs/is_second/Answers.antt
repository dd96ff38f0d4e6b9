use Rattle.utf8_tail.proofs.is_second.Goals as goal

pub returns : goal.returns
returns c =
    cc
