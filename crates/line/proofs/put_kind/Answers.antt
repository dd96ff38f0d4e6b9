use Rattle.line.proofs.put_kind.Goals as goal

pub returns-then-unix : goal.returns-then-unix
returns-then-unix c =
    let p = c in rw p.if-unix.true p.put_bytes.ensures

pub returns : goal.returns
returns c =
    let p = c in rw p.if-unix.false p.put_bytes-2.ensures
