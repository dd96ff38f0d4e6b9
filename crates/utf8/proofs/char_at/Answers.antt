use mathlib.Core.Path.{sym, ◌∙◌}
use native.Mathlib.Omega.{arith}
use Rattle.utf8.proofs.Laws.{char-end, ascii, pair, beyond}
use Rattle.utf8.proofs.char_at.Goals as goal

pub returns-then-s-at : goal.returns-then-s-at
returns-then-s-at c =
    let b = c.args in sym (char-end b.s.now b.at c.if-s-at.true)

pub returns-then-a-lt128 : goal.returns-then-a-lt128
returns-then-a-lt128 c =
    let b = c.args in sym (ascii b.s.now b.at (omega arith) c.if-a-lt128.true)

pub returns-then-is_between : goal.returns-then-is_between
returns-then-is_between c =
    let e = c in
    let b = e.args in
    rw (c.read_two.ensures, c.at-b.ensures, pair b.s.now b.at (omega arith) e.if-a-lt128.false (sym c.is_between.ensures ∙ c.if-is_between.true))

pub returns : goal.returns
returns c =
    let e = c in
    let b = e.args in
    rw (c.read_longer.ensures, c.at-2.ensures, c.at.ensures, c.at-b.ensures, beyond b.s.now b.at (omega arith) e.if-a-lt128.false)
