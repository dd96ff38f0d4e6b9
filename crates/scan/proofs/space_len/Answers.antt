-- `space_len` meets its contract: a blank, a solid byte, or any other character by its code point. Assumes nothing.
use mathlib.Core.Path.{sym, ap, ◌∙◌}
use mathlib.Core.Bool.{true, false}
use Rattle.scan.specs.Scan.{solid}
use Rattle.scan.proofs.Rules.{blank-len, solid-len, read-len}
use Rattle.scan.proofs.space_len.Goals as goal

pub returns-then-b-eq32 : goal.returns-then-b-eq32
returns-then-b-eq32 c =
    let a = c.args in
    sym (blank-len a.s.now a.at (sym c.at-b.ensures ∙ c.if-b-eq32.true))

pub returns-then-is_solid : goal.returns-then-is_solid
returns-then-is_solid c =
    let b = c in
    let a = b.args in
    sym (solid-len a.s.now a.at (ap solid (sym b.at-b.ensures) ∙ sym c.is_solid.ensures ∙ c.if-is_solid.true))

pub returns-then-is_space : goal.returns-then-is_space
returns-then-is_space c =
    let r = c in
    let a = r.args in
    read-len a.s.now a.at r.char_at-c.result true r.char_at-c.ensures (sym c.if-is_space.true ∙ c.is_space.ensures)

pub returns : goal.returns
returns c =
    let r = c in
    let a = r.args in
    read-len a.s.now a.at r.char_at-c.result false r.char_at-c.ensures (sym c.if-is_space.false ∙ c.is_space.ensures)
