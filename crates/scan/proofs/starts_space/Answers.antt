-- `starts_space` meets its contract: white space at a place: none begins with a solid byte, a blank is some, and any other character is looked up by its code point. Assumes nothing.
use mathlib.Core.Path.{sym, ap, ◌∙◌}
use Rattle.utf8.specs.declared.Char.{Char}
use Rattle.space.specs.Space.{is_space}
use Rattle.scan.specs.Scan.{solid, starts_space}
use Rattle.scan.proofs.Rules.{glance, blank-starts}
use Rattle.scan.proofs.starts_space.Goals as goal

pub returns-then-is_solid : goal.returns-then-is_solid
returns-then-is_solid c =
    let a = c.args in
    let b = c in
    sym (glance a.s.now a.at (ap solid (sym b.at-b.ensures) ∙ sym b.is_solid.ensures ∙ c.if-is_solid.true))

pub returns-then-b-eq32 : goal.returns-then-b-eq32
returns-then-b-eq32 c =
    let b = c in
    let a = b.args in
    sym (blank-starts a.s.now a.at (sym b.at-b.ensures ∙ c.if-b-eq32.true))

pub returns : goal.returns
unfolding starts_space
returns c =
    c.is_space.ensures ∙ ap (λ (x : Char). is_space x.code) c.char_at-c.ensures
