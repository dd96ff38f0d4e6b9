-- `group_text::push_last`: the last piece is a group, or the two groups of an IPv4 text.
-- Assumes nothing.
use Prim.Native.Nat.{◌%◌, ◌^◌}
use mathlib.Core.Path.{sym, ap, ◌∙◌}
use borrow.Author.Tests.{not-true, not-false}
use Rattle.std.specs.Prelude.{Option, Some}
use Rattle.groups.specs.declared.Groups.{Groups}
use Rattle.groups.specs.Eight.{pushed}
use Rattle.group_text.proofs.Reading.{last-plain, last-four, last-group}
use Rattle.group_text.proofs.push_last.Goals as goal

pub returns-then-not-tail : goal.returns-then-not-tail
returns-then-not-tail c =
    let t = c in
    let a = t.args in
    c.push.ensures ∙ ap (pushed a.g) c.read_group.ensures ∙ last-plain a.g a.p.now a.tail (not-true a.tail t.if-not-tail.true-raw)

pub returns-in-Some : goal.returns-in-Some
returns-in-Some c =
    let k = c in
    let v = k in
    let a = v.args in
    let n = k.in-Some.v in
    c.push-in-Some-2.ensures ∙ ap (λ (g : Option Groups). pushed g (Some (n % 2 ^ 16))) c.push-in-Some.ensures
    ∙ last-four a.g a.p.now a.tail (not-false a.tail v.if-not-tail.false-raw) n (sym v.read_v4.ensures ∙ k.in-Some.is)

pub returns-in-None : goal.returns-in-None
returns-in-None c =
    let k = c in
    let v = k in
    let a = v.args in
    c.push-in-None.ensures ∙ ap (pushed a.g) c.read_group-in-None.ensures
    ∙ last-group a.g a.p.now a.tail (not-false a.tail v.if-not-tail.false-raw) (sym v.read_v4.ensures ∙ k.in-None.is)
