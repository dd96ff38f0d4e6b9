use mathlib.Core.Path.{refl, sym, ◌∙◌}
use Rattle.names.proofs.Runs.{from_first, found, passed, spent}
use Rattle.names.proofs.number_among.Goals as goal

pub loop-k-init : goal.loop-k-init
loop-k-init c =
    from_first c.args.first c.args.n _ c.requires refl c.args.s.now

pub returns-then-is_name : goal.returns-then-is_name
returns-then-is_name c =
    sym (c.loop-k.invariant ∙ found c.args.first c.args.n _ c.requires refl c.args.s.now c.loop-k.k c.loop-k-test.true (sym c.if-is_name.true ∙ c.is_name.ensures))

pub loop-k-preserved : goal.loop-k-preserved
loop-k-preserved c =
    c.loop-k.invariant ∙ passed c.args.first c.args.n _ c.requires refl c.args.s.now c.loop-k.k c.loop-k-test.true (sym c.if-is_name.false ∙ c.is_name.ensures)

pub returns : goal.returns
returns c =
    sym (c.loop-k.invariant ∙ spent c.args.first c.args.n _ c.requires refl c.args.s.now c.loop-k.k c.loop-k-test.false)
