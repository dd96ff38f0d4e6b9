-- `simple_value` meets its contract: goes by pieces until white space begins, and passes over what is seen at a glance, by the laws of a loop that does so. Assumes nothing.
use Rattle.keyvalue.specs.Scan.{starts_space}
use mathlib.Core.Path.{◌≡◌, refl, sym, ◌∙◌}
use mathlib.Core.Bool.{false}
use Prim.Native.Nat.{◌+◌, ◌-◌}
use native.Mathlib.Omega.{arith}
use lib.ListN.{drop}
use Rattle.backslash.proofs.Pieces.{gained-from}
use Rattle.keyvalue.proofs.Pieces.{Scanning, scan-start, scan-plain, scan-turn, scan-stop, scan-last, scan-past}
use Rattle.keyvalue.proofs.simple_value.Goals as goal

pub overflow_sub-len : goal.overflow_sub-len
overflow_sub-len c =
    c.skip_plain-plain.ensures.0

pub loop-i-init : goal.loop-i-init
loop-i-init c =
    let a = c.args in
    let p = c.skip_plain-plain in
    scan-plain starts_space a.s.now a.at a.at 0 (scan-start starts_space a.s.now a.at) p.result (p.result - a.at) (omega arith) p.ensures.0 p.ensures.2 p.ensures.3

pub returns-then-starts_space : goal.returns-then-starts_space
returns-then-starts_space c =
    scan-stop starts_space c.args.s.now c.args.at c.loop-i.i c.loop-i.len c.loop-i.invariant (sym c.starts_space.ensures ∙ c.if-starts_space.true)

pub returns-then-s-j : goal.returns-then-s-j
returns-then-s-j c =
    let here_on : starts_space (drop c.loop-i.i c.args.s.now) ≡ false = sym c.starts_space.ensures ∙ c.if-starts_space.false in
    scan-last starts_space c.args.s.now c.args.at c.loop-i.i c.loop-i.len c.loop-i.invariant (omega arith) here_on c.gained_at-j.result c.gained_at-j.ensures c.if-s-j.true

pub overflow_add-len : goal.overflow_add-len
overflow_add-len c =
    let here_on : starts_space (drop c.loop-i.i c.args.s.now) ≡ false = sym c.starts_space.ensures ∙ c.if-starts_space.false in
    let here_turn : Scanning starts_space c.args.s.now c.args.at (c.gained_at-j.result + 1) (c.loop-i.len + 1) = scan-turn starts_space c.args.s.now c.args.at c.loop-i.i c.loop-i.len c.loop-i.invariant (omega arith) here_on c.gained_at-j.result c.gained_at-j.ensures c.if-s-j.false in
    omega (arith, here_turn)

pub overflow_sub-len-in-loop-i : goal.overflow_sub-len-in-loop-i
overflow_sub-len-in-loop-i c =
    c.skip_plain-i.ensures.0

pub overflow_add-len-in-loop-i : goal.overflow_add-len-in-loop-i
overflow_add-len-in-loop-i c =
    let here_on : starts_space (drop c.loop-i.i c.args.s.now) ≡ false = sym c.starts_space.ensures ∙ c.if-starts_space.false in
    let here_turn : Scanning starts_space c.args.s.now c.args.at (c.gained_at-j.result + 1) (c.loop-i.len + 1) = scan-turn starts_space c.args.s.now c.args.at c.loop-i.i c.loop-i.len c.loop-i.invariant (omega arith) here_on c.gained_at-j.result c.gained_at-j.ensures c.if-s-j.false in
    omega (arith, here_turn, c.skip_plain-i.ensures.0)

pub loop-i-smaller : goal.loop-i-smaller
loop-i-smaller c =
    omega (arith, gained-from c.args.s.now c.loop-i.i (omega arith) c.gained_at-j.result c.gained_at-j.ensures, c.skip_plain-i.ensures.0)

pub loop-i-preserved : goal.loop-i-preserved
loop-i-preserved c =
    let here_on : starts_space (drop c.loop-i.i c.args.s.now) ≡ false = sym c.starts_space.ensures ∙ c.if-starts_space.false in
    let here_turn : Scanning starts_space c.args.s.now c.args.at (c.gained_at-j.result + 1) (c.loop-i.len + 1) = scan-turn starts_space c.args.s.now c.args.at c.loop-i.i c.loop-i.len c.loop-i.invariant (omega arith) here_on c.gained_at-j.result c.gained_at-j.ensures c.if-s-j.false in
    let p = c.skip_plain-i in
    scan-plain starts_space _ _ _ _ here_turn p.result _ refl p.ensures.0 p.ensures.2 p.ensures.3

pub returns : goal.returns
returns c =
    scan-past starts_space c.args.s.now c.args.at c.loop-i.i c.loop-i.len c.loop-i.invariant (omega arith)
