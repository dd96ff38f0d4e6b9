-- `quoted_value` meets its contract: goes by pieces until a quote stands there, by the laws of a loop that does so. Assumes nothing.
use Rattle.keyvalue.specs.Scan.{starts_quote}
use mathlib.Core.Path.{◌≡◌}
use mathlib.Core.Bool.{false}
use Prim.Native.Nat.{◌+◌}
use native.Mathlib.Omega.{arith}
use lib.ListN.{drop}
use Rattle.backslash.proofs.Pieces.{gained-from}
use Rattle.keyvalue.proofs.Pieces.{at-quote, no-quote, Scanning, scan-start, scan-turn, scan-stop, scan-last, scan-past}
use Rattle.keyvalue.proofs.quoted_value.Goals as goal

pub loop-i-init : goal.loop-i-init
loop-i-init c =
    scan-start _ _ _

pub returns-then-s-i-eq39 : goal.returns-then-s-i-eq39
returns-then-s-i-eq39 c =
    scan-stop starts_quote c.args.s.now c.args.at c.loop-i.i c.loop-i.len c.loop-i.invariant (at-quote c.args.s.now c.loop-i.i c.if-s-i-eq39.true)

pub returns-then-s-j : goal.returns-then-s-j
returns-then-s-j c =
    let here_on : starts_quote (drop c.loop-i.i c.args.s.now) ≡ false = no-quote c.args.s.now c.loop-i.i c.if-s-i-eq39.false in
    scan-last starts_quote c.args.s.now c.args.at c.loop-i.i c.loop-i.len c.loop-i.invariant (omega arith) here_on c.gained_at-j.result c.gained_at-j.ensures c.if-s-j.true

pub overflow_add-len : goal.overflow_add-len
overflow_add-len c =
    let here_on : starts_quote (drop c.loop-i.i c.args.s.now) ≡ false = no-quote c.args.s.now c.loop-i.i c.if-s-i-eq39.false in
    let here_turn : Scanning starts_quote c.args.s.now c.args.at (c.gained_at-j.result + 1) (c.loop-i.len + 1) = scan-turn starts_quote c.args.s.now c.args.at c.loop-i.i c.loop-i.len c.loop-i.invariant (omega arith) here_on c.gained_at-j.result c.gained_at-j.ensures c.if-s-j.false in
    omega (arith, here_turn)

pub loop-i-smaller : goal.loop-i-smaller
loop-i-smaller c =
    omega (arith, gained-from c.args.s.now c.loop-i.i (omega arith) c.gained_at-j.result c.gained_at-j.ensures)

pub loop-i-preserved : goal.loop-i-preserved
loop-i-preserved c =
    let here_on : starts_quote (drop c.loop-i.i c.args.s.now) ≡ false = no-quote c.args.s.now c.loop-i.i c.if-s-i-eq39.false in
    let here_turn : Scanning starts_quote c.args.s.now c.args.at (c.gained_at-j.result + 1) (c.loop-i.len + 1) = scan-turn starts_quote c.args.s.now c.args.at c.loop-i.i c.loop-i.len c.loop-i.invariant (omega arith) here_on c.gained_at-j.result c.gained_at-j.ensures c.if-s-j.false in
    here_turn

pub returns : goal.returns
returns c =
    scan-past starts_quote c.args.s.now c.args.at c.loop-i.i c.loop-i.len c.loop-i.invariant (omega arith)
