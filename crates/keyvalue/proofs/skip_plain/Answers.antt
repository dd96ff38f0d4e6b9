-- `skip_plain` meets its contract: each byte that it passes over is one more of the value. Assumes nothing.
use mathlib.Core.Path.{◌≡◌, refl}
use Prim.Native.Nat.{◌+◌, ◌-◌}
use lib.ListN.{length, drop, length-drop}
use Rattle.std.proofs.Common.{rules, tests, arith}
use Rattle.std.proofs.lemmas.Iterator.{YieldsList-from_slice}
use Rattle.std.proofs.lemmas.Iterator.Search.{position_from_yields_List}
use Rattle.byte.proofs.Scan.{place_found, place_none}
use Rattle.keyvalue.proofs.Run.{ends_run, run_len, run-within, Skipped, skipped}
use Rattle.keyvalue.proofs.skip_plain.Goals as goal

pub returns-then-s-at : goal.returns-then-s-at
returns-then-s-at c = (omega arith, omega arith, refl, omega arith)

pub returns-in-Some : goal.returns-in-Some
returns-in-Some c =
    let a = c.args in
    let is = position_from_yields_List ends_run _ _ c.position.result c.position.ensures.ran (YieldsList-from_slice _ c.iter.ensures.rest) (λ x b q k. search (rules, tests)) in
    let e = place_found ends_run a.s.now a.at c.position.result is c.in-Some.k c.in-Some.is in
    let p = skipped a.s.now a.at _ e in
    (omega arith, omega (arith, e, run-within a.s.now a.at), p.to, p.len)

pub returns-in-None : goal.returns-in-None
returns-in-None c =
    let a = c.args in
    let is = position_from_yields_List ends_run _ _ c.position.result c.position.ensures.ran (YieldsList-from_slice _ c.iter.ensures.rest) (λ x b q k. search (rules, tests)) in
    let e = place_none ends_run a.s.now a.at c.position.result is c.in-None.is in
    let k : run_len (drop a.at a.s.now) ≡ length a.s.now - a.at = omega (arith, e, run-within a.s.now a.at, length-drop a.at a.s.now) in
    let whole : a.at + (length a.s.now - a.at) ≡ length a.s.now = omega arith in
    let p : Skipped a.s.now a.at (length a.s.now) = rw whole at (skipped a.s.now a.at _ k) in
    (omega arith, omega arith, p.to, p.len)
