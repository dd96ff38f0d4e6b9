-- `skip_ascii` meets its contract: an ASCII byte is a character, so that a text is well formed as it is behind it. Assumes nothing.
use mathlib.Core.Path.{◌≡◌}
use mathlib.Core.Bool.{not}
use Prim.Native.Nat.{◌+◌, ◌-◌}
use lib.Dec.{leb}
use lib.ListN.{length, drop, length-drop}
use Rattle.std.proofs.Common.{rules, tests, arith}
use Rattle.std.proofs.lemmas.Iterator.{YieldsList-from_slice}
use Rattle.std.proofs.lemmas.Iterator.Search.{position_from_yields_List}
use Rattle.std.proofs.lemmas.List.Sums.{prefix_len-le-length}
use Rattle.byte.proofs.Scan.{place_found, place_none}
use Rattle.utf8_valid.proofs.Ascii.{run, run-behind}
use Rattle.utf8_valid.proofs.skip_ascii.Goals as goal

pub returns-in-Some : goal.returns-in-Some
returns-in-Some c =
    let a = c.args in
    let is = position_from_yields_List (λ b. leb 0x80 b) _ _ c.position.result c.position.ensures.ran (YieldsList-from_slice _ c.iter.ensures.rest) (λ x b q k. search (rules, tests)) in
    let e = place_found (λ b. leb 0x80 b) a.s.now a.at c.position.result is c.in-Some.k c.in-Some.is in
    let most = prefix_len-le-length (λ b. not (leb 0x80 b)) (drop a.at a.s.now) in
    (omega arith, omega (arith, e, most, length-drop a.at a.s.now), run-behind a.s.now a.at _ e)

pub returns-in-None : goal.returns-in-None
returns-in-None c =
    let a = c.args in
    let is = position_from_yields_List (λ b. leb 0x80 b) _ _ c.position.result c.position.ensures.ran (YieldsList-from_slice _ c.iter.ensures.rest) (λ x b q k. search (rules, tests)) in
    let e = place_none (λ b. leb 0x80 b) a.s.now a.at c.position.result is c.in-None.is in
    let most = prefix_len-le-length (λ b. not (leb 0x80 b)) (drop a.at a.s.now) in
    let k : run (drop a.at a.s.now) ≡ length a.s.now - a.at = omega (arith, e, most, length-drop a.at a.s.now) in
    let whole : a.at + (length a.s.now - a.at) ≡ length a.s.now = omega arith in
    (omega arith, omega arith, rw whole at (run-behind a.s.now a.at _ k))
