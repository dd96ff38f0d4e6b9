use Prim.Native.Nat.{◌+◌, ◌≤◌}
use lib.ListN.{length}
use mathlib.Core.Path.{sym, ◌∙◌}
use mathlib.Core.List.{[], ◌∷◌}
use native.Mathlib.Omega.{arith}
use Rattle.byte.proofs.Writing.{put_one, written-room, after-room, written-short, after-short}
use Rattle.byte.proofs.put.Goals as goal

pub returns-then-dst-at : goal.returns-then-dst-at
returns-then-dst-at c =
    let a = c.args in
    record { value = sym (after-short a.dst.now a.at (a.b ∷ []) (omega arith)); dst_after = sym (written-short a.dst.now a.at (a.b ∷ []) (omega arith)) }

pub returns : goal.returns
returns c =
    let a = c.args in
    let h : a.at + 1 ≤ length a.dst.now = omega arith in
    record { value = sym (after-room a.dst.now a.at (a.b ∷ []) h); dst_after = put_one a.dst.now a.at a.b (omega arith) ∙ sym (written-room a.dst.now a.at (a.b ∷ []) h) }
