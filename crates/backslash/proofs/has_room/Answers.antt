-- `has_room` meets its contract: a decoded value is never longer than it is written. Assumes nothing.
use mathlib.Core.Path.{sym, ap, ◌∙◌}
use Prim.Native.Nat.{ℕ, ◌+◌, ◌≤◌}
use native.Mathlib.Omega.{arith}
use lib.Dec.{leb}
use lib.ListN.{length}
use borrow.Author.Tests.{le-leb, leb-true}
use Rattle.backslash.specs.Backslash.{unescaped}
use Rattle.backslash.proofs.Pieces.{shorter}
use Rattle.backslash.proofs.has_room.Goals as goal

pub returns-then-has_room : goal.returns-then-has_room
returns-then-has_room c =
    let a = c.args in
    let wide : a.at + length a.raw.now ≤ a.len = leb-true _ _ (sym c.has_room.ensures ∙ c.if-has_room.true) in
    sym (le-leb (a.at + length (unescaped a.raw.now)) a.len (omega (arith, shorter a.raw.now)))

pub returns : goal.returns
returns c =
    let a = c.args in
    c.has_room-2.ensures ∙ ap (λ (n : ℕ). leb (a.at + n) a.len) c.unescaped_len-n.ensures
