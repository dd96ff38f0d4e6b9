-- `has_room` meets its contract: a decoded text is never longer than the text. Assumes nothing.
use mathlib.Core.Path.{sym, ap, ◌∙◌}
use Prim.Native.Nat.{ℕ, ◌+◌, ◌≤◌}
use native.Mathlib.Omega.{arith}
use lib.Dec.{leb}
use lib.ListN.{length}
use borrow.Author.Tests.{le-leb, leb-true}
use Rattle.percent.specs.Percent.{decoded}
use Rattle.percent.proofs.Laws.{shorter}
use Rattle.percent_decode.proofs.has_room.Goals as goal

pub returns-then-has_room : goal.returns-then-has_room
returns-then-has_room c =
    let a = c.args in
    let wide : a.at + length a.s.now ≤ a.len = leb-true _ _ (sym c.has_room.ensures ∙ c.if-has_room.true) in
    sym (le-leb (a.at + length (decoded a.s.now)) a.len (omega (arith, shorter a.s.now)))

pub returns : goal.returns
returns c =
    let a = c.args in c.has_room-2.ensures ∙ ap (λ (n : ℕ). leb (a.at + n) a.len) c.decoded_len-n.ensures
