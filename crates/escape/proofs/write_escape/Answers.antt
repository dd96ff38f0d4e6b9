use Prim.Native.Nat.{◌+◌, ◌<◌}
use native.Mathlib.Omega.{arith}
use mathlib.Core.Path.{◌≡◌, sym, ◌∙◌}
use mathlib.Core.Bool.{false}
use lib.ListN.{length}
use borrow.Author.Tests.{leb-true, leb-false, not-true, not-false}
use Rattle.byte.proofs.Writing.{written-short, after-short}
use Rattle.escape.specs.Escape.{plain, escape}
use Rattle.escape.proofs.Escape.{escape-plain, escape-long, escape-written, escape-after}
-- the byte is escaped
use Rattle.escape.proofs.write_escape.Goals as goal

pub returns-then-is_plain : goal.returns-then-is_plain
returns-then-is_plain c =
    let p = c in
    let e = escape-plain _ (sym p.is_plain.ensures ∙ p.if-is_plain.true) in
    record { value = rw e p.put.ensures.value; dst_after = rw e p.put.ensures.dst_after }

pub returns-then-not-has_room : goal.returns-then-not-has_room
returns-then-not-has_room c =
    let here_escaped : plain c.args.b ≡ false = sym c.is_plain.ensures ∙ c.if-is_plain.false in
    let here_no_room : length c.args.dst.now < c.args.at + length (escape c.args.b) = let a = c.args in
    omega (arith, escape-long a.b here_escaped, leb-false (a.at + 3) (length a.dst.now) (sym c.has_room.ensures ∙ not-true _ c.if-not-has_room.true-raw)) in
    let a = c.args in
    record { value = sym (after-short _ a.at _ here_no_room); dst_after = sym (written-short _ a.at _ here_no_room) }

pub returns : goal.returns
returns c =
    let here_escaped : plain c.args.b ≡ false = sym c.is_plain.ensures ∙ c.if-is_plain.false in
    let p = c in
    let q = p in
    let r = q in
    let a = r.args in
    let room = leb-true (a.at + 3) (length a.dst.now) (sym r.has_room.ensures ∙ not-false _ r.if-not-has_room.false-raw) in
    record { value = p.put_hex2_upper.ensures.value ∙ escape-after _ a.at a.b here_escaped room _ _ q.put-digits.ensures.value q.put-digits.ensures.dst_after; dst_after = p.put_hex2_upper.ensures.dst_after ∙ escape-written _ a.at a.b here_escaped room _ _ q.put-digits.ensures.value q.put-digits.ensures.dst_after }
