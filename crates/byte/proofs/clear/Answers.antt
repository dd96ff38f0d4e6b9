use mathlib.Core.Path.{◌≡◌, sym, ap, ◌∙◌}
use Prim.Native.Nat.{ℕ, ◌+◌, ◌-◌, ◌<◌, ◌≤◌}
use native.Mathlib.Omega.{arith}
use borrow.Author.Tests.{leb-true, leb-false}
use lib.ListN.{length, take, drop, replicate, length-replicate, length-take, length-drop}
use Rattle.std.proofs.Common.{rules}
use Rattle.byte.proofs.Writing.{written-short, after-short, after-room, put_mid-written}
use Rattle.byte.proofs.clear.Goals as goal

pub returns-then-not-has_room : goal.returns-then-not-has_room
returns-then-not-has_room c =
    let a = c.args in
    let here_no_room : length a.dst.now < a.at + length (replicate {A = ℕ} a.n 0) =
    omega (arith, length-replicate {A = ℕ} a.n 0, leb-false (a.at + a.n) (length a.dst.now) (sym c.has_room.ensures ∙ c.if-not-has_room.true)) in
    record { value = sym (after-short _ a.at _ here_no_room); dst_after = sym (written-short _ a.at _ here_no_room) }

pub returns : goal.returns
returns c =
    let a = c.args in
    let room : a.at + length (replicate {A = ℕ} a.n 0) ≤ length a.dst.now =
    omega (arith, length-replicate {A = ℕ} a.n 0, leb-true (a.at + a.n) (length a.dst.now) (sym c.has_room.ensures ∙ c.if-not-has_room.false)) in
    let m : length (take (a.at + a.n - a.at) (drop a.at a.dst.now)) ≡ a.n = omega (arith, length-take (a.at + a.n - a.at) (drop a.at a.dst.now), length-drop a.at a.dst.now, length-replicate {A = ℕ} a.n 0) in
    record {
      value = omega (arith, after-room a.dst.now a.at (replicate {A = ℕ} a.n 0) room, length-replicate {A = ℕ} a.n 0);
      dst_after = put_mid-written a.dst.now a.at (replicate {A = ℕ} a.n 0) room _ _ (omega (arith, length-replicate {A = ℕ} a.n 0)) (c.fill.ensures.after (λ y h. search rules) ∙ ap (λ (k : ℕ). replicate k 0) m);
    }
