use mathlib.Core.Path.{◌≡◌, refl, sym}
use mathlib.Core.Bool.{Bool, true, false}
use Prim.Native.Nat.{ℕ, ◌+◌, ◌-◌, ◌<◌, ◌≤◌}
use lib.Dec.{leb}
use borrow.Author.Tests.{le-leb, lt-leb, leb-true, leb-false}
use native.Mathlib.Omega.{arith}
use Rattle.byte.proofs.Tests.{tests}
use Rattle.byte.proofs.has_room.Goals as goal

pub returns-then-len-at : goal.returns-then-len-at
returns-then-len-at c =
    let h : c.args.len < c.args.at + c.args.n = omega arith in
    search tests

moved : (n len at : ℕ) → at ≤ len → (t : Bool) → leb n (len - at) ≡ t → t ≡ leb (at + n) len
moved n len at h true e = sym (le-leb (at + n) len (omega (arith, leb-true n (len - at) e)))
moved n len at h false e = sym (lt-leb (at + n) len (omega (arith, leb-false n (len - at) e)))

pub returns : goal.returns
returns c =
    moved c.args.n c.args.len c.args.at c.if-len-at.false _ refl
