use mathlib.Core.Path.{◌≡◌, refl, sym}
use mathlib.Core.Bool.{Bool, true, false}
use Prim.Native.Nat.{ℕ, ◌+◌, ◌-◌, ◌*◌, ◌/◌, ◌<◌, ◌≤◌}
use native.Mathlib.Nat.{le-div_iff_mul-le, div-lt_iff_lt-mul}
use native.Mathlib.Omega.{arith}
use lib.Dec.{leb}
use borrow.Author.Tests.{le-leb, lt-leb, leb-true, leb-false}
-- below what the range has room for, any digit of the base may follow
use Rattle.digits.proofs.stays.Goals as goal

below : (v base d max : ℕ) → 0 < base → d < base → v < max / base → v * base + d ≤ max
below v base d max p q h = omega (arith, (le-div_iff_mul-le p).0 h)

pub returns-then-v-max : goal.returns-then-v-max
returns-then-v-max c =
    let a = c.args in
    sym (le-leb (a.v * a.base + a.d) a.max (below a.v a.base a.d a.max c.requires.base_nonzero c.requires.d_lt_base c.if-v-max.true))

pub returns-then-max-d : goal.returns-then-max-d
returns-then-max-d c =
    let a = c.args in
    let h : a.max < a.v * a.base + a.d = omega arith in
    sym (lt-leb (a.v * a.base + a.d) a.max h)

divided : (v base d max : ℕ) → 0 < base → d ≤ max → (t : Bool) → leb v ((max - d) / base) ≡ t → t ≡ leb (v * base + d) max
divided v base d max p h true e = sym (le-leb (v * base + d) max (omega (arith, (le-div_iff_mul-le p).0 (leb-true v ((max - d) / base) e))))
divided v base d max p h false e = sym (lt-leb (v * base + d) max (omega (arith, (div-lt_iff_lt-mul p).0 (leb-false v ((max - d) / base) e))))

pub returns : goal.returns
returns c =
    let a = c.args in divided a.v a.base a.d a.max c.requires.base_nonzero c.if-max-d.false _ refl
