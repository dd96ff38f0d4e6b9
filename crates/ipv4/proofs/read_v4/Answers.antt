-- `ipv4::read_v4`: the whole is what the parts so far and those from here on make; the number so far stays below a roof.
-- Assumes nothing.
use lib.ListN.{length-drop, length, drop, take}
use lib.Seq.{take_all}
use Prim.Native.Nat.{ℕ, ◌+◌, ◌-◌}
use mathlib.Core.Path.{◌≡◌, sym, ap, ◌∙◌}
use native.Mathlib.Omega.{arith}
use Rattle.std.specs.Prelude.{Option, Some, None}
use Rattle.split.specs.Split.{split}
use Rattle.ipv4.specs.V4.{part_of, with_part}
use Rattle.ipv4.proofs.V4.{parts_from, v4-start, parts_more, parts-short, parts_last, parts-refused, roof-most, part_room}
use Rattle.ipv4.proofs.read_v4.Goals as goal

pub loop-k-init : goal.loop-k-init
loop-k-init c =
    (omega arith, omega arith, v4-start _)

pub returns-then-s-e : goal.returns-then-s-e
returns-then-s-e c =
    sym (c.loop-k.invariant.2 ∙ parts-short _ _ _ c.find-e.ensures _ _ (omega arith) c.if-s-e.true)

pub slice_bounds-read_part-count : goal.slice_bounds-read_part-count
slice_bounds-read_part-count c =
    omega (arith, c.find-e.ensures)

pub slice_bounds-read_part-start : goal.slice_bounds-read_part-start
slice_bounds-read_part-start c =
    omega (arith, c.find-e.ensures)

pub slice_bounds-read_part-end : goal.slice_bounds-read_part-end
slice_bounds-read_part-end c =
    omega (arith, c.if-s-e.false)

pub returns-in_err-v : goal.returns-in_err-v
returns-in_err-v c =
    let l = c.loop-k in
    let t = c.args.s.now in
    let e = c.find-e.result in
    let read : with_part l.v (part_of (take (e - l.i) (drop l.i t))) ≡ None = sym (c.with_part.ensures ∙ ap (with_part l.v) c.read_part.ensures) ∙ c.in_err-v.was in
    let none : ◌≡◌ {A = Option ℕ} c.from_residual.result None = c.from_residual.ensures in
    none
    ∙ sym (l.invariant.2
    ∙ parts_more t l.i e c.find-e.ensures (Some l.v) (3 - l.k) (omega arith) c.if-s-e.false
    ∙ ap (λ (f : Option ℕ). parts_from (3 - l.k - 1) f (split 46 (drop (e + 1) t))) read
    ∙ parts-refused _ _)

pub overflow_add-i : goal.overflow_add-i
overflow_add-i c =
    omega (arith, c.if-s-e.false)

pub loop-k-preserved : goal.loop-k-preserved
loop-k-preserved c =
    let l = c.loop-k in
    let t = c.args.s.now in
    let e = c.find-e.result in
    let n : 3 - l.k - 1 ≡ 3 - (l.k + 1) = omega arith in
    let read : with_part l.v (part_of (take (e - l.i) (drop l.i t))) ≡ Some c.in_ok-v.v = sym (c.with_part.ensures ∙ ap (with_part l.v) c.read_part.ensures) ∙ c.in_ok-v.was in (
      omega (arith, c.if-s-e.false),
      rw n at (part_room (3 - l.k) l.v (take (e - l.i) (drop l.i t)) _ (omega arith) (omega arith) l.invariant.1 read),
      l.invariant.2
          ∙ parts_more t l.i e c.find-e.ensures (Some l.v) (3 - l.k) (omega arith) c.if-s-e.false
          ∙ ap (λ (f : Option ℕ). parts_from (3 - l.k - 1) f (split 46 (drop (e + 1) t))) read
          ∙ ap (λ (m : ℕ). parts_from m (Some c.in_ok-v.v) (split 46 (drop (e + 1) t))) n,
    )

pub with_part-requires : goal.with_part-requires
with_part-requires c =
    roof-most (3 - c.loop-k.k) _ c.loop-k.invariant.1

pub returns : goal.returns
returns c =
    let l = c.loop-k in
    let s = c.args.s.now in
    let z : 3 - l.k ≡ 0 = omega (arith, c.loop-k-test.false) in
    let n : take (length s - l.i) (drop l.i s) ≡ drop l.i s = take_all (length s - l.i) (drop l.i s) (omega (arith, length-drop l.i s)) in
    c.with_part-2.ensures
    ∙ ap (with_part l.v) (c.read_part-2.ensures ∙ ap part_of n)
    ∙ sym (l.invariant.2 ∙ ap (λ (k : ℕ). parts_from k (Some l.v) (split 46 (drop l.i s))) z ∙ parts_last (drop l.i s) (Some l.v))
