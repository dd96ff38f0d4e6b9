use mathlib.Core.Bool.{false}
use native.Mathlib.Omega.{arith}
use Rattle.decimal.proofs.Laws.{decimal-fixed}
use Rattle.decimal.proofs.put_decimal.Goals as goal

pub returns : goal.returns
returns c =
    let e = decimal-fixed false c.args.n (omega arith) in
    record {
      value = rw (e, ← c.decimal_len.ensures) c.put_fixed.ensures.value;
      dst_after = rw (e, ← c.decimal_len.ensures) c.put_fixed.ensures.dst_after;
    }
