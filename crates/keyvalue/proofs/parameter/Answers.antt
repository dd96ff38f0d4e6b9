-- `parameter` meets its contract: by where the key stands, and what stands where `=` must. Assumes nothing.
use mathlib.Core.Path.{sym, ap, ◌∙◌}
use Prim.Native.Nat.{ℕ, ◌+◌}
use Rattle.keyvalue.specs.Scan.{end_of, space_len}
use Rattle.keyvalue.specs.KeyValue.{value_at}
use Rattle.keyvalue.proofs.Steps.{no_key, cut_off, no_sign, signed}
use Rattle.keyvalue.proofs.parameter.Goals as goal

pub returns-then-to-from : goal.returns-then-to-from
returns-then-to-from c =
    let a = c.args in
    sym (no_key a.s.now a.at c.skip_ws-from.result c.keyword-to.result 0 c.skip_ws-from.ensures c.keyword-to.ensures c.if-to-from.true)

pub returns-then-s-sign : goal.returns-then-s-sign
returns-then-s-sign c =
    let a = c.args in
    sym (cut_off a.s.now a.at c.skip_ws-from.result c.keyword-to.result c.skip_ws-sign.result c.skip_ws-from.ensures c.keyword-to.ensures c.if-to-from.false c.skip_ws-sign.ensures c.if-s-sign.true)

pub returns-then-s-sign-ne61 : goal.returns-then-s-sign-ne61
returns-then-s-sign-ne61 c =
    let a = c.args in
    sym (no_sign a.s.now a.at c.skip_ws-from.result c.keyword-to.result c.skip_ws-sign.result c.skip_ws-from.ensures c.keyword-to.ensures c.if-to-from.false c.skip_ws-sign.ensures c.if-s-sign.false c.if-s-sign-ne61.true)

pub returns : goal.returns
returns c =
    let a = c.args in
    let from = c.skip_ws-from.result in
    let to = c.keyword-to.result in
    sym (signed a.s.now a.at from to c.skip_ws-sign.result c.skip_ws-from.ensures c.keyword-to.ensures c.if-to-from.false c.skip_ws-sign.ensures c.if-s-sign.false c.if-s-sign-ne61.false
    ∙ ap (λ (x : ℕ). value_at a.s.now (record { number = x; from = from; to = to }) (end_of space_len a.s.now (c.skip_ws-sign.result + 1))) (sym c.key_number-number.ensures)
    ∙ ap (value_at a.s.now (record { number = c.key_number-number.result; from = from; to = to })) (sym c.skip_ws-start.ensures)
    ∙ sym c.value.ensures)
