-- `uri_keys::decoded_kind` meets its contract: twenty bytes are enough to look a key up.
-- Assumes nothing.
use mathlib.Core.Path.{◌≡◌, sym, ap, ◌∙◌}
use Rattle.names.specs.Find.{key_number}
use Rattle.percent.specs.Percent.{decoded}
use Rattle.uri_keys.proofs.Keys.{looked-up, kind-host, kind-other}
use Rattle.uri_keys.proofs.decoded_kind.Goals as goal

pub returns-then-number-eq-HOST_KEY : goal.returns-then-number-eq-HOST_KEY
returns-then-number-eq-HOST_KEY c =
    let p = c in
    let w = p in
    let k = decoded w.args.key.now in
    let n : c.key_number-number.result ≡ key_number k = c.key_number-number.ensures ∙ ap key_number p.part.ensures ∙ looked-up k _ w.decode-n.ensures.dst_after _ w.decode-n.ensures.value in
    sym (kind-host k (sym n ∙ c.if-number-eq-HOST_KEY.true))

pub returns-else-number-eq-HOST_KEY : goal.returns-else-number-eq-HOST_KEY
returns-else-number-eq-HOST_KEY c =
    let p = c in
    let w = p in
    let k = decoded w.args.key.now in
    let n : c.key_number-number.result ≡ key_number k = c.key_number-number.ensures ∙ ap key_number p.part.ensures ∙ looked-up k _ w.decode-n.ensures.dst_after _ w.decode-n.ensures.value in
    n ∙ sym (kind-other k (λ e. c.if-number-eq-HOST_KEY.false (n ∙ e)))
