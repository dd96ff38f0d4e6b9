-- `char_len` meets its contract: a character of two bytes by its second, any other as it is read. Assumes nothing.
use Prim.Native.Nat.{◌<◌}
use mathlib.Core.Path.{◌≡◌, refl, sym, ap, ◌∙◌}
use mathlib.Core.Bool.{true, false}
use native.Mathlib.Omega.{arith}
use lib.ListN.{length, get_or}
use Rattle.byte.specs.Byte.{between}
use Rattle.byte.proofs.Laws.{past, between_in}
use Rattle.utf8.specs.declared.Char.{Char}
use Rattle.utf8.specs.Utf8.{tail}
use Rattle.utf8.proofs.Laws.{pair-len}
-- the first byte of two, and that it stands within the text
use Rattle.utf8_valid.proofs.char_len.Goals as goal

pub overflow_add-at : goal.overflow_add-at
unfolding between
overflow_add-at c =
    let here_first : between 0xc2 0xdf (get_or c.args.s.now c.args.at 0) ≡ true = ap (between 0xc2 0xdf) (sym c.at-a.ensures) ∙ sym c.is_between.ensures ∙ c.if-is_between.true in
    let here_within : c.args.at < length c.args.s.now = past (between 0xc2 0xdf) refl c.args.s.now c.args.at here_first in
    omega (arith, here_within)

pub returns-then-is_tail : goal.returns-then-is_tail
unfolding between
returns-then-is_tail c =
    let here_first : between 0xc2 0xdf (get_or c.args.s.now c.args.at 0) ≡ true = ap (between 0xc2 0xdf) (sym c.at-a.ensures) ∙ sym c.is_between.ensures ∙ c.if-is_between.true in
    let here_within : c.args.at < length c.args.s.now = past (between 0xc2 0xdf) refl c.args.s.now c.args.at here_first in
    let b = c in
    let f = b in
    let a = f.args in
    pair-len a.s.now a.at here_within true (omega (arith, (between_in 0xc2 0xdf (get_or c.args.s.now c.args.at 0) here_first).low)) here_first (sym c.if-is_tail.true ∙ c.is_tail.ensures ∙ ap tail b.at-b.ensures)

pub returns-then-is_between : goal.returns-then-is_between
unfolding between
returns-then-is_between c =
    let here_first : between 0xc2 0xdf (get_or c.args.s.now c.args.at 0) ≡ true = ap (between 0xc2 0xdf) (sym c.at-a.ensures) ∙ sym c.is_between.ensures ∙ c.if-is_between.true in
    let here_within : c.args.at < length c.args.s.now = past (between 0xc2 0xdf) refl c.args.s.now c.args.at here_first in
    let b = c in
    let f = b in
    let a = f.args in
    pair-len a.s.now a.at here_within false (omega (arith, (between_in 0xc2 0xdf (get_or c.args.s.now c.args.at 0) here_first).low)) here_first (sym c.if-is_tail.false ∙ c.is_tail.ensures ∙ ap tail b.at-b.ensures)

pub returns : goal.returns
returns c =
    ap (λ (x : Char). x.len) c.char_at-c.ensures
