-- `starts_with_name` meets its contract: what is too short does not start with the name, and else as many bytes are compared. Assumes nothing.
use mathlib.Core.Path.{sym, ap, ◌∙◌}
use mathlib.Core.List.{[]}
use Prim.Native.Nat.{ℕ}
use native.Mathlib.Omega.{arith}
use lib.ListN.{take, get_or}
use borrow.Author.Tests.{lt-leb}
use Rattle.byte.specs.Same.{same}
use Rattle.byte.proofs.Same.{stands-short, stands-within}
use Rattle.name_table.specs.Names.{fixed}
use Rattle.names.proofs.starts_with_name.Goals as goal

pub returns-then-n-s : goal.returns-then-n-s
returns-then-n-s c =
    let w = get_or fixed c.args.i [] in
    c.is_name.ensures
    ∙ ap (λ (m : ℕ). same (take m c.args.s.now) w) c.name_len-n.ensures
    ∙ sym (stands-within w 0 c.args.s.now (omega (arith, c.name_len-n.ensures)))

pub returns-else-n-s : goal.returns-else-n-s
returns-else-n-s c =
    let w = get_or fixed c.args.i [] in
    lt-leb _ _ c.if-n-s.false ∙ sym (stands-short w 0 c.args.s.now (omega (arith, c.name_len-n.ensures)))
