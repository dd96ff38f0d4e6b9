-- `prefix_len` meets its contract: the two prefixes in turn. Assumes nothing.
use mathlib.Core.Path.{◌≡◌, refl, sym, ◌∙◌}
use mathlib.Core.List.{List, []}
use mathlib.Core.Bool.{Bool, true, false}
use Prim.Native.Nat.{ℕ}
use lib.ListN.{length, get_or}
use Rattle.byte.specs.Byte.{pick}
use Rattle.byte.specs.Same.{stands_at}
use Rattle.name_table.specs.Names.{fixed}
use Rattle.name_table.specs.Find.{prefix_len, start_len}
use Rattle.names.proofs.prefix_len.Goals as goal

-- by the tests for the two prefixes
by_tests : (s : List ℕ) (p q : Bool) → p ≡ stands_at (get_or fixed 33 []) 0 s → q ≡ stands_at (get_or fixed 34 []) 0 s
    → prefix_len s ≡ pick p (length (get_or fixed 33 [])) (pick q (length (get_or fixed 34 [])) 0)
unfolding prefix_len start_len fixed
by_tests s p q e f = rw (e, f)

pub returns-then-starts_with_name : goal.returns-then-starts_with_name
returns-then-starts_with_name c =
    c.name_len.ensures ∙ sym (by_tests _ true _ (sym c.if-starts_with_name.true ∙ c.starts_with_name.ensures) refl)

pub returns-then-starts_with_name-2 : goal.returns-then-starts_with_name-2
returns-then-starts_with_name-2 c =
    c.name_len-then-starts_with_name-2.ensures
    ∙ sym (by_tests _ false true (sym c.if-starts_with_name.false ∙ c.starts_with_name.ensures) (sym c.if-starts_with_name-2.true ∙ c.starts_with_name-2.ensures))

pub returns : goal.returns
returns c =
    sym (by_tests _ false false (sym c.if-starts_with_name.false ∙ c.starts_with_name.ensures) (sym c.if-starts_with_name-2.false ∙ c.starts_with_name-2.ensures))
