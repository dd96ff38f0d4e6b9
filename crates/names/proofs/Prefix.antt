-- Laws of the prefix that makes a text a URI.
-- Assumes nothing.
use Prim.Native.Nat.{ℕ, ◌+◌, ◌≤◌}
use mathlib.Core.Path.{◌≡◌, refl}
use mathlib.Core.Bool.{Bool, true, false}
use mathlib.Core.List.{List, [], ◌∷◌}
use native.Mathlib.Omega.{arith}
use lib.Dec.{leb}
use lib.ListN.{length, get_or}
use borrow.Author.Tests.{ne_eqb}
use Rattle.byte.specs.Ascii.{bytes}
use Rattle.byte.specs.Byte.{pick}
use Rattle.byte.specs.Same.{same, stands_at}
use Rattle.byte.proofs.Laws.{and-false}
use Rattle.byte.proofs.Same.{stands-room, stands-short}
use Rattle.name_table.specs.Find.{prefix_len, start_len}

abbrev longer : Bool → Bool → ℕ
longer p q = pick p 11 (pick q 13 0)

by_tests : (s : List ℕ) (p q : Bool) → stands_at (bytes "postgres://") 0 s ≡ p → stands_at (bytes "postgresql://") 0 s ≡ q → (longer p q ≡ 0 → ⊥)
    → (11 ≤ longer p q) × (longer p q ≤ length s)
by_tests s true q e f h = (omega arith, stands-room (bytes "postgres://") 0 s e)
by_tests s false true e f h = (omega arith, stands-room (bytes "postgresql://") 0 s f)
by_tests s false false e f h = absurd (h refl)

-- a prefix has at least eleven bytes, and stands within the text
pub prefix-long : (s : List ℕ) → (prefix_len s ≡ 0 → ⊥) → (11 ≤ prefix_len s) × (prefix_len s ≤ length s)
unfolding prefix_len start_len
prefix-long s h = by_tests s (stands_at (bytes "postgres://") 0 s) (stands_at (bytes "postgresql://") 0 s) refl refl h

-- a text that starts with another byte than both prefixes do has none
differs : (b : ℕ) (w s : List ℕ) → (get_or s 0 0 ≡ b → ⊥) → stands_at (b ∷ w) 0 s ≡ false
unfolding stands_at same
differs b w [] h = stands-short (b ∷ w) 0 [] (omega arith)
differs b w (a ∷ s) h = rw (ne_eqb a b h) (and-false (leb (0 + length (b ∷ w)) (length (a ∷ s))))

pub no-prefix : (s : List ℕ) → (get_or s 0 0 ≡ 112 → ⊥) → prefix_len s ≡ 0
unfolding prefix_len start_len
no-prefix s h = rw (differs 112 (bytes "ostgres://") s h, differs 112 (bytes "ostgresql://") s h)
