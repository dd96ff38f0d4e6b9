-- What a reading tells shows no more bytes than were kept: a text replaces another, a host value's pieces are parts of it, other settings keep nothing.
-- Assumes nothing.
use Prim.Native.Nat.{ℕ, suc, ◌+◌, ◌≤◌}
use mathlib.Core.Path.{◌≡◌, refl, sym, subst}
use mathlib.Core.Bool.{Bool, true, false}
use mathlib.Core.List.{List, [], ◌∷◌, ◌++◌, map}
use Rattle.std.specs.Prelude.{Some}
use native.Mathlib.Omega.{arith}
use native.Mathlib.Nat.{zero-add}
use borrow.Author.Tests.{eqb-true}
use lib.Dec.{eqb}
use lib.ListN.{length, get_or}
use Rattle.byte.specs.Byte.{pick, between}
use Rattle.split.specs.Split.{onto, split}
use Rattle.lists.specs.Append.{good}
use Rattle.config.specs.Values.{HostValue, tcp, unix, Values}
use Rattle.view.specs.Given.{entries_of, host_value, host_pieces, one_host_piece, given}
use Rattle.taking.specs.Taking.{keeps}
use Rattle.outcome.specs.Outcome.{}
use Rattle.telling.specs.Bound.{name_bytes, host_bytes}
use Rattle.limits.specs.Limits.{together, kept_bytes}

-- a host has its value's bytes
name-bytes : (v : List ℕ) → name_bytes (host_value v) ≡ length v
unfolding host_value
name-bytes v = by (eqb (get_or v 0 0) 47)
  where
    by : (t : Bool) → name_bytes (pick t (unix v) (tcp v)) ≡ length v
    by true = refl
    by false = refl

hosts-append : (hs gs : List HostValue) → host_bytes (hs ++ gs) ≡ host_bytes hs + host_bytes gs
unfolding host_bytes
hosts-append [] gs = sym (zero-add (host_bytes gs))
hosts-append (h ∷ hs) gs = omega (arith, hosts-append hs gs)

-- hosts of pieces
abbrev named : List (List ℕ) → List HostValue
named ws = entries_of (map (λ (w : List ℕ). good (host_value w)) ws)

named-onto : (a : ℕ) (ps : List (List ℕ)) → host_bytes (named (onto a ps)) ≡ suc (host_bytes (named ps))
unfolding host_bytes entries_of
named-onto a [] = omega (arith, name-bytes (a ∷ []))
named-onto a (p ∷ ps) = omega (arith, name-bytes (a ∷ p), name-bytes p)

-- the commas are nobody's
pieces-bytes : (v : List ℕ) → host_bytes (entries_of (host_pieces v)) ≤ length v
unfolding host_bytes entries_of split
pieces-bytes [] = omega (arith, name-bytes [])
pieces-bytes (a ∷ v) = by (eqb a 44) (pieces-bytes v)
  where
    by : (t : Bool) → host_bytes (named (split 44 v)) ≤ length v → host_bytes (named (pick t ([] ∷ split 44 v) (onto a (split 44 v)))) ≤ suc (length v)
    by true h = omega (arith, name-bytes [])
    by false h = omega (arith, named-onto a (split 44 v))

one-bytes : (v : List ℕ) → host_bytes (entries_of (one_host_piece v)) ≡ length v
unfolding host_bytes entries_of
one-bytes v = omega (arith, name-bytes v)

-- a setting adds at most what is kept of it
module _ (v : List ℕ) (w : Values) where
  abbrev Adds : ℕ → Type 0
  Adds kind = kept_bytes (given kind v w) ≤ kept_bytes w + length (pick (keeps kind) v [])

  abbrev before : ℕ
  before = together w.user w.password w.dbname w.options w.application_name w.host

  adds-user : Adds 1
  unfolding kept_bytes given keeps between
  adds-user = let h : together (Some v) w.password w.dbname w.options w.application_name w.host ≤ before + length v = omega arith in h

  adds-password : Adds 2
  unfolding kept_bytes given keeps between
  adds-password = let h : together w.user (Some v) w.dbname w.options w.application_name w.host ≤ before + length v = omega arith in h

  adds-dbname : Adds 3
  unfolding kept_bytes given keeps between
  adds-dbname = let h : together w.user w.password (Some v) w.options w.application_name w.host ≤ before + length v = omega arith in h

  adds-options : Adds 4
  unfolding kept_bytes given keeps between
  adds-options = let h : together w.user w.password w.dbname (Some v) w.application_name w.host ≤ before + length v = omega arith in h

  adds-name : Adds 5
  unfolding kept_bytes given keeps between
  adds-name = let h : together w.user w.password w.dbname w.options (Some v) w.host ≤ before + length v = omega arith in h

  adds-hosts : Adds 8
  unfolding kept_bytes given keeps
  adds-hosts =
      let h : together w.user w.password w.dbname w.options w.application_name (w.host ++ entries_of (host_pieces v)) ≤ before + length v = omega (arith, hosts-append w.host (entries_of (host_pieces v)), pieces-bytes v) in
      h

  adds-host : Adds 20
  unfolding kept_bytes given keeps
  adds-host =
      let h : together w.user w.password w.dbname w.options w.application_name (w.host ++ entries_of (one_host_piece v)) ≤ before + length v = omega (arith, hosts-append w.host (entries_of (one_host_piece v)), one-bytes v) in
      h

  adds_none : (kind : ℕ) → eqb kind 1 ≡ false → eqb kind 2 ≡ false → eqb kind 3 ≡ false → eqb kind 4 ≡ false → eqb kind 5 ≡ false → eqb kind 8 ≡ false → eqb kind 20 ≡ false
      → Adds kind
  unfolding kept_bytes given
  adds_none kind a b c d e f g = rw (a, b, c, d, e, f, g) (omega arith)

  pub adds : (kind : ℕ) → Adds kind
  adds kind = by (eqb kind 1) (eqb kind 2) (eqb kind 3) (eqb kind 4) (eqb kind 5) (eqb kind 8) (eqb kind 20) refl refl refl refl refl refl refl
    where
      at : (k : ℕ) → eqb kind k ≡ true → Adds k → Adds kind
      at k e = subst Adds (sym (eqb-true kind k e))

      by : (p q r s t u x : Bool) → eqb kind 1 ≡ p → eqb kind 2 ≡ q → eqb kind 3 ≡ r → eqb kind 4 ≡ s → eqb kind 5 ≡ t → eqb kind 8 ≡ u → eqb kind 20 ≡ x → Adds kind
      by true q r s t u x a b c d e f g = at 1 a adds-user
      by false true r s t u x a b c d e f g = at 2 b adds-password
      by false false true s t u x a b c d e f g = at 3 c adds-dbname
      by false false false true t u x a b c d e f g = at 4 d adds-options
      by false false false false true u x a b c d e f g = at 5 e adds-name
      by false false false false false true x a b c d e f g = at 8 f adds-hosts
      by false false false false false false true a b c d e f g = at 20 g adds-host
      by false false false false false false false a b c d e f g = adds_none kind a b c d e f g
