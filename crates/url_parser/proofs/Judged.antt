-- What a step's definition comes to where a part is judged by the scan that finds its end.
-- Assumes nothing.
use Prim.Native.Nat.{ℕ, ◌+◌, ◌≤◌, ◌<◌}
use mathlib.Core.Path.{◌≡◌, refl, ap, sym, ◌∙◌}
use mathlib.Core.List.{List}
use lib.ListN.{length, drop}
use borrow.Author.Tests.{ne_eqb}
use Rattle.byte.specs.Byte.{part_of}
use Rattle.split.specs.Split.{first_at}
use Rattle.percent_check.specs.declared.Checked.{Checked}
use Rattle.percent_check.specs.declared.Part.{Part}
use Rattle.percent_check.specs.Plain.{checked}
use Rattle.percent_check.specs.Plain.{checked_until}
use Rattle.url_parser.specs.declared.Stage.TheVariants.{Password, Host, Params, Parameter}
use Rattle.url_parser.specs.Step.{given, url, found, give, skipped, value_step, database_step, params_step, password_step, credentials_step}
use Rattle.url_parser.proofs.Branches.{value-given, database-some, database-none, password-given, user-first, user-only}

-- what the scan tells: where the part ends, and its judgement
module _ (b at : ℕ) (s : List ℕ) (r : Part) (e : r ≡ checked_until b at s) where
  ends_at : r.end ≡ at + first_at b (drop at s)
  ends_at = ap (λ (x : Part). x.end) e

  judged-is : r.judged ≡ checked (part_of at r.end s)
  judged-is = ap (λ (x : Part). x.judged) e ∙ ap (λ (n : ℕ). checked (part_of at n s)) (sym ends_at)

module _ (at : ℕ) (s : List ℕ) (r : Part) where
  pub value-judged : r ≡ checked_until 38 at s → (kind : ℕ) → (kind ≡ 20 → ⊥) → (next : ℕ) → next ≡ skipped r.end (drop r.end s)
      → give kind at r.end r.judged (url Parameter next) ≡ value_step kind at (drop at s)
  value-judged e kind h next n =
      value-given at s r.end (ends_at 38 at s r e) kind (part_of at r.end s) refl r.judged (rw (ne_eqb kind 20 h) (judged-is 38 at s r e)) next n

  pub database-empty : r ≡ checked_until 63 at s → r.end ≤ at → database_step at (drop at s) ≡ params_step at (drop at s)
  database-empty e h = database-none at s r.end (ends_at 63 at s r e) h

  pub database-judged : r ≡ checked_until 63 at s → at < r.end → give 3 at r.end r.judged (url Params r.end) ≡ database_step at (drop at s)
  database-judged e h = database-some at s r.end (ends_at 63 at s r e) h (part_of at r.end s) refl r.judged (judged-is 63 at s r e)

  pub password-judged : r ≡ checked_until 64 at s → (next : ℕ) → next ≡ skipped r.end (drop r.end s)
      → given (found 2 at r.end r.judged.len (url Host next)) ≡ password_step at (drop at s)
  password-judged e next n =
      password-given at s r.end (ends_at 64 at s r e) (part_of at r.end s) refl r.judged.len (ap (λ (c : Checked). c.len) (judged-is 64 at s r e)) next n

-- the user, judged in the credentials c
module _ (at : ℕ) (s : List ℕ) (end : ℕ) (e : end ≡ at + first_at 64 (drop at s)) (l : end < length s) (c : List ℕ) (p : c ≡ part_of at end s) (r : Part) (j : r ≡ checked_until 58 0 c) where
  pub user-judged-first : at + r.end < end → give 1 at (at + r.end) r.judged (url Password (at + r.end + 1)) ≡ credentials_step at (drop at s)
  user-judged-first h = user-first at s end e l c p r.end (ends_at 58 0 c r j) r.judged (judged-is 58 0 c r j) h

  pub user-judged-only : end ≤ at + r.end → give 1 at (at + r.end) r.judged (url Host (end + 1)) ≡ credentials_step at (drop at s)
  user-judged-only h = user-only at s end e l c p r.end (ends_at 58 0 c r j) r.judged (judged-is 58 0 c r j) h
