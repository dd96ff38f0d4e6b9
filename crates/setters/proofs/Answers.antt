-- What a setter answers: 17 where the counts can't be believed, the number of a full list, or the record changed.
-- Assumes nothing.
use Rattle.std.proofs.Common.{◌≡◌, ◌∙◌, ℕ, Bool, true, false, refl, sym, ap, arith}
use borrow.Author.Tests.{ne_eqb}
use Rattle.std.specs.Prelude.{Result, Ok, Err, ⊤}
use lib.Dec.{eqb}
use Rattle.byte.specs.Byte.{pick}
use Rattle.lists.specs.declared.Fault.{Fault}
use Rattle.lists.specs.declared.Fault.TheVariants.{UnknownKey, Word, Form, Range, NoAddress, ManyHosts, ManyHostaddrs, ManyPorts}
use Rattle.lists.specs.Fault.{number_of}
use Rattle.config.specs.declared.Config.{Config}
use Rattle.config.specs.Sound.{counted}
use Rattle.setters.specs.declared.Answer.{Answer}
use Rattle.setters.specs.Setter.{Value, room, refusal, changed, set, made, answer_of}

-- where every setter begins
abbrev pub begun : Config → Answer
begun c = record { number = pick (counted c) 0 17; config = c }

module _ (key : ℕ) (v : Value) (c : Config) where
  refused_by : (believed : Bool) → counted c ≡ believed → ((begun c).number ≡ 0 → ⊥) → begun c ≡ set key v c
  unfolding set refusal
  refused_by true e h = absurd (h (rw e))
  refused_by false e h = rw e

  -- counts that can't be believed: what was begun is the answer
  pub refused_set : (a : Answer) → a ≡ begun c → (a.number ≡ 0 → ⊥) → a ≡ set key v c
  refused_set a e h = e ∙ refused_by (counted c) refl (λ z. h (ap (λ (x : Answer). x.number) e ∙ z))

  settled_by : (believed : Bool) → counted c ≡ believed → (begun c).number ≡ 0 → (n : ℕ) (next : Config)
      → n ≡ number_of (room key v c) → next ≡ pick (eqb n 0) (changed key v c) c → record { number = n; config = next } ≡ set key v c
  unfolding set refusal
  settled_by true e h n next k g = rw (e, g, k)
  settled_by false e h n next k g =
      let never : 17 ≡ 0 = rw e at h in absurd (omega (arith, never))

  -- counts that are believed: the answer is settled by the room there is
  pub settled_set : (a : Answer) → a ≡ begun c → a.number ≡ 0 → (n : ℕ) (next : Config)
      → n ≡ number_of (room key v c) → next ≡ pick (eqb n 0) (changed key v c) c → record { number = n; config = next } ≡ set key v c
  settled_set a e h = settled_by (counted c) refl (sym (ap (λ (x : Answer). x.number) e) ∙ h)

  -- where there is room for sure, the record has its field changed
  pub stored_set : (a : Answer) → a ≡ begun c → a.number ≡ 0 → room key v c ≡ Ok tt → record { number = a.number; config = changed key v a.config } ≡ set key v c
  stored_set a e h r =
      settled_set a e h a.number (changed key v a.config) (rw (r, h)) (rw (h, ap (λ (x : Answer). x.config) e))

  by-parts : (believed : Bool) (r : Result ⊤ Fault) → counted c ≡ believed → room key v c ≡ r → answer_of (made r (changed key v c)) c ≡ set key v c
  unfolding set refusal answer_of
  by-parts false r e f = rw e
  by-parts true (Ok tt) e f = rw (e, f)
  by-parts true (Err UnknownKey) e f = rw (e, f)
  by-parts true (Err Word) e f = rw (e, f)
  by-parts true (Err Form) e f = rw (e, f)
  by-parts true (Err Range) e f = rw (e, f)
  by-parts true (Err NoAddress) e f = rw (e, f)
  by-parts true (Err ManyHosts) e f = rw (e, f)
  by-parts true (Err ManyHostaddrs) e f = rw (e, f)
  by-parts true (Err ManyPorts) e f = rw (e, f)

  -- the answer to what a setter makes of the record is the setter's
  pub answer_set : (r : Result Config Fault) → r ≡ made (room key v c) (changed key v c) → answer_of r c ≡ set key v c
  answer_set r e = rw e (by-parts (counted c) (room key v c) refl refl)

-- a refusal leaves the record as it was
pub refused-same : (key : ℕ) (v : Value) (c : Config) → ((set key v c).number ≡ 0 → ⊥) → (set key v c).config ≡ c
unfolding set
refused-same key v c h = rw (ne_eqb (refusal key v c) 0 h)
