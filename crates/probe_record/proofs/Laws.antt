-- Settings in bytes, by what the next one comes to.
-- Assumes nothing.
use Prim.Native.Nat.{ℕ, zero, suc, ◌+◌, ◌-◌, ◌≤◌, ◌<◌}
use mathlib.Core.Path.{◌≡◌, refl, sym, ap, ◌∙◌}
use mathlib.Core.Bool.{Bool, true, false}
use mathlib.Core.List.{List}
use native.Mathlib.Omega.{arith}
use lib.Dec.{eqb, ltb}
use borrow.Author.Tests.{ne_eqb, lt-ltb, le-ltb}
use Rattle.std.specs.Prelude.{Result, ⊤, Ok, Err, is_err}
use Rattle.byte.specs.Byte.{pick, part_of}
use Rattle.lists.specs.declared.Fault.{Fault}
use Rattle.lists.specs.Fault.{is_fine, number_of, key_of}
use Rattle.lists.proofs.Faults.{fault-numbered}
use Rattle.config.specs.declared.Config.{Config}
use Rattle.apply.specs.Apply.{applied}
use Rattle.param.specs.Sets.{Sets}
use Rattle.report.specs.declared.ReportError.{ReportError}
use Rattle.report.specs.Answer.{reported, reported_into}
use Rattle.probe_record.specs.declared.Given.{Given}
use Rattle.probe_record.specs.declared.Reached.{Reached}
use Rattle.probe_record.specs.declared.Settled.{Settled}
use Rattle.probe_record.specs.Settled.{given_at, refusal, booked, step_of, first, settled, reached_of, told_len, told}

-- a state with nothing refused
abbrev pub on : ℕ → Config → Settled
on at c = record { number = 0; key = 0; at = at; config = c }

module _ (l : List ℕ) where
  settled-step : (n : ℕ) (s : Settled) → 0 < n → settled n l s ≡ settled (n - 1) l (step_of l s)
  unfolding settled
  settled-step zero s h = absurd (omega arith)
  settled-step (suc n) s h = let e : suc n - 1 ≡ n = omega arith in ap (λ (k : ℕ). settled k l (step_of l s)) (sym e)

  settled-still : (n : ℕ) (s : Settled) → step_of l s ≡ s → settled n l s ≡ s
  unfolding settled
  settled-still zero s e = refl
  settled-still (suc n) s e = ap (settled n l) e ∙ settled-still n s e

  step-refused : (s : Settled) → (s.number ≡ 0 → ⊥) → step_of l s ≡ s
  unfolding step_of
  step-refused s e = rw (ne_eqb s.number 0 e)

-- the settings from a place on, with the record c
module _ (n : ℕ) (l : List ℕ) (at : ℕ) (c : Config) where
  pub done : n ≤ 0 → settled n l (on at c) ≡ on at c
  unfolding settled
  done h = let e : n ≡ 0 = omega arith in rw e

  step-far : 65536 < at → step_of l (on at c) ≡ on at c
  unfolding step_of
  step-far f = rw (lt-ltb 65536 at f)

  pub far : 65536 < at → settled n l (on at c) ≡ on at c
  far f = settled-still l n (on at c) (step-far f)

  -- the next one comes to the fault f and, with none, to the record r
  module _ (h : 0 < n) (near : at ≤ 65536) (g : Given) (p : g ≡ given_at l at) (f : Result ⊤ Fault) (r : Config)
      (x : Sets f (applied g.kind (part_of g.start g.end l) g.start c) r) where
    step-on : step_of l (on at c) ≡ booked g (applied g.kind (part_of g.start g.end l) g.start c) (on at c)
    unfolding step_of
    step-on = rw (p, le-ltb 65536 at near)

    pub goes : is_fine f ≡ true → settled n l (on at c) ≡ settled (n - 1) l (on g.end r)
    goes e =
        let fine : is_fine (applied g.kind (part_of g.start g.end l) g.start c).fault ≡ true = ap is_fine (sym x.0) ∙ e in
        settled-step l n (on at c) h ∙ ap (settled (n - 1) l) (step-on ∙ rw (fine, x.1 fine))

    pub refuses : is_fine f ≡ false → settled n l (on at c) ≡ refusal (record { number = number_of f; key = key_of f g.kind; at = at })
    refuses e =
        let q : step_of l (on at c) ≡ refusal (record { number = number_of f; key = key_of f g.kind; at = at }) = step-on ∙ rw (sym x.0, e) in
        settled-step l n (on at c) h ∙ ap (settled (n - 1) l) q ∙ settled-still l (n - 1) _ (step-refused l _ (fault-numbered f e))

-- the same where the settings left are told by a counter
pub goes_next : (n k : ℕ) (l : List ℕ) (at : ℕ) (c : Config) → k < n → at ≤ 65536 → (g : Given) → g ≡ given_at l at → (f : Result ⊤ Fault) (r : Config)
    → Sets f (applied g.kind (part_of g.start g.end l) g.start c) r → is_fine f ≡ true → settled (n - k) l (on at c) ≡ settled (n - (k + 1)) l (on g.end r)
goes_next n k l at c h near g p f r x e =
    let less : n - k - 1 ≡ n - (k + 1) = omega arith in
    goes (n - k) l at c (omega arith) near g p f r x e ∙ ap (λ (m : ℕ). settled m l (on g.end r)) less

-- a refusal says no more than its number, its key and its place
abbrev Plain : Settled → Type 0
Plain s = (s.number ≡ 0 → ⊥) → refusal (reached_of s) ≡ s

either-plain : (s t : Settled) (b : Bool) → Plain s → Plain t → Plain (pick b s t)
either-plain s t true p q = p
either-plain s t false p q = q

step-plain : (l : List ℕ) (s : Settled) → Plain s → Plain (step_of l s)
unfolding step_of
step-plain l s p =
    either-plain _ s (eqb s.number 0) (either-plain s _ (ltb 65536 s.at) p (either-plain _ _ (is_fine (applied (given_at l s.at).kind (part_of (given_at l s.at).start (given_at l s.at).end l) (given_at l s.at).start s.config).fault) (λ h. absurd (h refl)) (λ h. refl))) p

settled_plain : (l : List ℕ) (n : ℕ) (s : Settled) → Plain s → Plain (settled n l s)
unfolding settled
settled_plain l zero s p = p
settled_plain l (suc n) s p = settled_plain l n (step_of l s) (step-plain l s p)

module _ (n : ℕ) (l : List ℕ) (e : Reached) (is : e ≡ reached_of (settled n l first)) where
  -- a list that is refused is told from how far it went
  pub refused-plain : (e.number ≡ 0 → ⊥) → refusal e ≡ settled n l first
  refused-plain h = rw is (settled_plain l n first (λ z. absurd (z refl)) (λ z. h (ap (λ (x : Reached). x.number) is ∙ z)))

-- what is told of a state that is known, and what its report leaves
pub told_of : (s t : Settled) → s ≡ t → (l d e : List ℕ) (room : ℕ) (a : Result ℕ ReportError) → a ≡ reported l s.config room → e ≡ reported_into l s.config d
    → (n : ℕ) → n ≡ told_len a
    → (record { number = s.number; key = s.key; at = s.at; len = n } ≡ told t l room) × (e ≡ reported_into l t.config d)
unfolding told
told_of s t q l d e room a p w n r = (rw (r, p, q), w ∙ ap (λ (x : Settled). reported_into l x.config d) q)

-- what is_err says of a verdict
pub bad-is : (f : Result ⊤ Fault) → is_err f ≡ true → is_fine f ≡ false
bad-is (Ok x) e = cc
bad-is (Err x) e = refl

pub fine-is : (f : Result ⊤ Fault) → is_err f ≡ false → is_fine f ≡ true
fine-is (Ok x) e = refl
fine-is (Err x) e = cc
