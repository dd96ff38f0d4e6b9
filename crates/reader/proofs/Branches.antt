-- A turn of the reader: a setting is applied, or the text is refused at it; and the end.
-- Assumes nothing.
use Prim.Native.Nat.{ℕ, ◌+◌, ◌-◌, ◌≤◌, ◌<◌}
use mathlib.Core.Path.{◌≡◌, refl, sym, ap, ◌∙◌}
use mathlib.Core.Bool.{Bool, true, false}
use mathlib.Core.List.{List}
use native.Mathlib.Omega.{arith}
use mir.Syntax.{w64}
use mir.Val.{Fits}
use lib.ListN.{length, replicate}
use Rattle.std.specs.Prelude.{Option, Some, None, Result, Ok, Err, is_err, ⊤}
use Rattle.byte.specs.Byte.{part_of}
use Rattle.byte.specs.Put.{written}
use Rattle.url_parser.specs.declared.Url.{Url}
use Rattle.lists.specs.declared.Fault.{Fault}
use Rattle.lists.specs.Fault.{is_fine, number_of, key_of}
use Rattle.config.specs.declared.Config.{Config}
use Rattle.apply.specs.Apply.{applied}
use Rattle.param.specs.Sets.{Sets}
use Rattle.taking.specs.declared.Taken.{Taken}
use Rattle.setting.specs.declared.Refusal.{Refusal}
use Rattle.setting.specs.Refusal.{refusal_number}
use Rattle.taking.specs.Taking.{taken_of, taken_leaves}
use Rattle.taking.proofs.Next.{measure, slack}
use Rattle.outcome.specs.declared.Answer.{Answer}
use Rattle.outcome.specs.Outcome.{outcome_of, filled}
use Rattle.ending.specs.Ending.{ending}
use Rattle.outcome.specs.Outcome.{ending_of}
use Rattle.outcome.specs.Steps.{State}
use Rattle.outcome.proofs.Going.{Going, refusal-numbered, go_on, go-off, at-end}
use Rattle.outcome.proofs.Answers.{refused-text, end-fine, end-broken}

-- the count stays far below the largest number
pub count_fits : (s d₀ : List ℕ) (uri : Bool) (d : List ℕ) (st : State) (n : ℕ) → Going s d₀ uri 8194 d st n → Fits w64 (n + 1)
count_fits s d₀ uri d st n g = record { fits = omega (arith, g.counted) }

abbrev pub state : Config → ℕ → Url → State
state c at u = record { config = c; packed = at; url = u }

module _ (s d₀ : List ℕ) (uri : Bool) (d : List ℕ) (c : Config) (at : ℕ) (u : Url) (n : ℕ) (g : Going s d₀ uri 8194 d (state c at u) n) (long : length s ≤ length d₀)
    (took : Result Taken (Option Refusal)) (is : took ≡ taken_of s uri u at d) (l : List ℕ) (w : l ≡ taken_leaves s uri u at d) where
  -- what is applied comes to the verdict f and, with none refused, to the record r
  module _ (t : Taken) (q : took ≡ Ok t) (f : Result ⊤ Fault) (r : Config) (x : Sets f (applied t.kind (part_of at t.end l) at c) r) where
    pub goes : is_fine f ≡ true → Going s d₀ uri 8194 l (state r t.packed t.next) (n + 1) × (measure s uri t.next < measure s uri u)
    goes e =
        let fine : is_fine (applied t.kind (part_of at t.end l) at c).fault ≡ true = ap is_fine (sym x.0) ∙ e in
        rw (x.1 fine) (go_on s d₀ uri 8194 d (state c at u) n g long took is l w t q (applied t.kind (part_of at t.end l) at c) refl fine)

    pub refuses : is_fine f ≡ false
        → (ending (number_of f) (key_of f t.kind) n ≡ ending_of (outcome_of s).answer) × (written l 0 (replicate (length s) 0) ≡ filled s (outcome_of s).packed d₀)
    refuses e =
        let a = applied t.kind (part_of at t.end l) at c in
        let o = go-off s d₀ uri 8194 d (state c at u) n g long took is l w t q a refl (ap is_fine (sym x.0) ∙ e) in
        let p = refused-text s d₀ l g.bytes o.0 long (number_of a.fault) (key_of a.fault t.kind) n o.1 in
        (ap (λ (y : Result ⊤ Fault). ending (number_of y) (key_of y t.kind) n) x.0 ∙ ap ending_of p.0, p.1)

  low : length g.bytes ≤ length s
  unfolding slack
  low = omega (arith, g.low, g.at)

  pub end-accepts : took ≡ Err None
      → (ending 0 0 n ≡ ending_of (outcome_of s).answer) × (written l at (replicate (length s - at) 0) ≡ filled s (outcome_of s).packed d₀) × (c ≡ (outcome_of s).answer.config)
  end-accepts q =
      let o = at-end s d₀ uri 8194 d (state c at u) n g long took is l w 0 (rw q refl) in
      let p = end-fine s d₀ l g.bytes o.0 long c n at 0 g.long low refl o.1 in
      (ap ending_of p.0, p.1, ap (λ (y : Answer). y.config) p.0)

  pub end-refuses : (r : Refusal) → took ≡ Err (Some r)
      → (ending (refusal_number r) 0 n ≡ ending_of (outcome_of s).answer) × (written l 0 (replicate (length s) 0) ≡ filled s (outcome_of s).packed d₀) × (refusal_number r ≡ 0 → ⊥)
  end-refuses r q =
      let o = at-end s d₀ uri 8194 d (state c at u) n g long took is l w (refusal_number r) (rw q refl) in
      let p = end-broken s d₀ l g.bytes o.0 long c n (refusal_number r) (refusal-numbered r) o.1 in
      (ap ending_of p.0, p.1, refusal-numbered r)

-- no record is promised of a refusal
pub no_record : {A : Type 0} → (number : ℕ) → (number ≡ 0 → ⊥) → (r : ℕ) → r ≡ number → r ≡ 0 → A
no_record number h r e z = absurd (h (sym e ∙ z))

-- what is_err says of a verdict
pub bad-is : (f : Result ⊤ Fault) → is_err f ≡ true → is_fine f ≡ false
bad-is (Ok x) e = cc
bad-is (Err x) e = refl

pub fine-is : (f : Result ⊤ Fault) → is_err f ≡ false → is_fine f ≡ true
fine-is (Ok x) e = refl
fine-is (Err x) e = cc
