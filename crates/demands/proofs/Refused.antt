-- Demand 1 and "Numbers handed back": each number is given exactly when document 01 says so, and what a refused and an accepted text give and leave.
-- Assumes nothing.
use Prim.Native.Nat.{ℕ}
use mathlib.Core.Path.{◌≡◌, refl, sym, ap, subst, ◌∙◌}
use mathlib.Core.List.{List, []}
use mathlib.Core.Logic.{◌↔◌, inl}
use native.Mathlib.Nat.{sub-zero}
use native.Mathlib.Omega.{arith}
use lib.ListN.{length, take, drop, replicate}
use borrow.Author.Tests.{ne_eqb, eq-eqb}
use Rattle.setting.specs.Setting.{kind_of, value_of}
use Rattle.std.specs.Prelude.{Result, ⊤}
use Rattle.lists.specs.declared.Fault.{Fault}
use Rattle.lists.specs.Fault.{is_fine, number_of, key_of}
use Rattle.outcome.specs.declared.Answer.{Answer}
use Rattle.outcome.specs.Outcome.{answer, left}
use Rattle.outcome.proofs.Answers as Answers
use Rattle.demands.specs.Giving.{joined, Fails, Reason, Read, Gives, too_long, no_room, not-utf8, first-fails, end-refuses, accepts}
use Rattle.demands.specs.Leaving.{Leaves, Names, Refused, Accepted, Refusing}
use Rattle.demands.proofs.Reasons.{reason, reason-five, reason-four}
use Rattle.demands.proofs.Answering.{gives, answers}
use Rattle.demands.proofs.Numbers.{fault-low, end_low, one, two, three, zero, fault, end}
use Rattle.demands.proofs.Buffer.{left-fails, left-refused, left-accepted, left-not-utf8}

key-none : (f : Result ⊤ Fault) (kind : ℕ) → (number_of f ≡ 5 → ⊥) → key_of f kind ≡ 0
key-none f kind h = rw (ne_eqb (number_of f) 5 h)

key-five : (f : Result ⊤ Fault) (kind : ℕ) → number_of f ≡ 5 → key_of f kind ≡ kind
key-five f kind h = rw (eq-eqb (number_of f) 5 h)

-- the first that can't be applied, by its kind
first-reason : (s : List ℕ) (f : Fails s) → Reason f.config (value_of f.setting) (kind_of f.setting) (number_of f.fault)
first-reason s f =
    subst (λ (x : Result ⊤ Fault). Reason f.config (value_of f.setting) (kind_of f.setting) (number_of x)) f.has
    (reason (value_of f.setting) (length (joined f.before)) f.config f.setting (ap is_fine f.has ∙ f.fails))

-- 4 is given for an unknown key, and for nothing else
unknown-key : (s : List ℕ) (room : ℕ) → ((answer s room).number ≡ 4) ↔ (Read s room × ((f : Fails s) × (kind_of f.setting ≡ 0)))
unknown-key s room =
    let by = fault s room 4 (inl (omega arith, omega arith)) in (
      λ e. let x = by.0 e in (x.0, (x.1.0, (reason-four (first-reason s x.1.0)).0 x.1.1)),
      λ x. by.1 (x.0, (x.1.0, (reason-four (first-reason s x.1.0)).1 x.1.1)),
    )

module _ (s d : List ℕ) where
  names : (f : Fails s) → number_of f.fault ≡ 5 → Names s (key_of f.fault (kind_of f.setting))
  names f e =
      let k : key_of f.fault (kind_of f.setting) ≡ kind_of f.setting = key-five f.fault (kind_of f.setting) e in
      let r = reason-five (first-reason s f) e in
      record { first = f; is = k; low = omega (arith, r.0); high = omega (arith, r.1) }

  -- a buffer over which zeros stand
  zeros : (l : List ℕ) → Leaves s [] d l → take (length s) l ≡ replicate (length s) 0
  zeros l x = x.front ∙ ap (λ (n : ℕ). replicate n 0) (sub-zero (length s))

  by-refused : {a : Answer} → Gives s (length d) a → (a.number ≡ 0 → ⊥) → Refused s d a (left s d)
  by-refused (too_long h) n =
      let e : left s d ≡ d = sym (Answers.too_long s d h).1 in
      record {
        default = refl;
        no_key = λ _. refl;
        key = λ z. absurd (omega arith);
        none-applied = λ _. refl;
        untouched = λ _. e;
        zeroed = λ z. absurd (omega arith);
        behind = ap (drop (length s)) e;
        long = ap length e;
      }
  by-refused (no_room a h) n =
      let e : left s d ≡ d = sym (Answers.no_room s d a h).1 in
      record {
        default = refl;
        no_key = λ _. refl;
        key = λ z. absurd (omega arith);
        none-applied = λ _. refl;
        untouched = λ _. e;
        zeroed = λ z. absurd (omega arith);
        behind = ap (drop (length s)) e;
        long = ap length e;
      }
  by-refused (not-utf8 a b h) n =
      let x : Leaves s [] d (left s d) = left-not-utf8 s d a b h in
      record {
        default = refl;
        no_key = λ _. refl;
        key = λ z. absurd (omega arith);
        none-applied = λ _. refl;
        untouched = λ z. absurd (omega arith);
        zeroed = λ _. zeros (left s d) x;
        behind = x.behind;
        long = x.long;
      }
  by-refused (first-fails r f) n =
      let x : Leaves s [] d (left s d) = left-fails s d r f in
      record {
        default = refl;
        no_key = λ z. key-none f.fault (kind_of f.setting) z;
        key = λ z. names f z;
        none-applied = λ z. absurd (omega (arith, fault-low s (length d) f));
        untouched = λ z. absurd (omega (arith, fault-low s (length d) f));
        zeroed = λ _. zeros (left s d) x;
        behind = x.behind;
        long = x.long;
      }
  by-refused (end-refuses r w h) n =
      let x : Leaves s [] d (left s d) = left-refused s d r w h in
      record {
        default = refl;
        no_key = λ _. refl;
        key = λ z. absurd (omega (arith, end_low s (length d) h));
        none-applied = λ z. absurd (omega (arith, end_low s (length d) h));
        untouched = λ z. absurd (omega (arith, end_low s (length d) h));
        zeroed = λ _. zeros (left s d) x;
        behind = x.behind;
        long = x.long;
      }
  by-refused (accepts r w h) n = absurd (n refl)

  -- "Refusing a text gives a number, how many settings were applied before it, and a fresh default record. It zeroes the decode buffer over the text's length;
  -- where the text is too long or that buffer too short, nothing is touched."
  on-refusal : ((answer s (length d)).number ≡ 0 → ⊥) → Refused s d (answer s (length d)) (left s d)
  on-refusal n = by-refused (gives s (length d)) n

on-acceptance : (s d : List ℕ) → (answer s (length d)).number ≡ 0 → Accepted s d (answer s (length d)) (left s d)
on-acceptance s d e =
    let h = (zero s (length d)).0 e in
    record { whole = h.1; gives_all = (answers s (length d) _).1 (accepts h.0 h.1 h.2); leaves = left-accepted s d h.0 h.1 h.2 }

-- theorem 1
pub refusing : (s d : List ℕ) → Refusing s d
refusing s d =
    record {
      exactly = answers s (length d);
      one = one s (length d);
      two = two s (length d);
      three = three s (length d);
      fault = fault s (length d);
      four = unknown-key s (length d);
      reason = first-reason s;
      end = end s (length d);
      zero = zero s (length d);
      on-refusal = on-refusal s d;
      on-acceptance = on-acceptance s d;
    }
