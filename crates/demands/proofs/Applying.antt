-- "The first that can't be applied decides; if all can, the end decides": one of the two is the case for every reading, and what each comes to.
-- Assumes nothing.
use Prim.Native.Nat.{ℕ, ◌+◌}
use mathlib.Core.Path.{◌≡◌, refl, sym, ap, ◌∙◌}
use mathlib.Core.Bool.{Bool, true, false}
use mathlib.Core.List.{List, [], ◌∷◌, ◌++◌, append_assoc, append-nil}
use mathlib.Core.Logic.{◌⊎◌, inl, inr}
use native.Mathlib.Nat.{add-zero}
use native.Mathlib.Omega.{arith}
use lib.ListN.{length}
use Rattle.setting.specs.Setting.{Setting, kind_of, value_of}
use Rattle.std.specs.Prelude.{Ok}
use Rattle.lists.specs.Fault.{is_fine, number_of, key_of}
use Rattle.lists.proofs.Faults.{fine-none}
use Rattle.config.specs.declared.Config.{Config}
use Rattle.config.specs.Config.{defaults}
use Rattle.apply.specs.Apply.{Applied, applied}
use Rattle.outcome.specs.Outcome.{reading, kept, refused, ended, outcome, outcome_of}
use Rattle.demands.specs.Giving.{joined, Applies, none, next, FailsFrom, Fails, WholeFrom, Whole}

-- settings that can be applied, before others: they are counted, and what is kept of them is packed
applies-on : {b : List ℕ} {c d : Config} {xs : List Setting} → Applies b c xs d → (n : ℕ) (rest : List Setting) (end : ℕ)
    → outcome c b n (xs ++ rest) end ≡ outcome d (b ++ joined xs) (n + length xs) rest end
unfolding outcome joined
applies-on {b} {c} none n rest end = rw (append-nil b, add-zero n)
applies-on {b} {c} {d} (next {x = x} {xs = xs} e a) n rest end =
    rw e
    (applies-on a (n + 1) rest end
    ∙ ap (λ (y : List ℕ). outcome d y (n + 1 + length xs) rest end) (append_assoc b (kept x) (joined xs))
    ∙ ap (λ (k : ℕ). outcome d (b ++ (kept x ++ joined xs)) k rest end) (omega arith))

module _ (b : List ℕ) (c : Config) (xs : List Setting) (end : ℕ) where
  -- all can: the end decides
  all_end : (d : Config) → Applies b c xs d → outcome c b 0 xs end ≡ ended d (b ++ joined xs) (length xs) end
  unfolding outcome
  all_end d a = ap (λ (l : List Setting). outcome c b 0 l end) (sym (append-nil xs)) ∙ applies-on a 0 [] end ∙ ap (λ (k : ℕ). ended d (b ++ joined xs) k end) (omega arith)

  -- the first that can't decides
  first_ends : (f : FailsFrom b c xs) → outcome c b 0 xs end ≡ refused (number_of f.fault) (key_of f.fault (kind_of f.setting)) (length f.before)
  unfolding outcome
  first_ends f =
      ap (λ (l : List Setting). outcome c b 0 l end) f.splits
      ∙ applies-on f.applies 0 (f.setting ∷ f.behind) end
      ∙ rw (f.has, f.fails) (ap (refused (number_of f.fault) (key_of f.fault (kind_of f.setting))) (omega arith))

-- one setting more in front
module _ (b : List ℕ) (c : Config) (x : Setting) (xs : List Setting) where
  abbrev done : Applied
  done = applied (kind_of x) (value_of x) (length b) c

  fails-now : is_fine done.fault ≡ false → FailsFrom b c (x ∷ xs)
  unfolding joined
  fails-now e =
      record {
        before = [];
        setting = x;
        behind = xs;
        splits = refl;
        config = c;
        applies = none;
        fault = done.fault;
        has = ap (λ (y : List ℕ). (applied (kind_of x) (value_of x) (length y) c).fault) (append-nil b);
        fails = e;
      }

  module _ (e : done.fault ≡ Ok tt) where
    fails-later : FailsFrom (b ++ kept x) done.config xs → FailsFrom b c (x ∷ xs)
    unfolding joined
    fails-later f =
        record {
          before = x ∷ f.before;
          setting = f.setting;
          behind = f.behind;
          splits = ap (λ (l : List Setting). x ∷ l) f.splits;
          config = f.config;
          applies = next e f.applies;
          fault = f.fault;
          has =
              ap (λ (y : List ℕ). (applied (kind_of f.setting) (value_of f.setting) (length y) f.config).fault) (sym (append_assoc b (kept x) (joined f.before)))
              ∙ f.has;
          fails = f.fails;
        }

    whole-later : WholeFrom (b ++ kept x) done.config xs → WholeFrom b c (x ∷ xs)
    whole-later w = record { config = w.config; applies = next e w.applies }

    later : FailsFrom (b ++ kept x) done.config xs ⊎ WholeFrom (b ++ kept x) done.config xs → FailsFrom b c (x ∷ xs) ⊎ WholeFrom b c (x ∷ xs)
    later (inl f) = inl (fails-later f)
    later (inr w) = inr (whole-later w)

first-or-all : (xs : List Setting) (b : List ℕ) (c : Config) → FailsFrom b c xs ⊎ WholeFrom b c xs
first-or-all [] b c = inr (record { config = c; applies = none })
first-or-all (x ∷ xs) b c = by (is_fine (done b c x xs).fault) refl (first-or-all xs (b ++ kept x) (done b c x xs).config)
  where
    by : (k : Bool) → is_fine (done b c x xs).fault ≡ k → FailsFrom (b ++ kept x) (done b c x xs).config xs ⊎ WholeFrom (b ++ kept x) (done b c x xs).config xs
        → FailsFrom b c (x ∷ xs) ⊎ WholeFrom b c (x ∷ xs)
    by true e r = later b c x xs (fine-none (done b c x xs).fault e) r
    by false e r = inl (fails-now b c x xs e)

-- of a text: one of the two is the case, and each decides
module _ (s : List ℕ) where
  pub fails-or-whole : Fails s ⊎ Whole s
  fails-or-whole = first-or-all (reading s).settings [] defaults

  pub outcome-fails : (f : Fails s) → outcome_of s ≡ refused (number_of f.fault) (key_of f.fault (kind_of f.setting)) (length f.before)
  unfolding outcome_of
  outcome-fails f = first_ends [] defaults (reading s).settings (reading s).end f

  pub outcome-whole : (w : Whole s) → outcome_of s ≡ ended w.config (joined (reading s).settings) (length (reading s).settings) (reading s).end
  unfolding outcome_of
  outcome-whole w = all_end [] defaults (reading s).settings (reading s).end w.config w.applies
