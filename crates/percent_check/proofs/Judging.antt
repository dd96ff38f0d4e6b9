-- A scan that judges the decoded text byte by byte, by the state of UTF-8: a turn takes the byte that was read, and at the end the state decides.
-- Assumes nothing.
use mathlib.Core.Path.{◌≡◌, sym, ap, ◌∙◌}
use mathlib.Core.Bool.{Bool}
use mathlib.Core.List.{List, [], ◌∷◌}
use Prim.Native.Nat.{ℕ}
use lib.ListN.{length}
use Rattle.utf8_state.specs.declared.State.{State}
use Rattle.utf8.specs.Utf8.{well_formed}
use Rattle.utf8_state.specs.Bytewise.{start_state, next_state, whole_state, state_after}
use Rattle.utf8_state.proofs.Bytewise.{after_none, after_more, whole-after}
use Rattle.percent.specs.Percent.{decoded}
use Rattle.percent_check.specs.Plain.{checked}

module _ (s : List ℕ) (t : State) (rest : List ℕ) (so_far : state_after start_state (decoded s) ≡ state_after t rest) where
  pub judged : (b : ℕ) (more : List ℕ) → rest ≡ b ∷ more → state_after start_state (decoded s) ≡ state_after (next_state t b) more
  judged b more e = so_far ∙ ap (state_after t) e ∙ after_more t b more

  pub judge-done : rest ≡ [] → whole_state t ≡ well_formed (decoded s)
  judge-done e = sym (whole-after (decoded s) ∙ ap whole_state (so_far ∙ ap (state_after t) e ∙ after_none t))

-- what the scan tells, whole
pub told : (s : List ℕ) (n : ℕ) (u : Bool) → n ≡ length (decoded s) → u ≡ well_formed (decoded s) → record { len = n; utf8 = u } ≡ checked s
told s n u a b = rw (a, b)
