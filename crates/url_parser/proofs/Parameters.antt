-- Laws of parameters: the first of them, then those behind it.
-- Assumes nothing.
use Prim.Native.Nat.{ℕ, zero, suc, ◌+◌, ◌<◌, ◌≤◌}
use mathlib.Core.Path.{◌≡◌, refl, ap, sym, ◌∙◌}
use mathlib.Core.List.{List, [], ◌∷◌}
use native.Mathlib.Omega.{arith}
use lib.ListN.{length, drop}
use Rattle.split.specs.Split.{first_at}
use Rattle.setting.specs.Setting.{ends}
use Rattle.url_parser.specs.Uri.{beyond, parameter, parameters_from, parameters}

pub parameters-skip : (k : ℕ) (t : List ℕ) → parameters_from k t ≡ parameters (drop k t)
unfolding parameters parameters_from
parameters-skip zero t = refl
parameters-skip (suc k) [] = refl
parameters-skip (suc k) (a ∷ t) = parameters-skip k t

pub parameters-none : (t : List ℕ) → length t ≤ 0 → parameters t ≡ ends 0
unfolding parameters parameters_from
parameters-none [] h = refl
parameters-none (a ∷ t) h = absurd (omega arith)

-- how far a parameter reaches, with its `=` and its `&`
abbrev pub param_len : List ℕ → ℕ
param_len t = first_at 61 t + 1 + first_at 38 (beyond 61 t) + 1

pub parameters-first : (t : List ℕ) → 0 < length t → parameters t ≡ parameter t (parameters (drop (param_len t) t))
unfolding parameters parameters_from
parameters-first [] h = absurd (omega arith)
parameters-first (a ∷ t) h =
    let k = first_at 61 (a ∷ t) + first_at 38 (beyond 61 (a ∷ t)) + 1 in
    let e : param_len (a ∷ t) ≡ suc k = omega arith in
    ap (parameter (a ∷ t)) (parameters-skip k t ∙ ap (λ (n : ℕ). parameters (drop n (a ∷ t))) (sym e))
