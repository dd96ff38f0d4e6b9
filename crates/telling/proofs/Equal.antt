-- Two reports are equal exactly when all that they show is equal, the password only in being set or not.
-- Assumes nothing.
use Prim.Native.Nat.{ℕ}
use mathlib.Core.Path.{◌≡◌, refl, sym, ap, ◌∙◌}
use mathlib.Core.List.{List}
use mathlib.Core.Logic.{◌↔◌}
use Rattle.std.specs.Prelude.{Option, Some, None}
use Rattle.line.specs.Line.{secret_value}
use Rattle.field.specs.Field.{optional}
use Rattle.config.specs.Values.{Values}
use Rattle.view.specs.Hidden.{only_set, hidden}
use Rattle.report.specs.Report.{values, report}
use Rattle.telling.specs.Ranged.{Ranged}
use Rattle.telling.specs.ReadBack.{read_back}
use Rattle.telling.proofs.Told.{told}

-- A report shows no more than that: the password's value is not in it.
veil-shown : (t : Option (List ℕ)) → optional (λ (x : List ℕ). secret_value) (only_set t) ≡ optional (λ (x : List ℕ). secret_value) t
veil-shown None = refl
veil-shown (Some x) = refl

pub report-hidden : (v : Values) → report (hidden v) ≡ report v
unfolding report values hidden
report-hidden v = rw (veil-shown v.password)

pub blind : (v w : Values) → hidden v ≡ hidden w → report v ≡ report w
blind v w e = sym (report-hidden v) ∙ ap report e ∙ report-hidden w

-- Two reports are equal exactly when all that is shown is equal, the password only in being set or not.
pub telling : (v w : Values) → Ranged v → Ranged w → (report v ≡ report w) ↔ (hidden v ≡ hidden w)
telling v w r s = ((λ e. sym (told v r) ∙ ap read_back e ∙ told w s), blind v w)
