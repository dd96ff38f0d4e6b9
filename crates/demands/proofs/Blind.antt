-- Demand 3's first half: two texts whose readings agree in everything but values set under password.
-- Assumes nothing.
use Prim.Native.Nat.{ℕ}
use mathlib.Core.Path.{◌≡◌, sym, ap, ◌∙◌}
use mathlib.Core.List.{List}
use lib.ListN.{length}
use Rattle.view.specs.Given.{Told, plain, told}
use Rattle.view.specs.Hidden.{hidden_told}
use Rattle.view.proofs.Veiled.{same-told}
use Rattle.outcome.specs.Outcome.{reading, answer, left}
use Rattle.demands.specs.Blind.{Readable, Alike, SameButPassword, tells}
use Rattle.demands.proofs.Shows.{read-tells}

pub blind : (s t d e : List ℕ) → Readable s d → Readable t e → Alike (reading s) (reading t)
    → SameButPassword (answer s (length d)) (left s d) (answer t (length e)) (left t e)
unfolding tells
blind s t d e r q a =
    record {
      number = ap (λ (w : Told). w.number) same;
      key = ap (λ (w : Told). w.key) same;
      count = ap (λ (w : Told). w.count) same;
      values = ap (λ (w : Told). w.values) same;
    }
  where
    same : hidden_told (tells (answer s (length d)) (left s d)) ≡ hidden_told (tells (answer t (length e)) (left t e))
    same =
        ap hidden_told (read-tells s d r)
        ∙ same-told (reading s).settings (reading t).settings (reading s).end 0 plain a.settings
        ∙ ap (λ (n : ℕ). hidden_told (told plain 0 (reading t).settings n)) a.end
        ∙ sym (ap hidden_told (read-tells t e q))
