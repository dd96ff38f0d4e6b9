-- Drawing no line, one line, and the lines of a list's entries.
-- Assumes nothing.
use Rattle.std.proofs.Common.{◌≡◌, ℕ, suc, ◌+◌, ◌<◌, ◌≤◌, List, [], ◌∷◌, length, get_or, drop, map, refl, sym, ap, ◌∙◌, add-one, drop-cons}
use lib.ListN.{drop_of_length-le}
use Rattle.line.specs.Line.{line, lines}
use Rattle.line.proofs.Lines.{draw-none, draw-one, lines_cons}
use Rattle.draw.specs.Pen.{Sheet, drawn}
use Rattle.draw.proofs.Drawing.{draw-then}

module _ (key : ℕ) (s : Sheet) where
  pub none_drawn : s ≡ drawn s (lines key [])
  none_drawn = draw-none key s

  pub one_drawn : (t : Sheet) (value : List (List ℕ)) → t ≡ drawn s (line key value) → t ≡ drawn s (lines key (value ∷ []))
  one_drawn t value e = draw-one key s t value e

-- what is drawn so far, and what is left from the place i on
module _ (key : ℕ) {A : Type 0} (f : A → List (List ℕ)) (entries : List A) where
  abbrev pub Left : Sheet → Sheet → ℕ → Type 0
  Left s t i = drawn s (lines key (map f entries)) ≡ drawn t (lines key (map f (drop i entries)))

  pub entry_more : (s t u : Sheet) (i : ℕ) (d : A) → Left s t i → i < length entries → u ≡ drawn t (line key (f (get_or entries i d))) → Left s u (i + 1)
  entry_more s t u i d l k e =
      l ∙ rw (add-one, drop-cons entries i d k) (sym (draw-then t u _ (line key (f (get_or entries i d))) (lines key (map f (drop (suc i) entries))) e refl ∙ ap (drawn t) (sym (lines_cons key _ _))))

  pub entries_ended : (s t : Sheet) (i : ℕ) → Left s t i → length entries ≤ i → t ≡ drawn s (lines key (map f entries))
  entries_ended s t i l h = sym (l ∙ rw (drop_of_length-le entries h) (sym (draw-none key t)))
