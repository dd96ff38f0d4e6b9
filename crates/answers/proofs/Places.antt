-- Where a value lies, from what the reader answers.
-- Assumes nothing.
use mathlib.Core.Path.{◌≡◌, ap}
use mathlib.Core.List.{List}
use Prim.Native.Nat.{ℕ}
use lib.ListN.{length}
use borrow.Author.Tests.{eq-eqb, ne_eqb}
use Rattle.std.specs.Prelude.{Option}
use Rattle.lists.specs.declared.Place.{Place}
use Rattle.outcome.specs.declared.Answer.{Answer}
use Rattle.outcome.specs.Outcome.{answer}
use Rattle.places.specs.Places.{text_of, nowhere, place_of}
use Rattle.answers.specs.Places.{place}

module _ (s : List ℕ) (room : ℕ) (a : Answer) (e : a ≡ answer s room) where
  pub place-refused : (a.number ≡ 0 → ⊥) → (key : ℕ) → nowhere a.number ≡ place s room key
  unfolding place
  place-refused not key = rw (← e, ne_eqb _ _ not)

  pub place-told : a.number ≡ 0 → (key : ℕ) (t : Option Place) → t ≡ text_of key a.config → place_of (length s) t ≡ place s room key
  unfolding place
  place-told is key t f = rw (← e, eq-eqb _ _ is) (ap (place_of (length s)) f)
