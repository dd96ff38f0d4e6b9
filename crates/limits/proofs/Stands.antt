-- Where nyimbrak_place says that a value stands: inside the bytes up to the text's length.
-- Assumes nothing.
use Prim.Native.Nat.{ℕ, ◌+◌, ◌^◌, ◌≤◌}
use mathlib.Core.Path.{◌≡◌, refl, sym, ap, ◌∙◌}
use mathlib.Core.Bool.{Bool, true, false}
use mathlib.Core.List.{List}
use native.Mathlib.Omega.{arith}
use borrow.Author.Tests.{eq-eqb, ne_eqb, eqb-true, eqb-false}
use lib.Dec.{eqb}
use lib.ListN.{length}
use Rattle.byte.specs.Byte.{pick}
use Rattle.std.specs.Prelude.{Option, Some, None}
use Rattle.lists.specs.declared.Place.{Place}
use Rattle.config.specs.declared.Config.{Config}
use Rattle.config.specs.Config.{unset}
use Rattle.config.specs.Sound.{text_in}
use Rattle.view.proofs.Places.{place-ends}
use Rattle.view.proofs.Seen.{In}
use Rattle.places.specs.Places.{text_of, somewhere, place_of}
use Rattle.answers.specs.Places.{place}
use Rattle.limits.specs.Limits.{number, given, Stands}
use Rattle.limits.proofs.Entries.{inside, number-low, reads}

-- the text of any key lies where the record lies
text-inside : (n : ℕ) (c : Config) (key : ℕ) → In n c → text_in n (text_of key c) ≡ true
unfolding text_of text_in
text-inside n c key h = by (eqb key 1) (eqb key 2) (eqb key 3) (eqb key 4) (eqb key 5)
  where
    by : (p q r s t : Bool)
        → text_in n (pick p c.user (pick q c.password (pick r c.dbname (pick s c.options (pick t c.application_name unset))))) ≡ true
    by true q r s t = h.user
    by false true r s t = h.password
    by false false true s t = h.dbname
    by false false false true t = h.options
    by false false false false true = h.application_name
    by false false false false false = refl

module _ (n : ℕ) (p : Place) (h : text_in n (Some p) ≡ true) where
  place-told : place_of n (Some p) ≡ somewhere p
  unfolding place_of text_in
  place-told = rw h

  place-low : p.start + p.len ≤ n
  unfolding text_in
  place-low = place-ends n p h

module _ (s d : List ℕ) (key : ℕ) where
  abbrev text : Option Place
  text = text_of key (given s d)

  abbrev here : ℕ
  here = place s (length d) key

  text-in : text_in (length s) text ≡ true
  text-in = text-inside (length s) (given s d) key (inside s d)

  place-refused : (number s d ≡ 0 → ⊥) → here ≡ 2 ^ 63 + number s d
  unfolding place
  place-refused not = rw (ne_eqb (number s d) 0 not)

  place-given : number s d ≡ 0 → here ≡ place_of (length s) text
  unfolding place
  place-given is = rw (eq-eqb (number s d) 0 is)

  place-unset : number s d ≡ 0 → text ≡ None → here ≡ 0
  unfolding place_of
  place-unset is e = place-given is ∙ rw e

  module _ (p : Place) (is : number s d ≡ 0) (e : text ≡ Some p) where
    in-text : text_in (length s) (Some p) ≡ true
    in-text = ap (text_in (length s)) (sym e) ∙ text-in

    place_set : here ≡ somewhere p
    place_set = place-given is ∙ ap (place_of (length s)) e ∙ place-told (length s) p in-text

    place_inside : p.start + p.len ≤ length s
    place_inside = place-low (length s) p in-text

  never-outside : here ≡ 2 ^ 63 + 17 → ⊥
  never-outside q = by (eqb (number s d) 0) refl text refl
    where
      by : (t : Bool) → eqb (number s d) 0 ≡ t → (u : Option Place) → text ≡ u → ⊥
      by false e u f = omega (arith, number-low s d, place-refused (eqb-false (number s d) 0 e), q)
      by true e (Some p) f =
          let is = eqb-true (number s d) 0 e in
          omega (arith, (reads s d is).short, place_inside p is f, place_set p is f, q)
      by true e None f = omega (arith, place-unset (eqb-true (number s d) 0 e) f, q)

  pub stands : Stands s d key
  stands = record { refused = place-refused; unset = place-unset; set = place_set; inside = place_inside; never = never-outside }
