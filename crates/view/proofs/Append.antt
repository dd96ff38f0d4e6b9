-- A list with pieces appended, for entries of any type: the fault, and the counted entries.
-- Assumes nothing.
use Prim.Native.Nat.{ℕ, ◌+◌, ◌≤◌, ◌<◌}
use mathlib.Core.Path.{◌≡◌, refl, sym, ap, ◌∙◌}
use mathlib.Core.Bool.{Bool, true, false}
use mathlib.Core.List.{List, [], ◌∷◌, ◌++◌, map, append_assoc, append-nil}
use native.Mathlib.Omega.{arith}
use native.Mathlib.Numerals.{add-one}
use borrow.Author.Tests.{ltb-true}
use lib.Dec.{ltb}
use lib.ListN.{length, take, length-set}
use lib.Seq.{take-suc-set, length-take-le}
use Rattle.byte.specs.Byte.{pick}
use Rattle.lists.specs.declared.Fault.{Fault}
use Rattle.lists.specs.Fault.{is_fine}
use Rattle.lists.specs.Append.{Piece, good, bad, Slots, More, more, pushed, append, append_from, pieces_from}
use Rattle.std.specs.Prelude.{Ok, Err}
use Rattle.view.specs.Given.{list_refused, entries_of}

-- a list of sixteen places, of which at most sixteen are counted
pub record Room {A : Type 0} (s : Slots A) : Type 0 where
  pub places : length s.list ≡ 16
  pub counted : s.count ≤ 16

abbrev pub entries : {A : Type 0} → Slots A → List A
entries s = take s.count s.list

module _ {A : Type 0} where
  pub count_entries : (s : Slots A) → Room s → length (entries s) ≡ s.count
  count_entries s h = length-take-le s.count s.list (omega (arith, h.places, h.counted))

  pushed-entries : (s : Slots A) (a : A) → Room s → s.count < 16 → entries (pushed s a) ≡ entries s ++ (a ∷ [])
  pushed-entries s a h l = rw (add-one, take-suc-set s.list s.count a (omega (arith, h.places)))

  pushed_room : (s : Slots A) (a : A) → Room s → s.count < 16 → Room (pushed s a)
  pushed_room s a h l = record { places = rw length-set h.places; counted = omega arith }

  -- how it goes on behind a piece: with the rest, or back to the old list
  abbrev onward : Fault → Slots A → List (Piece A) → More A → More A
  onward full old ps m = pick (is_fine m.fault) (append_from full old m.slots ps) (more m.fault old)

  abbrev one : Fault → Slots A → A → Bool → More A
  one full s a t = pick t (more (Ok tt) (pushed s a)) (more (Err full) s)

  -- the pieces' entries stand behind the old ones, and there is still room
  abbrev pub Grown : Slots A → List (Piece A) → Slots A → Type 0
  Grown s ps now = (entries now ≡ entries s ++ entries_of ps) × Room now

  module _ (full : Fault) where
    pub append-fault : (old s : Slots A) (ps : List (Piece A)) → (append_from full old s ps).fault ≡ list_refused full s.count ps
    unfolding append_from list_refused
    append-fault old s [] = refl
    append-fault old s (good a ∷ ps) = by (ltb s.count 16) (append-fault old (pushed s a) ps)
      where
        by : (t : Bool) → (append_from full old (pushed s a) ps).fault ≡ list_refused full (s.count + 1) ps
            → (onward full old ps (one full s a t)).fault ≡ pick t (list_refused full (s.count + 1) ps) (Err full)
        by true h = h
        by false h = refl
    append-fault old s (bad f ∷ ps) = refl

    pub append-entries : (old s : Slots A) (ps : List (Piece A)) → Room s → is_fine (list_refused full s.count ps) ≡ true → Grown s ps (append_from full old s ps).slots
    unfolding append_from list_refused entries_of
    append-entries old s [] h fine = (sym (append-nil (entries s)), h)
    append-entries old s (good a ∷ ps) h fine = by (ltb s.count 16) refl fine (append-entries old (pushed s a) ps)
      where
        by : (t : Bool) → ltb s.count 16 ≡ t → is_fine (pick t (list_refused full (s.count + 1) ps) (Err full)) ≡ true
            → (Room (pushed s a) → is_fine (list_refused full (s.count + 1) ps) ≡ true → Grown (pushed s a) ps (append_from full old (pushed s a) ps).slots)
            → Grown s (good a ∷ ps) (onward full old ps (one full s a t)).slots
        by true l g rest =
            let c : s.count < 16 = ltb-true s.count 16 l in
            let r = rest (pushed_room s a h c) g in
            (r.0 ∙ rw (pushed-entries s a h c) (append_assoc (entries s) (a ∷ []) (entries_of ps)), r.1)
        by false l g rest = let z : false ≡ true = g in let n : ◌≡◌ {A = ℕ} 0 1 = cc in absurd (omega arith)
    append-entries old s (bad f ∷ ps) h fine = let z : false ≡ true = fine in let n : ◌≡◌ {A = ℕ} 0 1 = cc in absurd (omega arith)

    -- one piece appended is a list of one piece appended
    pub append-one : (s : Slots A) (p : Piece A) → append full s p ≡ append_from full s s (p ∷ [])
    unfolding append_from
    append-one s (good a) = by (ltb s.count 16)
      where
        by : (t : Bool) → one full s a t ≡ onward full s [] (one full s a t)
        by true = refl
        by false = refl
    append-one s (bad f) = refl

-- pieces seen through a function on their entries
abbrev pub seen_as : {A B : Type 0} → (A → B) → Piece A → Piece B
seen_as f (good a) = good (f a)
seen_as f (bad x) = bad x

module _ {A B : Type 0} (f : A → B) where
  pub refused-seen : (full : Fault) (n : ℕ) (ps : List (Piece A)) → list_refused full n (map (seen_as f) ps) ≡ list_refused full n ps
  unfolding list_refused
  refused-seen full n [] = refl
  refused-seen full n (good a ∷ ps) = rw (refused-seen full (n + 1) ps)
  refused-seen full n (bad x ∷ ps) = refl

  pub entries-seen : (ps : List (Piece A)) → entries_of (map (seen_as f) ps) ≡ map f (entries_of ps)
  unfolding entries_of
  entries-seen [] = refl
  entries-seen (good a ∷ ps) = rw (entries-seen ps)
  entries-seen (bad x ∷ ps) = entries-seen ps

-- pieces whose reading does not ask for their place
pub pieces-anywhere : {A : Type 0} (read : List ℕ → Piece A) (at : ℕ) (ws : List (List ℕ)) → pieces_from (λ (k : ℕ). read) at ws ≡ map read ws
unfolding pieces_from
pieces-anywhere read at [] = refl
pieces-anywhere read at (w ∷ ws) = ap (λ (l : List (Piece _)). read w ∷ l) (pieces-anywhere read (at + length w + 1) ws)
