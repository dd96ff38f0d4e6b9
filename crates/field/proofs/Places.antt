-- The bytes at a place, as far as they stand in the buffer.
-- Assumes nothing.
use Rattle.std.proofs.Common.{◌≡◌, ℕ, ◌-◌, List, length, take, drop, arith, length-drop}
use Rattle.std.specs.Prelude.{min}
use Rattle.std.proofs.lemmas.List.{take_min, drop_min}
use lib.Seq.{take_all}
use Rattle.lists.specs.declared.Place.{Place}
use Rattle.config.specs.Values.{place_shown}

-- from the place's start, or from the buffer's end, at most as many as the place has
pub bytes-cut : (b : List ℕ) (p : Place) (m n : ℕ) → m ≡ min p.start (length b) → n ≡ min p.len (length (take (length b - m) (drop m b))) → take n (take (length b - m) (drop m b)) ≡ place_shown b p
unfolding place_shown
bytes-cut b p m n e f =
    let whole : take (length b - m) (drop m b) ≡ drop m b = take_all (length b - m) (drop m b) (omega (arith, length-drop m b)) in
    rw (f, whole, take_min p.len (drop m b), e, drop_min p.start b)
