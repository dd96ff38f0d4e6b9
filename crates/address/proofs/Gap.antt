-- What an IPv6 text is, by the place of its first `::`.
-- Assumes nothing.
use mathlib.Core.Path.{◌≡◌}
use mathlib.Core.Bool.{true, false}
use mathlib.Core.List.{List}
use Prim.Native.Nat.{ℕ, ◌+◌, ◌<◌, ◌≤◌}
use lib.ListN.{length, drop, take}
use borrow.Author.Tests.{lt-ltb, le-ltb}
use Rattle.split.specs.Split.{split}
use Rattle.address.specs.Address.{groups_of, side_of, gap_at, whole, around, v6_of}

module _ (s : List ℕ) (g : ℕ) (at : g ≡ gap_at s) where
  pub v6-whole : length s ≤ g → v6_of s ≡ whole (groups_of true (split 58 s))
  unfolding v6_of
  v6-whole h = rw (← at, le-ltb g (length s) h)

  pub v6-around : g < length s → v6_of s ≡ around (side_of false (take g s)) (side_of true (drop (g + 2) s))
  unfolding v6_of
  v6-around h = rw (← at, lt-ltb g (length s) h)
