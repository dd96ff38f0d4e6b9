-- `likely_key` meets its contract: each arm is the one key of its mark, and a text with no key's mark is no key. Assumes nothing.
use Prim.Native.Nat.{ℕ, ◌+◌, ◌%◌, ◌≤◌}
use mathlib.Core.Path.{◌≡◌, refl}
use mathlib.Core.Bool.{true}
use mathlib.Core.List.{List}
use native.Mathlib.Omega.{arith}
use lib.ListN.{length, get_or}
use Rattle.byte.proofs.Table.{every}
use Rattle.name_table.specs.Find.{key_number}
use Rattle.name_table.proofs.Arms.{Not}
use Rattle.key_match.proofs.Told.{mark, marks, agrees, told, unmarked, mark-is}
use borrow.Author.Rules.{rules}
use Rattle.key_match.proofs.likely_key.Goals as goal

-- an arm, by what was read
arm : (s : List ℕ) (x y k n : ℕ) → every 19 (agrees k n) ≡ true → n ≤ 19 → x ≡ get_or s 0 0 → y ≡ get_or s 1 0 → (x + x + y + length s % 64) % 64 ≡ k
    → (n ≤ 19) × ((key_number s ≡ 0 → ⊥) → n ≡ key_number s)
arm s x y k n t l e f q = (l, λ some. told s some k n t (mark-is s x y k e f q))

no_arm : (s : List ℕ) (x y : ℕ) → x ≡ get_or s 0 0 → y ≡ get_or s 1 0 → Not marks ((x + x + y + length s % 64) % 64) → (0 ≤ 19) × ((key_number s ≡ 0 → ⊥) → 0 ≡ key_number s)
no_arm s x y e f r = (omega arith, λ some. unmarked s some (rw (mark-is s x y _ e f refl) r))

pub returns-in-2 : goal.returns-in-2
unfolding agrees mark
returns-in-2 c =
    arm _ _ _ 2 5 refl (omega arith) c.at-a.ensures c.at-b.ensures c.in-2.is

pub returns-in-3 : goal.returns-in-3
unfolding agrees mark
returns-in-3 c =
    arm _ _ _ 3 8 refl (omega arith) c.at-a.ensures c.at-b.ensures c.in-3.is

pub returns-in-4 : goal.returns-in-4
unfolding agrees mark
returns-in-4 c =
    arm _ _ _ 4 11 refl (omega arith) c.at-a.ensures c.at-b.ensures c.in-4.is

pub returns-in-5 : goal.returns-in-5
unfolding agrees mark
returns-in-5 c =
    arm _ _ _ 5 13 refl (omega arith) c.at-a.ensures c.at-b.ensures c.in-5.is

pub returns-in-7 : goal.returns-in-7
unfolding agrees mark
returns-in-7 c =
    arm _ _ _ 7 9 refl (omega arith) c.at-a.ensures c.at-b.ensures c.in-7.is

pub returns-in-9 : goal.returns-in-9
unfolding agrees mark
returns-in-9 c =
    arm _ _ _ 9 2 refl (omega arith) c.at-a.ensures c.at-b.ensures c.in-9.is

pub returns-in-10 : goal.returns-in-10
unfolding agrees mark
returns-in-10 c =
    arm _ _ _ 10 14 refl (omega arith) c.at-a.ensures c.at-b.ensures c.in-10.is

pub returns-in-13 : goal.returns-in-13
unfolding agrees mark
returns-in-13 c =
    arm _ _ _ 13 16 refl (omega arith) c.at-a.ensures c.at-b.ensures c.in-13.is

pub returns-in-14 : goal.returns-in-14
unfolding agrees mark
returns-in-14 c =
    arm _ _ _ 14 15 refl (omega arith) c.at-a.ensures c.at-b.ensures c.in-14.is

pub returns-in-19 : goal.returns-in-19
unfolding agrees mark
returns-in-19 c =
    arm _ _ _ 19 10 refl (omega arith) c.at-a.ensures c.at-b.ensures c.in-19.is

pub returns-in-21 : goal.returns-in-21
unfolding agrees mark
returns-in-21 c =
    arm _ _ _ 21 4 refl (omega arith) c.at-a.ensures c.at-b.ensures c.in-21.is

pub returns-in-25 : goal.returns-in-25
unfolding agrees mark
returns-in-25 c =
    arm _ _ _ 25 19 refl (omega arith) c.at-a.ensures c.at-b.ensures c.in-25.is

pub returns-in-27 : goal.returns-in-27
unfolding agrees mark
returns-in-27 c =
    arm _ _ _ 27 12 refl (omega arith) c.at-a.ensures c.at-b.ensures c.in-27.is

pub returns-in-29 : goal.returns-in-29
unfolding agrees mark
returns-in-29 c =
    arm _ _ _ 29 17 refl (omega arith) c.at-a.ensures c.at-b.ensures c.in-29.is

pub returns-in-32 : goal.returns-in-32
unfolding agrees mark
returns-in-32 c =
    arm _ _ _ 32 6 refl (omega arith) c.at-a.ensures c.at-b.ensures c.in-32.is

pub returns-in-33 : goal.returns-in-33
unfolding agrees mark
returns-in-33 c =
    arm _ _ _ 33 1 refl (omega arith) c.at-a.ensures c.at-b.ensures c.in-33.is

pub returns-in-39 : goal.returns-in-39
unfolding agrees mark
returns-in-39 c =
    arm _ _ _ 39 7 refl (omega arith) c.at-a.ensures c.at-b.ensures c.in-39.is

pub returns-in-48 : goal.returns-in-48
unfolding agrees mark
returns-in-48 c =
    arm _ _ _ 48 3 refl (omega arith) c.at-a.ensures c.at-b.ensures c.in-48.is

pub returns-in-61 : goal.returns-in-61
unfolding agrees mark
returns-in-61 c =
    arm _ _ _ 61 18 refl (omega arith) c.at-a.ensures c.at-b.ensures c.in-61.is

pub returns-in_default : goal.returns-in_default
unfolding marks
returns-in_default c =
    no_arm _ _ _ c.at-a.ensures c.at-b.ensures (search rules)
