-- What a refused and an accepted text give and leave: the statements of demand 1 and of what fits.
-- Assumes nothing.
use Rattle.std.specs.Prelude.{ℕ, ◌-◌, ◌≤◌, ◌<◌, ◌≡◌, false, List, ◌++◌, ◌⊎◌, ◌↔◌, length, take, drop, replicate}
use Rattle.utf8.specs.Utf8.{well_formed}
use Rattle.setting.specs.Setting.{kind_of, value_of}
use Rattle.lists.specs.Fault.{number_of}
use Rattle.config.specs.Config.{defaults}
use Rattle.outcome.specs.declared.Answer.{Answer}
use Rattle.outcome.specs.Outcome.{reading, acceptance, outcome_of, answer, left}
use Rattle.demands.specs.Giving.{joined, Fails, Reason, Whole, Read, Gives}

-- the decode buffer where b is packed in front: b, zeros up to the text's length, and every later byte as it was
pub record Leaves (s b d l : List ℕ) : Type 0 where
  pub front : take (length s) l ≡ b ++ replicate (length s - length b) 0
  pub behind : drop (length s) l ≡ drop (length s) d
  pub long : length l ≡ length d

-- a key that is named: that of the first setting that can't be applied
pub record Names (s : List ℕ) (key : ℕ) : Type 0 where
  pub first : Fails s
  pub is : key ≡ kind_of first.setting
  pub low : 1 ≤ key
  pub high : key ≤ 19

-- what a refused text gives and leaves, in a buffer that was d and is l
pub record Refused (s d : List ℕ) (a : Answer) (l : List ℕ) : Type 0 where
  pub default : a.config ≡ defaults
  pub no_key : (a.number ≡ 5 → ⊥) → a.key ≡ 0
  pub key : a.number ≡ 5 → Names s a.key
  pub none-applied : a.number ≤ 3 → a.count ≡ 0
  pub untouched : a.number ≤ 2 → l ≡ d
  pub zeroed : 3 ≤ a.number → take (length s) l ≡ replicate (length s) 0
  pub behind : drop (length s) l ≡ drop (length s) d
  pub long : length l ≡ length d

-- what an accepted text gives and leaves: "the kept values packed in reading order, then zeros up to the text's length. Later bytes never change."
pub record Accepted (s d : List ℕ) (a : Answer) (l : List ℕ) : Type 0 where
  pub whole : Whole s
  pub gives_all : a ≡ acceptance (length (reading s).settings) whole.config
  pub leaves : Leaves s (joined (reading s).settings) d l

-- the numbers of a setting that can't be applied
abbrev pub FaultNumber : ℕ → Type 0
FaultNumber n = ((4 ≤ n) × (n ≤ 5)) ⊎ ((13 ≤ n) × (n ≤ 15))

-- demand 1, of a text and a decode buffer: whatever bytes they are
pub record Refusing (s d : List ℕ) : Type 0 where
  -- the whole answer is given exactly when document 01 says so, and so is each number
  pub exactly : (a : Answer) → (answer s (length d) ≡ a) ↔ Gives s (length d) a
  pub one : ((answer s (length d)).number ≡ 1) ↔ (4096 < length s)
  pub two : ((answer s (length d)).number ≡ 2) ↔ ((length s ≤ 4096) × (length d < length s))
  pub three : ((answer s (length d)).number ≡ 3) ↔ ((length s ≤ 4096) × (length s ≤ length d) × (well_formed s ≡ false))
  -- 4, 5, 13, 14, 15: the first setting that can't be applied has the fault of this number, and there is a reason for it in its kind, its value and the record before it
  pub fault : (n : ℕ) → FaultNumber n → ((answer s (length d)).number ≡ n) ↔ (Read s (length d) × ((f : Fails s) × (number_of f.fault ≡ n)))
  pub four : ((answer s (length d)).number ≡ 4) ↔ (Read s (length d) × ((f : Fails s) × (kind_of f.setting ≡ 0)))
  pub reason : (f : Fails s) → Reason f.config (value_of f.setting) (kind_of f.setting) (number_of f.fault)
  -- 6 to 12: every setting can be applied, and the end has this number
  pub end : (n : ℕ) → 6 ≤ n → n ≤ 12 → ((answer s (length d)).number ≡ n) ↔ (Read s (length d) × Whole s × ((reading s).end ≡ n))
  -- 0: every setting can be applied, and the end is clean
  pub zero : ((answer s (length d)).number ≡ 0) ↔ (Read s (length d) × Whole s × ((reading s).end ≡ 0))
  pub on-refusal : ((answer s (length d)).number ≡ 0 → ⊥) → Refused s d (answer s (length d)) (left s d)
  pub on-acceptance : (answer s (length d)).number ≡ 0 → Accepted s d (answer s (length d)) (left s d)

-- what fits, of any text
pub record Fitting (s : List ℕ) : Type 0 where
  -- the kept bytes of its reading, and what is packed for it, never pass its length
  pub kept : length (joined (reading s).settings) ≤ length s
  pub packed : length (outcome_of s).packed ≤ length s
  -- within the limit it has at most 8,172 settings, and the count is never above that
  pub settings : length s ≤ 4096 → length (reading s).settings ≤ 8172
  pub count : (room : ℕ) → (answer s room).count ≤ 8172
