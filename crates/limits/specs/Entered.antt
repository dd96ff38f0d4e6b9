-- Demand 3 of the entry for C: what `nyimbrak_read` hands back and leaves for two texts.
-- Assumes nothing.
use Rattle.std.specs.Prelude.{ℕ, ◌≤◌, ◌≡◌, List, [], ◌↔◌, ltb, length, take}
use Rattle.byte.specs.Byte.{pick}
use Rattle.view.specs.Hidden.{hidden}
use Rattle.outcome.specs.Outcome.{reading}
use Rattle.entry.specs.Entry.{entry, entry_left}
use Rattle.demands.specs.Blind.{Readable, Alike}
use Rattle.limits.specs.Limits.{number, shows, reports}

-- "the report's length, or 1,000,000 plus the refusal": the report that was written, nothing for a refusal
abbrev pub written_by : ℕ → List ℕ → List ℕ
written_by n r = pick (ltb n 1000000) (take n r) []

-- of a text s, a decode buffer d and a report buffer p
abbrev pub entered_by : List ℕ → List ℕ → List ℕ → List ℕ
entered_by s d p = written_by (entry s d (length p)) (entry_left s d p)

-- an "accepted" text "with room for" its report in a buffer p
pub record Roomy (s d p : List ℕ) : Type 0 where
  pub accepted : number s d ≡ 0
  pub room : length (reports s d) ≤ length p

-- one number, the same bytes written, and every byte the same in report buffers that held the same before
pub record SameEntry (s d p t e q : List ℕ) : Type 0 where
  pub number : entry s d (length p) ≡ entry t e (length q)
  pub bytes : entered_by s d p ≡ entered_by t e q
  pub buffer : p ≡ q → entry_left s d p ≡ entry_left t e q

pub record EntryThree (s d p t e q : List ℕ) : Type 0 where
  -- "both are accepted or both refused with one number"; "into report buffers of one length, so is the report"
  pub blind : Readable s d → Readable t e → Alike (reading s) (reading t) → length p ≡ length q → SameEntry s d p t e q
  -- "two accepted texts with room for their reports give equal reports exactly when every setting shown is equal, the password only in being set or not"
  pub telling : Roomy s d p → Roomy t e q → (entered_by s d p ≡ entered_by t e q) ↔ (hidden (shows s d) ≡ hidden (shows t e))
