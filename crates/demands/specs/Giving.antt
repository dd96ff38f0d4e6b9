-- What a text gives: which settings can be applied, which setting is the first that can't, and the answer in each case.
-- Assumes nothing.
use Rattle.std.specs.Prelude.{ℕ, ◌+◌, ◌≤◌, ◌<◌, ◌≡◌, true, false, List, [], ◌∷◌, ◌++◌, length, Result, Ok, ⊤}
use Rattle.utf8.specs.Utf8.{well_formed}
use Rattle.split.specs.Split.{split}
use Rattle.setting.specs.Setting.{Setting, kind_of, value_of}
use Rattle.lists.specs.declared.Fault.{Fault}
use Rattle.lists.specs.Fault.{is_fine, number_of, key_of}
use Rattle.config.specs.declared.Config.{Config}
use Rattle.config.specs.Config.{defaults}
use Rattle.apply.specs.Apply.{applied}
use Rattle.outcome.specs.declared.Answer.{Answer}
use Rattle.outcome.specs.Outcome.{reading, kept, refusal, acceptance}

-- "the kept values packed in reading order"
unfoldable pub joined : List Setting → List ℕ
joined [] = []
joined (x ∷ xs) = kept x ++ joined xs

-- "Settings are applied in order": with b packed, one after the other can be applied to a record, and this one comes of it
pub data Applies : List ℕ → Config → List Setting → Config → Type 0 where
  none : {b : List ℕ} {c : Config} → Applies b c [] c
  next : {b : List ℕ} {c d : Config} {x : Setting} {xs : List Setting}
      → (applied (kind_of x) (value_of x) (length b) c).fault ≡ Ok tt
      → Applies (b ++ kept x) (applied (kind_of x) (value_of x) (length b) c).config xs d
      → Applies b c (x ∷ xs) d

-- "The first that can't be applied": those before it can, and it has a fault
pub record FailsFrom (b : List ℕ) (c : Config) (xs : List Setting) : Type 0 where
  pub before : List Setting
  pub setting : Setting
  pub behind : List Setting
  pub splits : xs ≡ before ++ (setting ∷ behind)
  pub config : Config
  pub applies : Applies b c before config
  pub fault : Result ⊤ Fault
  pub has : (applied (kind_of setting) (value_of setting) (length (b ++ joined before)) config).fault ≡ fault
  pub fails : is_fine fault ≡ false

abbrev pub Fails : List ℕ → Type 0
Fails s = FailsFrom [] defaults (reading s).settings

-- why a setting with the value v can't be applied to a record c, by its kind and the number: 4 "unknown key"; 5 "known key, value not allowed", which no text (1 to 5) and no
-- host (8) meets; 13, 14, 15 "a 17th host, hostaddr, port": those counted and the value's pieces are more than 16. Kind 20 is one host from a URI.
pub data Reason (c : Config) (v : List ℕ) : ℕ → ℕ → Type 0 where
  unknown-key : Reason c v 0 4
  value : {kind : ℕ} → 6 ≤ kind → kind ≤ 19 → (kind ≡ 8 → ⊥) → Reason c v kind 5
  hosts : 16 < c.host.count + length (split 44 v) → Reason c v 8 13
  one-host : 16 < c.host.count + 1 → Reason c v 20 13
  hostaddrs : 16 < c.hostaddr.count + length (split 44 v) → Reason c v 9 14
  ports : 16 < c.port.count + length (split 44 v) → Reason c v 10 15

-- "if all can"
pub record WholeFrom (b : List ℕ) (c : Config) (xs : List Setting) : Type 0 where
  pub config : Config
  pub applies : Applies b c xs config

abbrev pub Whole : List ℕ → Type 0
Whole s = WholeFrom [] defaults (reading s).settings

-- a text that none of 1, 2 and 3 refuses, room being the decode buffer's length
pub record Read (s : List ℕ) (room : ℕ) : Type 0 where
  pub short : length s ≤ 4096
  pub fits : length s ≤ room
  pub utf8 : well_formed s ≡ true

-- the answer in each case: "1, 2, 3 are tested in that order"; "The first that can't be applied decides; if all can, the end decides."
-- "Every refusal of a text gives a default record, the count of settings applied before it (0 for 1 to 3) and a key number (0 but for 5)."
pub data Gives (s : List ℕ) (room : ℕ) : Answer → Type 0 where
  too_long : 4096 < length s → Gives s room (refusal 1 0 0)
  no_room : length s ≤ 4096 → room < length s → Gives s room (refusal 2 0 0)
  not-utf8 : length s ≤ 4096 → length s ≤ room → well_formed s ≡ false → Gives s room (refusal 3 0 0)
  first-fails : Read s room → (f : Fails s)
      → Gives s room (refusal (number_of f.fault) (key_of f.fault (kind_of f.setting)) (length f.before))
  end-refuses : Read s room → Whole s → ((reading s).end ≡ 0 → ⊥) → Gives s room (refusal (reading s).end 0 (length (reading s).settings))
  accepts : Read s room → (w : Whole s) → (reading s).end ≡ 0 → Gives s room (acceptance (length (reading s).settings) w.config)
