-- Demand 3's first half: a password's value is seen in nothing else that a text gives.
-- Assumes nothing.
use Rattle.std.specs.Prelude.{ℕ, ◌≤◌, ◌≡◌, true, List, map, length}
use Rattle.utf8.specs.Utf8.{well_formed}
use Rattle.setting.specs.Setting.{Reading}
use Rattle.config.specs.Values.{shown}
use Rattle.view.specs.Given.{Told}
use Rattle.view.specs.Hidden.{hidden, veil}
use Rattle.outcome.specs.declared.Answer.{Answer}

-- a UTF-8 text within the limits, and a decode buffer "no shorter than" it
pub record Readable (text decode : List ℕ) : Type 0 where
  pub short : length text ≤ 4096
  pub room : length text ≤ length decode
  pub utf8 : well_formed text ≡ true

-- readings that "agree in everything but values set under password"
pub record Alike (r q : Reading) : Type 0 where
  pub settings : map veil r.settings ≡ map veil q.settings
  pub end : r.end ≡ q.end

-- "one number, count and key; every setting shown but the password is the same": two answers, each with its decode buffer
pub record SameButPassword (a : Answer) (d : List ℕ) (b : Answer) (e : List ℕ) : Type 0 where
  pub number : a.number ≡ b.number
  pub key : a.key ≡ b.key
  pub count : a.count ≡ b.count
  pub values : hidden (shown d a.config) ≡ hidden (shown e b.config)

-- what an answer tells, given its decode buffer
unfoldable pub tells : Answer → List ℕ → Told
tells a d = record { number = a.number; key = a.key; count = a.count; values = shown d a.config }
