-- The values whose report has a bound: those that a record of document 01's sizes shows.
-- Assumes nothing.
use Rattle.std.specs.Prelude.{ℕ, ◌+◌, ◌^◌, ◌<◌, ◌≤◌, List, [], ◌∷◌, length, Option, Some, None}
use Rattle.config.specs.Values.{HostValue, tcp, unix, Values}

-- how many bytes the texts have that a report shows: a password's are not among them
abbrev pub text_bytes : Option (List ℕ) → ℕ
text_bytes None = 0
text_bytes (Some x) = length x

abbrev pub name_bytes : HostValue → ℕ
name_bytes (tcp x) = length x
name_bytes (unix x) = length x

unfoldable pub host_bytes : List HostValue → ℕ
host_bytes [] = 0
host_bytes (h ∷ hs) = name_bytes h + host_bytes hs

unfoldable pub shown_bytes : Values → ℕ
shown_bytes v = text_bytes v.user + text_bytes v.dbname + text_bytes v.options + text_bytes v.application_name + host_bytes v.host

-- every entry of a list, and what may be unset
abbrev pub All : (ℕ → Type 0) → List ℕ → Type 0
All p [] = Unit {0}
All p (a ∷ s) = p a × All p s

abbrev pub Maybe : {A : Type 0} → (A → Type 0) → Option A → Type 0
Maybe p None = Unit {0}
Maybe p (Some x) = p x

-- "Hosts, hostaddrs, ports: at most 16 each"; "port is 0 to 65,535", "retries 0 to 2^32 - 1"
pub record Sized (v : Values) : Type 0 where
  pub hosts : length v.host ≤ 16
  pub addresses : length v.hostaddr ≤ 16
  pub ports : length v.port ≤ 16
  pub port : All (λ n. n < 2 ^ 16) v.port
  pub retries : Maybe (λ n. n < 2 ^ 32) v.keepalives_retries
