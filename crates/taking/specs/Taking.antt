-- One turn of the reader: the next setting of a text that is read as a URI or as key-value pairs, written into the buffer.
-- Assumes nothing.
use Rattle.std.specs.Prelude.{ℕ, Bool, true, false, ◌||◌, List, eqb, Option, Result, Ok, Err}
use Rattle.byte.specs.Byte.{pick, between, part_of}
use Rattle.byte.specs.Put.{written, after}
use Rattle.setting.specs.declared.Refusal.{Refusal}
use Rattle.keyvalue.specs.KeyValue.{Step, parameter_at, unescaped}
use Rattle.url_parser.specs.declared.Stage.{Stage}
use Rattle.url_parser.specs.declared.Url.{Url}
use Rattle.url_parser.specs.declared.Found.{Found}
use Rattle.url_parser.specs.Step.{UrlStep, given, url, step_at, value_in}
use Rattle.taking.specs.declared.Taken.{Taken}

-- "Kept values are those of user, password, dbname, options, application_name and host." One host from a URI is a host.
unfoldable pub keeps : ℕ → Bool
keeps kind = eqb kind 20 || eqb kind 8 || between 1 5 kind

-- a key-value step in the words of a URI's
abbrev pub as_url_step : Step → UrlStep
as_url_step (Err e) = Err e
as_url_step (Ok p) =
    given (record { kind = p.key.number; from = p.value.from; to = p.value.to; len = p.value.len; fixed = false; next = url Stage.Credentials p.next })

-- the next step: of a URI, or of a key-value text, whose place alone counts
abbrev pub next_at : List ℕ → Bool → Url → UrlStep
next_at s true u = step_at s u
next_at s false u = as_url_step (parameter_at s u.at)

-- the value that a step found, decoded
abbrev pub value_at : List ℕ → Bool → Found → List ℕ
value_at s true f = value_in s f
value_at s false f = unescaped (part_of f.from f.to s)

-- what is taken from the text at a place that is read up to: its end, clean or a refusal, or a setting whose value is written behind what is packed, up to `at`
abbrev pub taken_by : List ℕ → Bool → ℕ → List ℕ → UrlStep → Result Taken (Option Refusal)
taken_by s uri at d (Err e) = Err e
taken_by s uri at d (Ok f) =
    Ok (record {
      kind = f.kind;
      end = after d at (value_at s uri f);
      packed = pick (keeps f.kind) (after d at (value_at s uri f)) at;
      next = f.next;
    })

abbrev pub left_by : List ℕ → Bool → ℕ → List ℕ → UrlStep → List ℕ
left_by s uri at d (Err e) = d
left_by s uri at d (Ok f) = written d at (value_at s uri f)

unfoldable pub taken_of : List ℕ → Bool → Url → ℕ → List ℕ → Result Taken (Option Refusal)
taken_of s uri u at d = taken_by s uri at d (next_at s uri u)

unfoldable pub taken_leaves : List ℕ → Bool → Url → ℕ → List ℕ → List ℕ
taken_leaves s uri u at d = left_by s uri at d (next_at s uri u)
