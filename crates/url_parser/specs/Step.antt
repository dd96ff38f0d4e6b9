-- What one step of the reading of a URI answers: t is the text from the place at on, and every place in an answer is counted from the whole text's start.
-- Assumes nothing.
use Rattle.std.specs.Prelude.{ℕ, ◌+◌, Bool, true, false, ◌&&◌, ◌||◌, List, eqb, ltb, leb, length, take, drop, get_or, Option, Some, None, Result, Ok, Err}
use Rattle.byte.specs.Ascii.{bytes}
use Rattle.byte.specs.Byte.{pick, part_of}
use Rattle.split.specs.Split.{first_at}
use Rattle.percent_check.specs.declared.Checked.{Checked}
use Rattle.percent.specs.Percent.{decoded}
use Rattle.percent_check.specs.Plain.{checked}
use Rattle.setting.specs.Setting.{Reading}
unfoldable pub use Rattle.uri_keys.specs.Kind.{param_kind, key_kind}
use Rattle.url_parser.specs.declared.Stage.{Stage}
use Rattle.url_parser.specs.declared.Stage.TheVariants.{Credentials, Password, Host, Chunk, Port, Path, Params, Parameter}
use Rattle.url_parser.specs.declared.Url.{Url}
use Rattle.url_parser.specs.declared.Found.{Found}
use Rattle.setting.specs.declared.Refusal.{Refusal}
use Rattle.setting.specs.declared.Refusal.TheVariants.{Bracket, NoEquals, NotUtf8}
use Rattle.url_parser.specs.declared.HostPlace.{HostPlace}
use Rattle.url_parser.specs.Uri.{has, up_to, beyond, first_of, host_fits, closes, ends_hosts, port, host_chunks, hosts, path, params, parameters, password, uri}

-- a step gives a setting, or the end of the reading: clean, or a refusal
abbrev pub UrlStep : Type 0
UrlStep = Result Found (Option Refusal)

abbrev pub given : Found → UrlStep
given f = Ok f

abbrev pub over : UrlStep
over = Err None

abbrev pub refused : Refusal → UrlStep
refused r = Err (Some r)

abbrev pub url : Stage → ℕ → Url
url stage at = record { stage = stage; at = at }

-- a setting whose value is a part of the text
abbrev pub found : ℕ → ℕ → ℕ → ℕ → Url → Found
found kind from to len next = record { kind = kind; from = from; to = to; len = len; fixed = false; next = next }

-- a setting whose value was judged, or 12
unfoldable pub give : ℕ → ℕ → ℕ → Checked → Url → UrlStep
give kind from to c next = pick c.utf8 (given (found kind from to c.len next)) (refused NotUtf8)

-- behind the byte that t begins with, unless t is empty
unfoldable pub skipped : ℕ → List ℕ → ℕ
skipped at t = pick (ltb 0 (length t)) (at + 1) at

-- a host: a Unix path may be any bytes
abbrev pub host_checked : List ℕ → Checked
host_checked v = record { len = length (decoded v); utf8 = host_fits (decoded v) }

abbrev pub value_checked : ℕ → List ℕ → Checked
value_checked kind v = pick (eqb kind 20) (host_checked v) (checked v)

unfoldable pub value_step : ℕ → ℕ → List ℕ → UrlStep
value_step kind at t =
    give kind at (at + first_at 38 t) (value_checked kind (up_to 38 t)) (url Parameter (skipped (at + first_at 38 t) (drop (first_at 38 t) t)))

unfoldable pub key_step : ℕ → ℕ → List ℕ → UrlStep
key_step kind at t = pick (eqb kind 21) (refused NotUtf8) (value_step kind at t)

unfoldable pub parameter_step : ℕ → List ℕ → UrlStep
parameter_step at t =
    pick (ltb 0 (length t))
    (pick (has 61 t) (key_step (key_kind (decoded (up_to 61 t))) (at + first_at 61 t + 1) (beyond 61 t)) (refused NoEquals))
    (over)

unfoldable pub params_step : ℕ → List ℕ → UrlStep
params_step at t = pick (eqb (get_or t 0 0) 63) (parameter_step (at + 1) (drop 1 t)) (over)

unfoldable pub database_step : ℕ → List ℕ → UrlStep
database_step at t =
    pick (eqb (first_at 63 t) 0) (params_step at t)
    (give 3 at (at + first_at 63 t) (checked (up_to 63 t)) (url Params (at + first_at 63 t)))

unfoldable pub path_step : ℕ → List ℕ → UrlStep
path_step at t = pick (eqb (get_or t 0 0) 47) (database_step (at + 1) (drop 1 t)) (params_step at t)

-- a chunk ends before `,` or with the host part
unfoldable pub ends_chunk : ℕ → Bool
ends_chunk a = eqb a 44 || ends_hosts a

abbrev pub chunk_end : List ℕ → ℕ
chunk_end t = first_of ends_chunk t

-- outside brackets a host ends before `:` or with its chunk
unfoldable pub ends_host : ℕ → Bool
ends_host a = eqb a 58 || ends_chunk a

-- and its plain front, which needs no decoding and is UTF-8, there too, or before `%` or what is not ASCII; above `?` only that is left
unfoldable pub ends_plain_host : ℕ → Bool
ends_plain_host a = pick (ltb 63 a) (leb 128 a) (eqb a 37 || ends_host a)

-- what is read behind a chunk: the next one behind `,`, or the path
unfoldable pub behind_chunk : ℕ → List ℕ → Url
behind_chunk at t = pick (eqb (get_or t 0 0) 44) (url Chunk (at + 1)) (url Path at)

-- a port that is not written
abbrev pub fixed_port : ℕ → Url → UrlStep
fixed_port at next = given (record { kind = 10; from = at; to = at; len = 4; fixed = true; next = next })

unfoldable pub port_step : ℕ → List ℕ → UrlStep
port_step at t =
    pick (eqb (chunk_end t) 0)
    (fixed_port at (behind_chunk (at + chunk_end t) (drop (chunk_end t) t)))
    (give 10 (at + 1) (at + chunk_end t) (checked (part_of 1 (chunk_end t) t)) (behind_chunk (at + chunk_end t) (drop (chunk_end t) t)))

-- where a host stands in a chunk, and where what follows it begins
abbrev pub place : ℕ → ℕ → ℕ → HostPlace
place from to tail = record { from = from; to = to; tail = tail }

-- the place of the first `]` behind `[`
abbrev pub closing : List ℕ → ℕ
closing c = 1 + first_at 93 (drop 1 c)

-- none where a bracket is not closed, or something else than `:` follows it
unfoldable pub host_place : List ℕ → Option HostPlace
host_place c =
    pick (eqb (get_or c 0 0) 91)
    (pick (ltb (closing c) (length c) && closes (drop (closing c + 1) c)) (Some (place 1 (closing c) (closing c + 1))) None)
    (Some (place 0 (first_at 58 c) (first_at 58 c)))

unfoldable pub placed_step : ℕ → List ℕ → Option HostPlace → UrlStep
placed_step at c None = refused Bracket
placed_step at c (Some p) = give 20 (at + p.from) (at + p.to) (host_checked (part_of p.from p.to c)) (url Port (at + p.tail))

unfoldable pub chunk_step : ℕ → List ℕ → UrlStep
chunk_step at t = placed_step at (take (chunk_end t) t) (host_place (take (chunk_end t) t))

unfoldable pub host_step : ℕ → List ℕ → UrlStep
host_step at t = pick (eqb (first_of ends_hosts t) 0) (path_step at t) (chunk_step at t)

unfoldable pub password_step : ℕ → List ℕ → UrlStep
password_step at t =
    given (found 2 at (at + first_at 64 t) (length (decoded (up_to 64 t))) (url Host (skipped (at + first_at 64 t) (drop (first_at 64 t) t))))

-- where the user ends: before the first `:`, or with the credentials
abbrev pub user_end : List ℕ → ℕ
user_end t = first_at 58 (up_to 64 t)

unfoldable pub credentials_step : ℕ → List ℕ → UrlStep
credentials_step at t =
    pick (has 64 t)
    (give 1 at (at + user_end t) (checked (take (user_end t) t))
    (pick (ltb (user_end t) (first_at 64 t)) (url Password (at + user_end t + 1)) (url Host (at + first_at 64 t + 1))))
    (host_step at t)

unfoldable pub stage_step : Stage → ℕ → List ℕ → UrlStep
stage_step Credentials at t = credentials_step at t
stage_step Password at t = password_step at t
stage_step Host at t = host_step at t
stage_step Chunk at t = chunk_step at t
stage_step Port at t = port_step at t
stage_step Path at t = path_step at t
stage_step Params at t = params_step at t
stage_step Parameter at t = parameter_step at t

unfoldable pub step_at : List ℕ → Url → UrlStep
step_at s u = stage_step u.stage u.at (drop u.at s)

-- the value of a setting that a step gave
unfoldable pub value_in : List ℕ → Found → List ℕ
value_in s f = pick f.fixed (bytes "5432") (decoded (part_of f.from f.to s))

-- what follows a host in its chunk, then the chunks behind it
unfoldable pub port_and_on : List ℕ → Reading
port_and_on t =
    port (take (chunk_end t) t)
    (pick (eqb (get_or t (chunk_end t) 0) 44) (host_chunks (drop (chunk_end t + 1) t)) (path (drop (chunk_end t) t)))

-- what is left to read at a stage, of the text from its place on
unfoldable pub stage_reading : Stage → List ℕ → Reading
stage_reading Credentials t = uri t
stage_reading Password t = password (up_to 64 t) (hosts (beyond 64 t))
stage_reading Host t = hosts t
stage_reading Chunk t = host_chunks t
stage_reading Port t = port_and_on t
stage_reading Path t = path t
stage_reading Params t = params t
stage_reading Parameter t = parameters t

unfoldable pub reading_from : List ℕ → Url → Reading
reading_from s u = stage_reading u.stage (drop u.at s)
