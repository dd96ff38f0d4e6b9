-- Worked examples of the reading of a URI behind its prefix, one table under one statement.
-- Assumes nothing.
use mathlib.Core.Path.{◌≡◌, refl}
use mathlib.Core.Bool.{Bool, true, false, ◌&&◌}
use mathlib.Core.List.{List, [], ◌∷◌, ◌++◌}
use Prim.Native.Nat.{ℕ}
use Prim.Native.String.{String}
use lib.Dec.{eqb}
use Rattle.byte.specs.Ascii.{bytes}
use Rattle.byte.specs.Byte.{between}
use Rattle.byte.specs.Digit.{digit_of}
use Rattle.byte.specs.Same.{same}
use Rattle.utf8.specs.Utf8.{char_at, char_of, longer, two, three, four, least, greatest, well_from}
use Rattle.percent.specs.Percent.{piece_of, piece_at, decoded_from, decoded}
use Rattle.split.specs.Split.{first_at, split}
use Rattle.setting.specs.Setting.{Setting, keyed, one_host}
use Rattle.url_parser.specs.Uri.{first_of, text, host_fits, host, value, parameter, parameters_from, parameters, params, dbname, database, path, port, closes, bracketed, chunk, chunks, ends_hosts, host_chunks, hosts, password, credentials, uri}

-- a text behind the prefix, the settings that it reads as, and the end
pub record Example : Type 0 where
  pub read : List ℕ
  pub gives : List Setting
  pub stops : ℕ

unfoldable pub alike : Setting → Setting → Bool
alike (keyed k v) (keyed l w) = same k l && same v w
alike (keyed k v) (one_host w) = false
alike (one_host v) (keyed l w) = false
alike (one_host v) (one_host w) = same v w

unfoldable pub all_alike : List Setting → List Setting → Bool
all_alike [] [] = true
all_alike [] (b ∷ t) = false
all_alike (a ∷ s) [] = false
all_alike (a ∷ s) (b ∷ t) = alike a b && all_alike s t

unfoldable pub holds : Example → Bool
holds e = all_alike (uri e.read).settings e.gives && eqb (uri e.read).end e.stops

unfoldable pub all_hold : List Example → Bool
all_hold [] = true
all_hold (e ∷ es) = holds e && all_hold es

abbrev pub reads : String → List Setting → ℕ → Example
reads t ss n = record { read = bytes t; gives = ss; stops = n }

abbrev pub one : String → Setting
one h = one_host (bytes h)

abbrev pub set : String → String → Setting
set k v = keyed (bytes k) (bytes v)

abbrev pub examples : List Example
examples =
    reads "" [] 0 ∷
    reads "," (one "" ∷ set "port" "5432" ∷ one "" ∷ set "port" "5432" ∷ []) 0 ∷
    reads "@h" (set "user" "" ∷ one "h" ∷ set "port" "5432" ∷ []) 0 ∷
    reads "h/d?options=a@b" (set "user" "h/d?options=a" ∷ one "b" ∷ set "port" "5432" ∷ []) 0 ∷
    reads "/?host=a,b" (one "a,b" ∷ []) 0 ∷
    reads "h?x" (one "h" ∷ set "port" "5432" ∷ []) 11 ∷
    reads "h:1%2C2" (one "h" ∷ set "port" "1,2" ∷ []) 0 ∷
    reads "u:p@h" (set "user" "u" ∷ set "password" "p" ∷ one "h" ∷ set "port" "5432" ∷ []) 0 ∷
    reads "u@" (set "user" "u" ∷ []) 0 ∷
    reads ":@h" (set "user" "" ∷ set "password" "" ∷ one "h" ∷ set "port" "5432" ∷ []) 0 ∷
    reads "a@b@c" (set "user" "a" ∷ one "b@c" ∷ set "port" "5432" ∷ []) 0 ∷
    reads "[::1]:5433/db" (one "::1" ∷ set "port" "5433" ∷ set "dbname" "db" ∷ []) 0 ∷
    reads "[x" [] 10 ∷
    reads "[x]y" [] 10 ∷
    reads "[%FF]y" [] 10 ∷
    reads "[a,b]" [] 10 ∷
    reads "a,[b" (one "a" ∷ set "port" "5432" ∷ []) 10 ∷
    reads "h:" (one "h" ∷ set "port" "" ∷ []) 0 ∷
    reads "h?" (one "h" ∷ set "port" "5432" ∷ []) 0 ∷
    reads "h?a=b&" (one "h" ∷ set "port" "5432" ∷ set "a" "b" ∷ []) 0 ∷
    reads "h?a=b&c" (one "h" ∷ set "port" "5432" ∷ set "a" "b" ∷ []) 11 ∷
    reads "?a&b=c" (set "a&b" "c" ∷ []) 0 ∷
    reads "%40@h" (set "user" "@" ∷ one "h" ∷ set "port" "5432" ∷ []) 0 ∷
    reads "a%3Ab:c:d@" (set "user" "a:b" ∷ set "password" "c:d" ∷ []) 0 ∷
    reads "u%FF@h" [] 12 ∷
    reads "u:%FF@h" (set "user" "u" ∷ keyed (bytes "password") (0xff ∷ []) ∷ one "h" ∷ set "port" "5432" ∷ []) 0 ∷
    reads "%2Frun%FF" (one_host (bytes "/run" ++ (0xff ∷ [])) ∷ set "port" "5432" ∷ []) 0 ∷
    reads "%FF" [] 12 ∷
    reads "h:%FF" (one "h" ∷ []) 12 ∷
    reads "?%FF" [] 11 ∷
    reads "?%FF=a" [] 12 ∷
    reads "?foo=%FF" [] 12 ∷
    reads "?password=%FF" [] 12 ∷
    reads "?host=%2F%FF" (one_host (0x2f ∷ 0xff ∷ []) ∷ []) 0 ∷
    reads "?ho%73t=a" (one "a" ∷ []) 0 ∷
    reads "/d%FF" [] 12 ∷
    reads "/" [] 0 ∷
    reads "?" [] 0 ∷
    reads "/d/e" (set "dbname" "d/e" ∷ []) 0 ∷
    reads "?host=" (one "" ∷ []) 0 ∷
    reads "?port=" (set "port" "" ∷ []) 0 ∷
    []

pub examples-hold : all_hold examples ≡ true
unfolding alike all_alike holds all_hold first_of text host_fits host value parameter parameters_from parameters params dbname database path port closes bracketed chunk chunks ends_hosts host_chunks hosts password credentials uri first_at split decoded decoded_from piece_at piece_of digit_of between same well_from char_at char_of longer two three four least greatest
examples-hold = refl
