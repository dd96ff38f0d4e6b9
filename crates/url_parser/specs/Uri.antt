-- What a text reads as behind a URI's prefix: document 01's rules in its order, on what is left of the text.
-- Assumes nothing.
use Rattle.std.specs.Prelude.{ℕ, zero, suc, ◌+◌, Bool, true, ◌&&◌, ◌||◌, List, [], ◌∷◌, eqb, ltb, length, take, drop, get_or}
use Rattle.byte.specs.Ascii.{bytes}
use Rattle.byte.specs.Byte.{pick}
use Rattle.byte.specs.Same.{same}
use Rattle.setting.specs.Setting.{Setting, keyed, one_host, Reading, ends, follows}
use Rattle.split.specs.Split.{first_at, split}
use Rattle.utf8.specs.Utf8.{well_formed}
use Rattle.percent.specs.Percent.{decoded}

-- whether b stands in a text; the text up to the first b, or all of it; what follows that b
abbrev pub has : ℕ → List ℕ → Bool
has b s = ltb (first_at b s) (length s)

abbrev pub up_to : ℕ → List ℕ → List ℕ
up_to b s = take (first_at b s) s

abbrev pub beyond : ℕ → List ℕ → List ℕ
beyond b s = drop (first_at b s + 1) s

-- the place of the first byte that passes a test, or the length
unfoldable pub first_of : (ℕ → Bool) → List ℕ → ℕ
first_of f [] = 0
first_of f (a ∷ s) = pick (f a) 0 (suc (first_of f s))

-- "After it the user, port text, dbname, each key and each parameter's value (password too) must be UTF-8, else the reading ends with 12 at that point":
-- a setting made of a value once decoded, and the reading that follows it
unfoldable pub text : (List ℕ → Setting) → List ℕ → Reading → Reading
text of v r = pick (well_formed (decoded v)) (follows (of (decoded v)) r) (ends 12)

-- "One host that starts with `/` after decoding is a Unix path and may be any bytes; any other is TCP and must be UTF-8."
unfoldable pub host_fits : List ℕ → Bool
host_fits v = eqb (get_or v 0 0) 47 || well_formed v

unfoldable pub host : List ℕ → Reading → Reading
host v r = pick (host_fits (decoded v)) (follows (one_host (decoded v)) r) (ends 12)

-- 4. "After `?`: key up to `=`, decoded; value up to `&` or the end, decoded. Key host gives one host, commas kept."
unfoldable pub value : List ℕ → List ℕ → Reading → Reading
value k v r = pick (same k (bytes "host")) (host v r) (text (keyed k) v r)

-- 11 is "URI parameter without `=`": it is judged before the key is decoded, and the key before its value
unfoldable pub parameter : List ℕ → Reading → Reading
parameter p r =
    pick (has 61 p)
    (pick (well_formed (decoded (up_to 61 p))) (value (decoded (up_to 61 p)) (up_to 38 (beyond 61 p)) r) (ends 12))
    (ends 11)

-- the parameters behind the first k bytes; each takes its key, `=`, its value and `&`. "A trailing `&` is fine."
unfoldable pub parameters_from : ℕ → List ℕ → Reading
parameters_from k [] = ends 0
parameters_from (suc k) (a ∷ p) = parameters_from k p
parameters_from zero (a ∷ p) =
    parameter (a ∷ p) (parameters_from (first_at 61 (a ∷ p) + first_at 38 (beyond 61 (a ∷ p)) + 1) p)

unfoldable pub parameters : List ℕ → Reading
parameters p = parameters_from 0 p

-- what begins with `?`, or nothing
unfoldable pub params : List ℕ → Reading
params s = pick (eqb (get_or s 0 0) 63) (parameters (drop 1 s)) (ends 0)

-- 3. "After `/`, the dbname up to `?`; set only if not empty."
unfoldable pub dbname : List ℕ → Reading → Reading
dbname [] r = r
dbname (a ∷ d) r = text (keyed (bytes "dbname")) (a ∷ d) r

unfoldable pub database : List ℕ → Reading
database s = dbname (up_to 63 s) (params (drop (first_at 63 s) s))

unfoldable pub path : List ℕ → Reading
path s = pick (eqb (get_or s 0 0) 47) (database (drop 1 s)) (params s)

-- 2. "No port means 5432. Port text is decoded and then treated like key port": what follows a chunk's host, nothing or `:` and the text
unfoldable pub port : List ℕ → Reading → Reading
port [] r = follows (keyed (bytes "port") (bytes "5432")) r
port (a ∷ p) r = text (keyed (bytes "port")) p r

-- after `]` the chunk ends, or `:` follows
unfoldable pub closes : List ℕ → Bool
closes [] = true
closes (a ∷ s) = eqb a 58

-- "In `[`..`]` the host is what is between", and "A bracket fault (10) ends the reading before its chunk gives or decodes anything":
-- "bracketed URI host without `]`, or with something but `:` after it"
unfoldable pub bracketed : List ℕ → Reading → Reading
bracketed c r = pick (has 93 c && closes (beyond 93 c)) (host (up_to 93 c) (port (beyond 93 c) r)) (ends 10)

-- "Each chunk gives one host, then a port"; outside brackets the host "ends at the first `:`"
unfoldable pub chunk : List ℕ → Reading → Reading
chunk c r = pick (eqb (get_or c 0 0) 91) (bracketed (drop 1 c) r) (host (up_to 58 c) (port (drop (first_at 58 c) c) r))

unfoldable pub chunks : List (List ℕ) → Reading → Reading
chunks [] r = r
chunks (c ∷ cs) r = chunk c (chunks cs r)

-- "Host part, up to `/` or `?` or the end."
unfoldable pub ends_hosts : ℕ → Bool
ends_hosts a = eqb a 47 || eqb a 63

abbrev pub host_part : List ℕ → List ℕ
host_part s = take (first_of ends_hosts s) s

abbrev pub behind_hosts : List ℕ → List ℕ
behind_hosts s = drop (first_of ends_hosts s) s

-- "If not empty, split at commas."
unfoldable pub host_chunks : List ℕ → Reading
host_chunks s = chunks (split 44 (host_part s)) (path (behind_hosts s))

unfoldable pub hosts : List ℕ → Reading
hosts s = pick (eqb (first_of ends_hosts s) 0) (path s) (host_chunks s)

-- 1. "what precedes the first is credentials: user up to the first `:`, then the password if there is one. The user must be UTF-8 after decoding; the password needn't."
unfoldable pub password : List ℕ → Reading → Reading
password v r = follows (keyed (bytes "password") (decoded v)) r

unfoldable pub credentials : List ℕ → Reading → Reading
credentials c r = text (keyed (bytes "user")) (up_to 58 c) (pick (has 58 c) (password (beyond 58 c) r) r)

-- "If an `@` stands anywhere in the rest"
unfoldable pub uri : List ℕ → Reading
uri s = pick (has 64 s) (credentials (up_to 64 s) (hosts (beyond 64 s))) (hosts s)
