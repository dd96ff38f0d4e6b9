-- How the reading of a URI ends: cleanly, or with one of 10 to 12.
-- Assumes nothing.
use Prim.Native.Nat.{ℕ, zero, suc, ◌+◌, ◌≤◌}
use mathlib.Core.Path.{◌≡◌, refl}
use mathlib.Core.Bool.{Bool, true, false, ◌&&◌}
use mathlib.Core.List.{List, [], ◌∷◌}
use mathlib.Core.Logic.{◌⊎◌, inl, inr}
use native.Mathlib.Omega.{arith}
use lib.Dec.{eqb}
use lib.ListN.{drop, get_or}
use Rattle.byte.specs.Ascii.{bytes}
use Rattle.byte.specs.Byte.{pick}
use Rattle.byte.specs.Same.{same}
use Rattle.split.specs.Split.{first_at, split}
use Rattle.utf8.specs.Utf8.{well_formed}
use Rattle.percent.specs.Percent.{decoded}
use Rattle.setting.specs.Setting.{Setting, keyed, one_host, Reading, ends, follows}
use Rattle.url_parser.specs.Uri.{has, up_to, beyond, first_of, text, host_fits, host, value, parameter, parameters_from, parameters, params, dbname, database, path, port, closes, bracketed, chunk, chunks, ends_hosts, host_part, behind_hosts, host_chunks, hosts, password, credentials, uri}

abbrev pub UriEnd : ℕ → Type 0
UriEnd n = (n ≡ 0) ⊎ ((10 ≤ n) × (n ≤ 12))

either : (k : Bool) (a b : Reading) → UriEnd a.end → UriEnd b.end → UriEnd (pick k a b).end
either true a b p q = p
either false a b p q = q

clean : UriEnd 0
clean = inl refl

ten : UriEnd 10
ten = inr (omega arith, omega arith)

eleven : UriEnd 11
eleven = inr (omega arith, omega arith)

twelve : UriEnd 12
twelve = inr (omega arith, omega arith)

-- each rule, before a reading that ends so
module _ (r : Reading) (e : UriEnd r.end) where
  text-end : (of : List ℕ → Setting) (v : List ℕ) → UriEnd (text of v r).end
  unfolding text
  text-end of v = either (well_formed (decoded v)) (follows (of (decoded v)) r) (ends 12) e twelve

  host-end : (v : List ℕ) → UriEnd (host v r).end
  unfolding host
  host-end v = either (host_fits (decoded v)) (follows (one_host (decoded v)) r) (ends 12) e twelve

  value-end : (k v : List ℕ) → UriEnd (value k v r).end
  unfolding value
  value-end k v = either (same k (bytes "host")) (host v r) (text (keyed k) v r) (host-end v) (text-end (keyed k) v)

  parameter-end : (p : List ℕ) → UriEnd (parameter p r).end
  unfolding parameter
  parameter-end p =
      let k : List ℕ = decoded (up_to 61 p) in
      let v : List ℕ = up_to 38 (beyond 61 p) in
      either (has 61 p) (pick (well_formed k) (value k v r) (ends 12)) (ends 11) (either (well_formed k) (value k v r) (ends 12) (value-end k v) twelve) eleven

  dbname-end : (d : List ℕ) → UriEnd (dbname d r).end
  unfolding dbname
  dbname-end [] = e
  dbname-end (a ∷ d) = text-end (keyed (bytes "dbname")) (a ∷ d)

  port-end : (p : List ℕ) → UriEnd (port p r).end
  unfolding port
  port-end [] = e
  port-end (a ∷ p) = text-end (keyed (bytes "port")) p

  password-end : (v : List ℕ) → UriEnd (password v r).end
  unfolding password
  password-end v = e

module _ (r : Reading) (e : UriEnd r.end) where
  bracketed-end : (c : List ℕ) → UriEnd (bracketed c r).end
  unfolding bracketed
  bracketed-end c =
      either (has 93 c && closes (beyond 93 c)) (host (up_to 93 c) (port (beyond 93 c) r)) (ends 10)
      (host-end (port (beyond 93 c) r) (port-end r e (beyond 93 c)) (up_to 93 c)) ten

  chunk_end : (c : List ℕ) → UriEnd (chunk c r).end
  unfolding chunk
  chunk_end c =
      let tail : Reading = port (drop (first_at 58 c) c) r in
      either (eqb (get_or c 0 0) 91) (bracketed (drop 1 c) r) (host (up_to 58 c) tail) (bracketed-end (drop 1 c)) (host-end tail (port-end r e (drop (first_at 58 c) c)) (up_to 58 c))

  credentials-end : (c : List ℕ) → UriEnd (credentials c r).end
  unfolding credentials
  credentials-end c =
      text-end (pick (has 58 c) (password (beyond 58 c) r) r) (either (has 58 c) (password (beyond 58 c) r) r (password-end r e (beyond 58 c)) e) (keyed (bytes "user")) (up_to 58 c)

chunks-end : (r : Reading) → UriEnd r.end → (cs : List (List ℕ)) → UriEnd (chunks cs r).end
unfolding chunks
chunks-end r e [] = e
chunks-end r e (c ∷ cs) = chunk_end (chunks cs r) (chunks-end r e cs) c

parameters-from-end : (k : ℕ) (p : List ℕ) → UriEnd (parameters_from k p).end
unfolding parameters_from
parameters-from-end k [] = clean
parameters-from-end (suc k) (a ∷ p) = parameters-from-end k p
parameters-from-end zero (a ∷ p) =
    let n : ℕ = first_at 61 (a ∷ p) + first_at 38 (beyond 61 (a ∷ p)) + 1 in
    parameter-end (parameters_from n p) (parameters-from-end n p) (a ∷ p)

params-end : (s : List ℕ) → UriEnd (params s).end
unfolding params parameters
params-end s = either (eqb (get_or s 0 0) 63) (parameters (drop 1 s)) (ends 0) (parameters-from-end 0 (drop 1 s)) clean

path-end : (s : List ℕ) → UriEnd (path s).end
unfolding path database
path-end s =
    let t : List ℕ = drop 1 s in
    let on : Reading = params (drop (first_at 63 t) t) in
    either (eqb (get_or s 0 0) 47) (database t) (params s) (dbname-end on (params-end (drop (first_at 63 t) t)) (up_to 63 t)) (params-end s)

hosts-end : (s : List ℕ) → UriEnd (hosts s).end
unfolding hosts host_chunks
hosts-end s =
    either (eqb (first_of ends_hosts s) 0) (path s) (host_chunks s) (path-end s) (chunks-end (path (behind_hosts s)) (path-end (behind_hosts s)) (split 44 (host_part s)))

-- the whole
pub uri-end : (s : List ℕ) → UriEnd (uri s).end
unfolding uri
uri-end s =
    either (has 64 s) (credentials (up_to 64 s) (hosts (beyond 64 s))) (hosts s) (credentials-end (hosts (beyond 64 s)) (hosts-end (beyond 64 s)) (up_to 64 s)) (hosts-end s)
