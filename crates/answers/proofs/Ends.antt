-- No reading ends with a number above 12.
-- Assumes nothing.
use mathlib.Core.Bool.{Bool, true, false, ◌&&◌}
use mathlib.Core.List.{List, [], ◌∷◌}
use Prim.Native.Nat.{ℕ, zero, suc, ◌+◌, ◌-◌, ◌≤◌}
use native.Mathlib.Omega.{arith}
use lib.Dec.{eqb, leb}
use lib.ListN.{length, drop, get_or}
use Rattle.byte.specs.Ascii.{bytes}
use Rattle.byte.specs.Byte.{pick}
use Rattle.byte.specs.Same.{same}
use Rattle.utf8.specs.Utf8.{well_formed}
use Rattle.percent.specs.Percent.{decoded}
use Rattle.split.specs.Split.{first_at, split}
use Rattle.names.specs.Find.{prefix_len}
use Rattle.setting.specs.Setting.{Setting, keyed, one_host, Reading, ends, follows}
use Rattle.keyvalue.specs.declared.Key.{Key}
use Rattle.keyvalue.specs.declared.Raw.{Raw}
use Rattle.std.proofs.Common.{Ok, Err, Some, None}
use Rattle.setting.specs.declared.Refusal.{Refusal}
use Rattle.setting.specs.Refusal.{refusal_number}
use Rattle.keyvalue.specs.Scan.{end_of, space_len, key_len, quoted_len, simple_len}
use Rattle.keyvalue.specs.KeyValue.{Step, clean, broken, pair, key_of, raw_at, quoted_at, simple_at, value_at, sign_at, key_at, parameter_at, reads, key_value_from, key_value}
use Rattle.url_parser.specs.Uri as uri
use Rattle.outcome.specs.Outcome.{reading}

record End (r : Reading) : Type 0 where
  most : r.end ≤ 12

stop : (n : ℕ) → n ≤ 12 → End (ends n)
stop n h = record { most = h }

on : (s : Setting) {r : Reading} → End r → End (follows s r)
on s h = record { most = h.most }

pick_end : (t : Bool) {x y : Reading} → End x → End y → End (pick t x y)
pick_end true h g = h
pick_end false h g = g

-- key-value: what a step refuses with
data StepEnd : Step → Type 0 where
  done : StepEnd clean
  refuses : {r : Refusal} → refusal_number r ≤ 12 → StepEnd (broken r)
  finds : {key : Key} {value : Raw} {next : ℕ} → StepEnd (pair key value next)

pick-step : (t : Bool) {x y : Step} → StepEnd x → StepEnd y → StepEnd (pick t x y)
pick-step true h g = h
pick-step false h g = g

quoted-end : (s : List ℕ) (key : Key) (at : ℕ) → StepEnd (quoted_at s key at)
unfolding quoted_at
quoted-end s key at = pick-step (leb (length s) (raw_at quoted_len s at).to) (refuses (omega arith)) finds

simple-end : (s : List ℕ) (key : Key) (at : ℕ) → StepEnd (simple_at s key at)
unfolding simple_at
simple-end s key at = pick-step (eqb (raw_at simple_len s at).len 0) (refuses (omega arith)) finds

value-step : (s : List ℕ) (key : Key) (at : ℕ) → StepEnd (value_at s key at)
unfolding value_at
value-step s key at = pick-step (eqb (get_or s at 0) 39) (quoted-end s key (at + 1)) (simple-end s key at)

sign-end : (s : List ℕ) (key : Key) (at : ℕ) → StepEnd (sign_at s key at)
unfolding sign_at
sign-end s key at =
    pick-step (leb (length s) at) (refuses (omega arith))
    (pick-step (eqb (get_or s at 0) 61) (value-step s key (end_of space_len s (at + 1))) (refuses (omega arith)))

key-end : (s : List ℕ) (from : ℕ) → StepEnd (key_at s from)
unfolding key_at
key-end s from =
    pick-step (eqb (end_of key_len s from) from) done
    (sign-end s (key_of s from (end_of key_len s from)) (end_of space_len s (end_of key_len s from)))

step_end : (s : List ℕ) (at : ℕ) → StepEnd (parameter_at s at)
unfolding parameter_at
step_end s at = key-end s (end_of space_len s at)

reads_end : (s : List ℕ) (st : Step) (go : ℕ → Reading) → StepEnd st → ((n : ℕ) → End (go n)) → End (reads s st go)
unfolding reads
reads_end s (Err None) go h g = stop 0 (omega arith)
reads_end s (Err (Some r)) go (refuses h) g = stop (refusal_number r) h
reads_end s (Ok p) go h g = on _ (g p.next)

pairs_end : (k : ℕ) (s : List ℕ) → End (key_value_from k s)
unfolding key_value_from
pairs_end k [] = stop 0 (omega arith)
pairs_end (suc k) (a ∷ s) = pairs_end k s
pairs_end zero (a ∷ s) =
    reads_end (a ∷ s) (parameter_at (a ∷ s) 0) (λ (next : ℕ). key_value_from (next - 1) s) (step_end (a ∷ s) 0) (λ next. pairs_end (next - 1) s)

-- URI, rule by rule
text-end : (of : List ℕ → Setting) (v : List ℕ) (r : Reading) → End r → End (uri.text of v r)
unfolding uri.text
text-end of v r h = pick_end (well_formed (decoded v)) (on (of (decoded v)) h) (stop 12 (omega arith))

host-end : (v : List ℕ) (r : Reading) → End r → End (uri.host v r)
unfolding uri.host
host-end v r h = pick_end (uri.host_fits (decoded v)) (on (one_host (decoded v)) h) (stop 12 (omega arith))

value-end : (k v : List ℕ) (r : Reading) → End r → End (uri.value k v r)
unfolding uri.value
value-end k v r h = pick_end (same k (bytes "host")) (host-end v r h) (text-end (keyed k) v r h)

parameter-end : (p : List ℕ) (r : Reading) → End r → End (uri.parameter p r)
unfolding uri.parameter
parameter-end p r h =
    pick_end (uri.has 61 p)
    (pick_end (well_formed (decoded (uri.up_to 61 p))) (value-end (decoded (uri.up_to 61 p)) (uri.up_to 38 (uri.beyond 61 p)) r h) (stop 12 (omega arith)))
    (stop 11 (omega arith))

parameters-end : (k : ℕ) (p : List ℕ) → End (uri.parameters_from k p)
unfolding uri.parameters_from
parameters-end k [] = stop 0 (omega arith)
parameters-end (suc k) (a ∷ p) = parameters-end k p
parameters-end zero (a ∷ p) =
    let n : ℕ = first_at 61 (a ∷ p) + first_at 38 (uri.beyond 61 (a ∷ p)) + 1 in
    parameter-end (a ∷ p) (uri.parameters_from n p) (parameters-end n p)

params-end : (s : List ℕ) → End (uri.params s)
unfolding uri.params uri.parameters
params-end s = pick_end (eqb (get_or s 0 0) 63) (parameters-end 0 (drop 1 s)) (stop 0 (omega arith))

dbname-end : (d : List ℕ) (r : Reading) → End r → End (uri.dbname d r)
unfolding uri.dbname
dbname-end [] r h = h
dbname-end (a ∷ d) r h = text-end (keyed (bytes "dbname")) (a ∷ d) r h

path-end : (s : List ℕ) → End (uri.path s)
unfolding uri.path uri.database
path-end s =
    pick_end (eqb (get_or s 0 0) 47)
    (dbname-end (uri.up_to 63 (drop 1 s)) (uri.params (drop (first_at 63 (drop 1 s)) (drop 1 s))) (params-end (drop (first_at 63 (drop 1 s)) (drop 1 s))))
    (params-end s)

port-end : (p : List ℕ) (r : Reading) → End r → End (uri.port p r)
unfolding uri.port
port-end [] r h = on (keyed (bytes "port") (bytes "5432")) h
port-end (a ∷ p) r h = text-end (keyed (bytes "port")) p r h

pair_end : (v p : List ℕ) (r : Reading) → End r → End (uri.host v (uri.port p r))
pair_end v p r h = host-end v (uri.port p r) (port-end p r h)

End-chunk : (c : List ℕ) (r : Reading) → End r → End (uri.chunk c r)
unfolding uri.chunk uri.bracketed
End-chunk c r h =
    let b : List ℕ = drop 1 c in
    pick_end (eqb (get_or c 0 0) 91)
    (pick_end (uri.has 93 b && uri.closes (uri.beyond 93 b)) (pair_end (uri.up_to 93 b) (uri.beyond 93 b) r h) (stop 10 (omega arith)))
    (pair_end (uri.up_to 58 c) (drop (first_at 58 c) c) r h)

chunks-end : (cs : List (List ℕ)) (r : Reading) → End r → End (uri.chunks cs r)
unfolding uri.chunks
chunks-end [] r h = h
chunks-end (c ∷ cs) r h = End-chunk c (uri.chunks cs r) (chunks-end cs r h)

hosts-end : (s : List ℕ) → End (uri.hosts s)
unfolding uri.hosts uri.host_chunks
hosts-end s =
    pick_end (eqb (uri.first_of uri.ends_hosts s) 0) (path-end s)
    (chunks-end (split 44 (uri.host_part s)) (uri.path (uri.behind_hosts s)) (path-end (uri.behind_hosts s)))

uri-end : (s : List ℕ) → End (uri.uri s)
unfolding uri.uri uri.credentials uri.password
uri-end s =
    let c : List ℕ = uri.up_to 64 s in
    let r : Reading = uri.hosts (uri.beyond 64 s) in
    let h : End r = hosts-end (uri.beyond 64 s) in
    pick_end (uri.has 64 s)
    (text-end (keyed (bytes "user")) (uri.up_to 58 c) (pick (uri.has 58 c) (uri.password (uri.beyond 58 c) r) r) (pick_end (uri.has 58 c) (on (keyed (bytes "password") (decoded (uri.beyond 58 c))) h) h))
    (hosts-end s)

ended : (s : List ℕ) → End (reading s)
unfolding reading key_value
ended s = pick_end (eqb (prefix_len s) 0) (pairs_end 0 s) (uri-end (drop (prefix_len s) s))

pub reading-end : (s : List ℕ) → (reading s).end ≤ 12
reading-end s = (ended s).most
