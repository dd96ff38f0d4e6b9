-- The parts of an answer are small: a number of at most 15, a key of at most 20, a count of at most 8,194.
-- Assumes nothing.
use mathlib.Core.Path.{◌≡◌, refl, sym, subst}
use mathlib.Core.Bool.{Bool, true, false}
use mathlib.Core.List.{List, [], ◌∷◌, ◌++◌}
use Prim.Native.Nat.{ℕ, zero, suc, ◌+◌, ◌-◌, ◌*◌, ◌≤◌}
use native.Mathlib.Omega.{arith}
use lib.Dec.{eqb, ltb}
use lib.ListN.{length, drop, length-drop}
use borrow.Author.Tests.{ltb-false}
use Rattle.byte.specs.Byte.{pick}
use Rattle.byte.specs.Same.{same}
use Rattle.utf8.specs.Utf8.{well_formed}
use Rattle.names.specs.Names.{key_names}
use Rattle.names.specs.Find.{among, number_in, key_number, prefix_len}
use Rattle.setting.specs.Setting.{Setting, keyed, one_host, kind_of, value_of, Reading}
use Rattle.std.proofs.Common.{Ok, Err, Some, None}
use Rattle.keyvalue.specs.KeyValue.{Step, parameter_at, reads, key_value_from, key_value}
use Rattle.url_parser.proofs.Reading.{uri-most}
use Rattle.url_parser.specs.Uri.{uri}
use Rattle.std.specs.Prelude.{Result, Ok, Err, ⊤}
use Rattle.lists.specs.declared.Fault.{Fault}
use Rattle.lists.specs.declared.Fault.TheVariants.{UnknownKey, Word, Form, Range, NoAddress, ManyHosts, ManyHostaddrs, ManyPorts}
use Rattle.lists.specs.Fault.{is_fine, fault_number, number_of, key_of}
use Rattle.config.specs.declared.Config.{Config}
use Rattle.config.specs.Config.{defaults}
use Rattle.apply.specs.Apply.{applied}
use Rattle.outcome.specs.declared.Answer.{Answer}
use Rattle.ending.specs.declared.Ending.{Ending}
use Rattle.outcome.specs.Outcome.{ending_of}
use Rattle.outcome.specs.Outcome.{reading, kept, refusal, Outcome, outcome, outcome_of, answer}
use Rattle.answers.proofs.Ends.{reading-end}

pub record Small (a : Answer) : Type 0 where
  pub number : a.number ≤ 15
  pub key : a.key ≤ 20
  pub count : a.count ≤ 8194

-- a fault's number, and the key that it names
one-most : (f : Fault) → fault_number f ≤ 15
one-most UnknownKey = omega arith
one-most Word = omega arith
one-most Form = omega arith
one-most Range = omega arith
one-most NoAddress = omega arith
one-most ManyHosts = omega arith
one-most ManyHostaddrs = omega arith
one-most ManyPorts = omega arith

fault-most : (r : Result ⊤ Fault) → number_of r ≤ 15
fault-most (Ok x) = omega arith
fault-most (Err f) = one-most f

key-most : (f : Result ⊤ Fault) (k : ℕ) → k ≤ 20 → key_of f k ≤ 20
key-most f k h = by (eqb (number_of f) 5)
  where
    by : (t : Bool) → pick t k 0 ≤ 20
    by true = h
    by false = omega arith

among-most : (k : ℕ) (ws : List (List ℕ)) (s : List ℕ) → among k ws s ≤ k + length ws
unfolding among
among-most k [] s = omega arith
among-most k (w ∷ ws) s = by (same s w) (among-most (k + 1) ws s)
  where
    by : (t : Bool) → among (k + 1) ws s ≤ k + 1 + length ws → pick t k (among (k + 1) ws s) ≤ k + length (w ∷ ws)
    by true h = omega arith
    by false h = omega arith

kind-most : (s : Setting) → kind_of s ≤ 20
unfolding kind_of key_number number_in
kind-most (keyed k v) = among-most 1 key_names k
kind-most (one_host v) = omega arith

-- a reading has at most two settings for each byte, and two more
reads-most : (s : List ℕ) (st : Step) (on : ℕ → Reading) (m : ℕ) → ((n : ℕ) → length (on n).settings ≤ m) → length (reads s st on).settings ≤ suc m
unfolding reads
reads-most s (Err None) on m h = omega arith
reads-most s (Err (Some r)) on m h = omega arith
reads-most s (Ok p) on m h = let g : length (on p.next).settings ≤ m = h p.next in omega arith

pairs-most : (k : ℕ) (s : List ℕ) → length (key_value_from k s).settings ≤ length s
unfolding key_value_from
pairs-most k [] = omega arith
pairs-most (suc k) (a ∷ s) = let h : length (key_value_from k s).settings ≤ length s = pairs-most k s in omega arith
pairs-most zero (a ∷ s) =
    reads-most (a ∷ s) (parameter_at (a ∷ s) 0) (λ (next : ℕ). key_value_from (next - 1) s) (length s) (λ next. pairs-most (next - 1) s)

reading-most : (s : List ℕ) → length (reading s).settings ≤ 2 * length s + 2
unfolding reading key_value
reading-most s = by (eqb (prefix_len s) 0)
  where
    by : (t : Bool) → length (pick t (key_value_from 0 s) (uri (drop (prefix_len s) s))).settings ≤ 2 * length s + 2
    by true = let h : length (key_value_from 0 s).settings ≤ length s = pairs-most 0 s in omega arith
    by false = omega (arith, uri-most (drop (prefix_len s) s), length-drop (prefix_len s) s)

record SmallOutcome (o : Outcome) : Type 0 where
  small-answer : Small o.answer

pick-outcome : (t : Bool) {x y : Outcome} → SmallOutcome x → SmallOutcome y → SmallOutcome (pick t x y)
pick-outcome true h g = h
pick-outcome false h g = g

outcome-of-one : (number key count : ℕ) (c : Config) (b : List ℕ) → number ≤ 15 → key ≤ 20 → count ≤ 8194
    → SmallOutcome (record { answer = record { number = number; key = key; count = count; config = c }; packed = b })
outcome-of-one number key count c b h g m = record { small-answer = record { number = h; key = g; count = m } }

outcome-small : (c : Config) (b : List ℕ) (n : ℕ) (ss : List Setting) (end : ℕ) → end ≤ 12 → n + length ss ≤ 8194 → SmallOutcome (outcome c b n ss end)
unfolding outcome
outcome-small c b n [] end h m =
    pick-outcome (eqb end 0) (outcome-of-one 0 0 n c b (omega arith) (omega arith) (omega arith)) (outcome-of-one end 0 n defaults [] (omega arith) (omega arith) (omega arith))
outcome-small c b n (s ∷ ss) end h m =
    let f : Result ⊤ Fault = (applied (kind_of s) (value_of s) (length b) c).fault in
    let c' : Config = (applied (kind_of s) (value_of s) (length b) c).config in
    pick-outcome (is_fine f) (outcome-small c' (b ++ kept s) (n + 1) ss end h (omega arith))
    (outcome-of-one (number_of f) (key_of f (kind_of s)) n defaults [] (fault-most f) (key-most f (kind_of s) (kind-most s)) (omega arith))

refusal-small : (n : ℕ) → n ≤ 3 → Small (refusal n 0 0)
refusal-small n h = record { number = omega arith; key = omega arith; count = omega arith }

outcome-of : (s : List ℕ) → length s ≤ 4096 → Small (outcome_of s).answer
unfolding outcome_of
outcome-of s h = (outcome-small defaults [] 0 (reading s).settings (reading s).end (reading-end s) (omega (arith, reading-most s))).small-answer

pick_small : (t : Bool) {a b : Answer} → Small a → Small b → Small (pick t a b)
pick_small true h g = h
pick_small false h g = g

answer-small : (s : List ℕ) (room : ℕ) → Small (answer s room)
unfolding answer
answer-small s room = by (ltb 4096 (length s)) refl
  where
    by : (t : Bool) → ltb 4096 (length s) ≡ t
        → Small (pick t (refusal 1 0 0) (pick (ltb room (length s)) (refusal 2 0 0) (pick (well_formed s) (outcome_of s).answer (refusal 3 0 0))))
    by true e = refusal-small 1 (omega arith)
    by false e =
        pick_small (ltb room (length s)) (refusal-small 2 (omega arith))
        (pick_small (well_formed s) (outcome-of s (ltb-false 4096 (length s) e)) (refusal-small 3 (omega arith)))

pub small : (a : Answer) (s : List ℕ) (room : ℕ) → a ≡ answer s room → Small a
small a s room e = subst Small (sym e) (answer-small s room)

-- the same of an answer without its record
pub record SmallEnding (e : Ending) : Type 0 where
  pub number : e.number ≤ 15
  pub key : e.key ≤ 20
  pub count : e.count ≤ 8194

pub small-ending : (e : Ending) (s : List ℕ) (room : ℕ) → e ≡ ending_of (answer s room) → SmallEnding e
small-ending e s room is =
    let a = answer-small s room in
    subst SmallEnding (sym is) (record { number = a.number; key = a.key; count = a.count })

-- an accepted text is within the limit
accepted-short : (s : List ℕ) (room : ℕ) → (answer s room).number ≡ 0 → length s ≤ 4096
unfolding answer
accepted-short s room = by (ltb 4096 (length s)) refl
  where
    by : (t : Bool) → ltb 4096 (length s) ≡ t
        → (pick t (refusal 1 0 0) (pick (ltb room (length s)) (refusal 2 0 0) (pick (well_formed s) (outcome_of s).answer (refusal 3 0 0)))).number ≡ 0 → length s ≤ 4096
    by true e z = omega arith
    by false e z = ltb-false 4096 (length s) e

pub within : (a : Answer) (s : List ℕ) (room : ℕ) → a ≡ answer s room → a.number ≡ 0 → length s ≤ 4096
within a s room e = subst (λ (x : Answer). x.number ≡ 0 → length s ≤ 4096) (sym e) (accepted-short s room)
