-- What the reader answers, seen through what is shown: it is what 01's reading tells.
-- Assumes nothing.
use Prim.Native.Nat.{ℕ, ◌+◌, ◌-◌, ◌≤◌}
use mathlib.Core.Path.{◌≡◌, refl, sym, ap, subst, ◌∙◌}
use mathlib.Core.Bool.{Bool, true, false, ◌||◌}
use mathlib.Core.List.{List, [], ◌∷◌, ◌++◌, append_assoc}
use native.Mathlib.Omega.{arith}
use borrow.Author.Tests.{eq-eqb, ltb-true, ltb-false}
use lib.Dec.{eqb, ltb}
use lib.ListN.{length, drop, replicate, length-append}
use Rattle.byte.specs.Byte.{pick, between}
use Rattle.byte.specs.Put.{put}
use Rattle.byte.proofs.Laws.{in_between}
use Rattle.utf8.specs.Utf8.{well_formed}
use Rattle.setting.specs.Setting.{Setting, kind_of, value_of}
use Rattle.std.specs.Prelude.{Result, ⊤}
use Rattle.lists.specs.declared.Fault.{Fault}
use Rattle.lists.specs.Fault.{is_fine, number_of, key_of}
use Rattle.config.specs.declared.Config.{Config}
use Rattle.config.specs.Config.{defaults}
use Rattle.config.specs.Values.{shown}
use Rattle.config.specs.Sound.{sound}
use Rattle.apply.specs.Apply.{Applied, after, applied}
use Rattle.apply.proofs.Laws.{applied-fault, applied-fine}
use Rattle.view.specs.Given.{refused as refused_by, Told, plain, tell_refusal, told}
use Rattle.view.proofs.Seen.{In, defaults-in, in_on, in-sound, shown-grows, Packs, seen-fault, seen, still-in}
use Rattle.view.proofs.Told.{told-end, told-on, told-off}
use Rattle.outcome.specs.declared.Answer.{Answer}
use Rattle.taking.specs.Taking.{keeps}
use Rattle.outcome.specs.Outcome.{reading, kept, refusal, Outcome, refused, accepted, ended, outcome, outcome_of, answer, filled, left}
use Rattle.outcome.proofs.Answers.{too_long, no_room, not-utf8, answered}
use Rattle.demands.specs.Blind.{Readable, tells}

-- the reader packs the five texts and hosts
or_right : (a b : Bool) → b ≡ true → a || b ≡ true
or_right true b e = refl
or_right false b e = e

keeps-one : (kind : ℕ) → kind ≡ 20 → keeps kind ≡ true
unfolding keeps
keeps-one kind e = rw (eq-eqb kind 20 e)

keeps-hosts : (kind : ℕ) → kind ≡ 8 → keeps kind ≡ true
unfolding keeps
keeps-hosts kind e = rw e

keeps-texts : (kind : ℕ) → 1 ≤ kind → kind ≤ 5 → keeps kind ≡ true
unfolding keeps
keeps-texts kind lo hi = or_right (eqb kind 20 || eqb kind 8) (between 1 5 kind) (in_between 1 5 kind lo hi)

packs : (s : Setting) → Packs (kind_of s) (value_of s) (kept s)
unfolding kept
packs s =
    record {
      texts = λ (lo : 1 ≤ kind_of s) (hi : kind_of s ≤ 5). rw (keeps-texts (kind_of s) lo hi);
      hosts = λ (e : kind_of s ≡ 8). rw (keeps-hosts (kind_of s) e);
      one = λ (e : kind_of s ≡ 20). rw (keeps-one (kind_of s) e);
    }

-- an outcome tells what a reading tells, and its record lies in what is packed
pub record Tells (o : Outcome) (t : Told) : Type 0 where
  pub told : tells o.answer o.packed ≡ t
  pub inside : In (length o.packed) o.answer.config

tells-refusal : (number key n : ℕ) → Tells (refused number key n) (tell_refusal number key n)
unfolding tells
tells-refusal number key n = record { told = refl; inside = defaults-in }

tells-end : (c : Config) (b : List ℕ) (n : ℕ) → In (length b) c → (t : Bool) (end : ℕ)
    → Tells (pick t (accepted n c b) (refused end 0 n)) (pick t (record { number = 0; key = 0; count = n; values = shown b c }) (tell_refusal end 0 n))
unfolding tells
tells-end c b n h true end = record { told = refl; inside = h }
tells-end c b n h false end = tells-refusal end 0 n

module _ (c : Config) (b : List ℕ) (n end : ℕ) (s : Setting) (ss : List Setting) where
  abbrev here : Applied
  here = applied (kind_of s) (value_of s) (length b) c

  outcome-on : is_fine here.fault ≡ true → outcome c b n (s ∷ ss) end ≡ outcome here.config (b ++ kept s) (n + 1) ss end
  unfolding outcome
  outcome-on e = rw e

  outcome-off : is_fine here.fault ≡ false → outcome c b n (s ∷ ss) end ≡ refused (number_of here.fault) (key_of here.fault (kind_of s)) n
  unfolding outcome
  outcome-off e = rw e

outcome-end : (c : Config) (b : List ℕ) (n end : ℕ) → outcome c b n [] end ≡ ended c b n end
unfolding outcome
outcome-end c b n end = refl

tells_as : (o o' : Outcome) (t t' : Told) → o ≡ o' → t ≡ t' → Tells o' t' → Tells o t
tells_as o o' t t' p q h = rw (p, q) h

pub tells-outcome : (ss : List Setting) (end n : ℕ) (b : List ℕ) (c : Config) → In (length b) c → Tells (outcome c b n ss end) (told (shown b c) n ss end)
tells-outcome [] end n b c h = tells_as _ _ _ _ (outcome-end c b n end) (told-end (shown b c) n end) (tells-end c b n h (eqb end 0) end)
tells-outcome (s ∷ ss) end n b c h = by (is_fine (refused_by (kind_of s) (value_of s) (shown b c))) refl (λ (d : List ℕ) (g : Config). tells-outcome ss end (n + 1) d g)
  where
    fault : (applied (kind_of s) (value_of s) (length b) c).fault ≡ refused_by (kind_of s) (value_of s) (shown b c)
    fault = applied-fault (kind_of s) (value_of s) (length b) c ∙ seen-fault b (value_of s) (kind_of s) c h

    by : (t : Bool) → is_fine (refused_by (kind_of s) (value_of s) (shown b c)) ≡ t
        → ((d : List ℕ) (g : Config) → In (length d) g → Tells (outcome g d (n + 1) ss end) (told (shown d g) (n + 1) ss end))
        → Tells (outcome c b n (s ∷ ss) end) (told (shown b c) n (s ∷ ss) end)
    by true e rest =
        tells_as _ _ _ _
        (outcome-on c b n end s ss (ap is_fine fault ∙ e)
        ∙ ap (λ (a : Applied). outcome a.config (b ++ kept s) (n + 1) ss end)
        (applied-fine (kind_of s) (value_of s) (length b) c (ap is_fine (seen-fault b (value_of s) (kind_of s) c h) ∙ e)))
        (told-on (shown b c) n end s ss e ∙ ap (λ (w : _). told w (n + 1) ss end) (sym (seen b (value_of s) (kept s) (kind_of s) c h (packs s) e)))
        (rest (b ++ kept s) (after (kind_of s) (value_of s) (length b) c) (still-in b (value_of s) (kept s) (kind_of s) c h (packs s) e))
    by false e rest =
        tells_as _ _ _ _
        (outcome-off c b n end s ss (ap is_fine fault ∙ e) ∙ ap (λ (f : Result ⊤ Fault). refused (number_of f) (key_of f (kind_of s)) n) fault)
        (told-off (shown b c) n end s ss e)
        (tells-refusal (number_of (refused_by (kind_of s) (value_of s) (shown b c))) (key_of (refused_by (kind_of s) (value_of s) (shown b c)) (kind_of s)) n)

pub tells-text : (s : List ℕ) → Tells (outcome_of s) (told plain 0 (reading s).settings (reading s).end)
unfolding outcome_of
tells-text s = tells-outcome (reading s).settings (reading s).end 0 [] defaults defaults-in

-- the packed bytes stand in front of the buffer that is left
front : (s b d : List ℕ) → (rest : List ℕ) × (filled s b d ≡ b ++ rest)
unfolding filled put
front s b d =
    let zeros : List ℕ = replicate (length s - length b) 0 in
    (zeros ++ drop (0 + length (b ++ zeros)) d, append_assoc b zeros (drop (0 + length (b ++ zeros)) d))

filled-shows : (s b d : List ℕ) (c : Config) → In (length b) c → shown (filled s b d) c ≡ shown b c
filled-shows s b d c h = let f = front s b d in ap (λ (l : List ℕ). shown l c) f.1 ∙ shown-grows b f.0 c h

filled_in : (s b d : List ℕ) (c : Config) → In (length b) c → In (length (filled s b d)) c
filled_in s b d c h =
    let f = front s b d in
    let l : length (filled s b d) ≡ length b + length f.0 = ap length f.1 ∙ length-append b f.0 in
    in_on (length b) (length (filled s b d)) c (omega arith) h

-- what the reader gives for a text within the limits is what 01's reading tells
pub read-tells : (s d : List ℕ) → Readable s d → tells (answer s (length d)) (left s d) ≡ told plain 0 (reading s).settings (reading s).end
unfolding tells
read-tells s d r =
    let o = answered s d r.short r.room r.utf8 in
    let t = tells-text s in
    ap (λ (a : Answer). tells a (left s d)) (sym o.0)
    ∙ ap (λ (l : List ℕ). tells (outcome_of s).answer l) (sym o.1)
    ∙ ap (λ (w : _). record { number = (outcome_of s).answer.number; key = (outcome_of s).answer.key; count = (outcome_of s).answer.count; values = w })
    (filled-shows s (outcome_of s).packed d (outcome_of s).answer.config t.inside)
    ∙ t.told

-- whatever the text and the buffer are, the record given back lies in the buffer that is left
defaults-anywhere : (n : ℕ) → In n defaults
defaults-anywhere n = in_on 0 n defaults (omega arith) defaults-in

in-refused : (s d : List ℕ) (number : ℕ) → refusal number 0 0 ≡ answer s (length d) → In (length (left s d)) (answer s (length d)).config
in-refused s d number e = subst (λ (a : Answer). In (length (left s d)) a.config) e (defaults-anywhere (length (left s d)))

in-answered : (s d : List ℕ) → (outcome_of s).answer ≡ answer s (length d) → filled s (outcome_of s).packed d ≡ left s d → In (length (left s d)) (answer s (length d)).config
in-answered s d a l =
    subst (λ (x : Answer). In (length (left s d)) x.config) a
    (subst (λ (x : List ℕ). In (length x) (outcome_of s).answer.config) l (filled_in s (outcome_of s).packed d (outcome_of s).answer.config (tells-text s).inside))

pub read-in : (s d : List ℕ) → In (length (left s d)) (answer s (length d)).config
read-in s d = by (ltb 4096 (length s)) (ltb (length d) (length s)) (well_formed s) refl refl refl
  where
    by : (p q r : Bool) → ltb 4096 (length s) ≡ p → ltb (length d) (length s) ≡ q → well_formed s ≡ r → In (length (left s d)) (answer s (length d)).config
    by true q r a b c = in-refused s d 1 (too_long s d (ltb-true 4096 (length s) a)).0
    by false true r a b c = in-refused s d 2 (no_room s d (ltb-false 4096 (length s) a) (ltb-true (length d) (length s) b)).0
    by false false true a b c =
        let o = answered s d (ltb-false 4096 (length s) a) (ltb-false (length d) (length s) b) c in
        in-answered s d o.0 o.1
    by false false false a b c = in-refused s d 3 (not-utf8 s d (ltb-false 4096 (length s) a) (ltb-false (length d) (length s) b) c).0

-- so a report of it, with that buffer, is never refused with 17
pub read-sound : (s d : List ℕ) → sound (length (left s d)) (answer s (length d)).config ≡ true
read-sound s d = in-sound (length (left s d)) (answer s (length d)).config (read-in s d)
