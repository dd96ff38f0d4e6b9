-- The reader's loop: what holds while settings are applied, what a turn makes of it, and what holds where a turn stops.
-- Assumes nothing.
use Prim.Native.Nat.{ℕ, ◌+◌, ◌≤◌, ◌<◌}
use mathlib.Core.Path.{◌≡◌, refl, sym, ap, ◌∙◌}
use mathlib.Core.Bool.{Bool, true, false}
use mathlib.Core.List.{List, [], ◌++◌, append-nil}
use native.Mathlib.Omega.{arith}
use lib.ListN.{length, length-append}
use Rattle.std.specs.Prelude.{Option, Some, None, Result, Ok, Err}
use Rattle.byte.specs.Byte.{pick, part_of}
use Rattle.byte.specs.Put.{put, written, after}
use Rattle.setting.specs.Setting.{Setting, kind_of, value_of, Reading, ends, follows}
use Rattle.url_parser.specs.declared.Found.{Found}
use Rattle.setting.specs.declared.Refusal.{Refusal}
use Rattle.setting.specs.declared.Refusal.TheVariants.{NoSign, KeyAlone, EmptyValue, OpenQuote, Bracket, NoEquals, NotUtf8}
use Rattle.setting.specs.Refusal.{refusal_number}
use Rattle.url_parser.specs.Step.{UrlStep}
use Rattle.lists.specs.Fault.{is_fine, number_of, key_of}
use Rattle.config.specs.declared.Config.{Config}
use Rattle.apply.specs.Apply.{Applied, applied}
use Rattle.taking.specs.declared.Taken.{Taken}
use Rattle.outcome.specs.Outcome.{kept, refused, ended, outcome, outcome_of}
use Rattle.taking.specs.Taking.{keeps, next_at, value_at, taken_by, left_by, taken_of, taken_leaves}
use Rattle.outcome.specs.Steps.{State}
use Rattle.outcome.proofs.Packing.{Packed, value_written, value_after, value-stands, value-left, value-packed}
use Rattle.taking.proofs.Next.{from, measure, slack, Next, next-found, next-over, next-refused}

-- d₀ is the buffer at first, d the buffer now, n settings are applied, and with those that can still come they are at most m
pub record Going (s d₀ : List ℕ) (uri : Bool) (m : ℕ) (d : List ℕ) (st : State) (n : ℕ) : Type 0 where
  pub bytes : List ℕ
  pub long : length bytes ≡ st.packed
  pub packed : Packed (length s) d₀ bytes d
  pub low : length bytes + slack uri ≤ st.url.at
  pub at : st.url.at ≤ length s
  pub comes : outcome_of s ≡ outcome st.config bytes n (from s uri st.url).settings (from s uri st.url).end
  pub counted : n + measure s uri st.url ≤ m

-- no refusal has the number of a clean end
pub refusal-numbered : (r : Refusal) → refusal_number r ≡ 0 → ⊥
refusal-numbered NoSign e = omega arith
refusal-numbered KeyAlone e = omega arith
refusal-numbered EmptyValue e = omega arith
refusal-numbered OpenQuote e = omega arith
refusal-numbered Bracket e = omega arith
refusal-numbered NoEquals e = omega arith
refusal-numbered NotUtf8 e = omega arith

-- the number of an end, which a setting is not
abbrev pub Ends : Result Taken (Option Refusal) → ℕ → Type 0
Ends (Err None) k = k ≡ 0
Ends (Err (Some r)) k = k ≡ refusal_number r
Ends (Ok t) k = ⊥

-- a setting in front of others, applied or not
module _ (c : Config) (b : List ℕ) (n : ℕ) (x : Setting) (r : Reading) (a : Applied) (is : a ≡ applied (kind_of x) (value_of x) (length b) c) where
  outcome-on : is_fine a.fault ≡ true → outcome c b n (follows x r).settings (follows x r).end ≡ outcome a.config (b ++ kept x) (n + 1) r.settings r.end
  unfolding outcome
  outcome-on e = rw (← is, e)

  outcome-stop : is_fine a.fault ≡ false → outcome c b n (follows x r).settings (follows x r).end ≡ refused (number_of a.fault) (key_of a.fault (kind_of x)) n
  unfolding outcome
  outcome-stop e = rw (← is, e)

outcome-end : (c : Config) (b : List ℕ) (n end : ℕ) → outcome c b n (ends end).settings (ends end).end ≡ ended c b n end
unfolding outcome
outcome-end c b n end = refl

-- what is kept of a setting of some kind
kept-true : (x : Setting) → keeps (kind_of x) ≡ true → kept x ≡ value_of x
unfolding kept
kept-true x e = rw e

kept-false : (x : Setting) → keeps (kind_of x) ≡ false → kept x ≡ []
unfolding kept
kept-false x e = rw e

module _ (s d₀ : List ℕ) (uri : Bool) (m : ℕ) (d : List ℕ) (st : State) (n : ℕ) (g : Going s d₀ uri m d st n) (long : length s ≤ length d₀) where
  -- a step that found a setting, whose value is v
  module _ (f : Found) (v : List ℕ) (is : v ≡ value_at s uri f) (x : Next s uri st.url f) where
    room : length g.bytes + length v ≤ length s
    room = omega (arith, g.low, x.room, ap length is)

    is-written : written d st.packed v ≡ put d (length g.bytes) v
    is-written = rw (← g.long) (value_written (length s) d₀ g.bytes d g.packed long v room)

    is-after : after d st.packed v ≡ length g.bytes + length v
    is-after = rw (← g.long) (value_after (length s) d₀ g.bytes d g.packed long v room)

    stands-there : part_of st.packed (after d st.packed v) (written d st.packed v) ≡ v
    stands-there = rw (is-written, is-after, ← g.long) (value-stands (length s) d₀ g.bytes d g.packed long v room)

    -- what is applied is the setting's value where it stands
    module _ (a : Applied) (gave : a ≡ applied f.kind (part_of st.packed (after d st.packed v) (written d st.packed v)) st.packed st.config) where
      is-applied : a ≡ applied (kind_of x.setting) (value_of x.setting) (length g.bytes) st.config
      is-applied =
          gave ∙ ap (λ (w : List ℕ). applied f.kind w st.packed st.config) (stands-there ∙ is ∙ sym x.value)
          ∙ ap (λ (k : ℕ). applied k (value_of x.setting) st.packed st.config) (sym x.kind)
          ∙ ap (λ (p : ℕ). applied (kind_of x.setting) (value_of x.setting) p st.config) (sym g.long)

      reads_on : outcome_of s ≡ outcome st.config g.bytes n (follows x.setting (from s uri f.next)).settings (follows x.setting (from s uri f.next)).end
      reads_on = g.comes ∙ ap (λ (r : Reading). outcome st.config g.bytes n r.settings r.end) x.reads

      comes-on : is_fine a.fault ≡ true → (w : List ℕ) → kept x.setting ≡ w
          → outcome_of s ≡ outcome a.config (g.bytes ++ w) (n + 1) (from s uri f.next).settings (from s uri f.next).end
      comes-on e w q =
          reads_on ∙ outcome-on st.config g.bytes n x.setting (from s uri f.next) a is-applied e
          ∙ ap (λ (y : List ℕ). outcome a.config (g.bytes ++ y) (n + 1) (from s uri f.next).settings (from s uri f.next).end) q

      -- a setting that is applied
      going : is_fine a.fault ≡ true → (k : Bool) → keeps f.kind ≡ k
          → Going s d₀ uri m (written d st.packed v) (record { config = a.config; packed = pick k (after d st.packed v) st.packed; url = f.next }) (n + 1)
      going e true q =
          record {
            bytes = g.bytes ++ v;
            long = length-append g.bytes v ∙ sym is-after;
            packed = rw is-written (value-packed (length s) d₀ g.bytes d g.packed long v room);
            low = omega (arith, g.low, x.packs q, ap length is, length-append g.bytes v);
            at = x.inside;
            comes = comes-on e v (kept-true x.setting (ap keeps x.kind ∙ q) ∙ x.value ∙ sym is);
            counted = omega (arith, g.counted, x.falls);
          }
      going e false q =
          record {
            bytes = g.bytes;
            long = g.long;
            packed = rw is-written (value-left (length s) d₀ g.bytes d g.packed long v room);
            low = omega (arith, g.low, x.on);
            at = x.inside;
            comes = comes-on e [] (kept-false x.setting (ap keeps x.kind ∙ q)) ∙ ap (λ (y : List ℕ). outcome a.config y (n + 1) (from s uri f.next).settings (from s uri f.next).end) (append-nil g.bytes);
            counted = omega (arith, g.counted, x.falls);
          }

      -- one that is refused
      faulty : is_fine a.fault ≡ false → Packed (length s) d₀ g.bytes (written d st.packed v) × (outcome_of s ≡ refused (number_of a.fault) (key_of a.fault f.kind) n)
      faulty e = (
        rw is-written (value-left (length s) d₀ g.bytes d g.packed long v room),
        reads_on ∙ outcome-stop st.config g.bytes n x.setting (from s uri f.next) a is-applied e
            ∙ ap (λ (k : ℕ). refused (number_of a.fault) (key_of a.fault k) n) x.kind,
      )

  -- what a turn took, by its step
  abbrev given : Found → Taken
  given f =
      record {
        kind = f.kind;
        end = after d st.packed (value_at s uri f);
        packed = pick (keeps f.kind) (after d st.packed (value_at s uri f)) st.packed;
        next = f.next;
      }

  one : (t x : Taken) → ◌≡◌ {A = Result Taken (Option Refusal)} (Ok t) (Ok x) → t ≡ x
  one t x e = cc

  on-by : (step : UrlStep) → next_at s uri st.url ≡ step → (t : Taken) → Ok t ≡ taken_by s uri st.packed d step
      → (l : List ℕ) → l ≡ left_by s uri st.packed d step → (a : Applied) → a ≡ applied t.kind (part_of st.packed t.end l) st.packed st.config → is_fine a.fault ≡ true
      → Going s d₀ uri m l (record { config = a.config; packed = t.packed; url = t.next }) (n + 1) × (measure s uri t.next < measure s uri st.url)
  on-by (Err None) e t is l w a gave fine = cc
  on-by (Err (Some r)) e t is l w a gave fine = cc
  on-by (Ok f) e t is l w a gave fine =
      let x = next-found s uri st.url f g.at e in
      let same : t ≡ given f = one t (given f) is in
      rw (same, w) (going f (value_at s uri f) refl x a (rw (same, w) at gave) fine (keeps f.kind) refl, x.falls)

  off-by : (step : UrlStep) → next_at s uri st.url ≡ step → (t : Taken) → Ok t ≡ taken_by s uri st.packed d step
      → (l : List ℕ) → l ≡ left_by s uri st.packed d step → (a : Applied) → a ≡ applied t.kind (part_of st.packed t.end l) st.packed st.config → is_fine a.fault ≡ false
      → Packed (length s) d₀ g.bytes l × (outcome_of s ≡ refused (number_of a.fault) (key_of a.fault t.kind) n)
  off-by (Err None) e t is l w a gave fine = cc
  off-by (Err (Some r)) e t is l w a gave fine = cc
  off-by (Ok f) e t is l w a gave fine =
      let same : t ≡ given f = one t (given f) is in
      rw (same, w) (faulty f (value_at s uri f) refl (next-found s uri st.url f g.at e) a (rw (same, w) at gave) fine)

  -- an end, clean or broken
  end_by : (step : UrlStep) → next_at s uri st.url ≡ step → (k : ℕ) → Ends (taken_by s uri st.packed d step) k
      → (l : List ℕ) → l ≡ left_by s uri st.packed d step → Packed (length s) d₀ g.bytes l × (outcome_of s ≡ ended st.config g.bytes n k)
  end_by (Err None) e k is l w =
      rw (is, w) (
        g.packed,
        g.comes ∙ ap (λ (r : Reading). outcome st.config g.bytes n r.settings r.end) (next-over s uri st.url g.at e) ∙ outcome-end st.config g.bytes n 0,
      )
  end_by (Err (Some x)) e k is l w =
      rw (is, w) (
        g.packed,
        g.comes ∙ ap (λ (r : Reading). outcome st.config g.bytes n r.settings r.end) (next-refused s uri st.url x g.at e) ∙ outcome-end st.config g.bytes n (refusal_number x),
      )
  end_by (Ok f) e k is l w = absurd is

  -- what a turn took, and what it wrote
  module _ (r : Result Taken (Option Refusal)) (is : r ≡ taken_of s uri st.url st.packed d) (l : List ℕ) (w : l ≡ taken_leaves s uri st.url st.packed d) where
    module _ (t : Taken) (q : r ≡ Ok t) (a : Applied) (gave : a ≡ applied t.kind (part_of st.packed t.end l) st.packed st.config) where
      pub go_on : is_fine a.fault ≡ true → Going s d₀ uri m l (record { config = a.config; packed = t.packed; url = t.next }) (n + 1) × (measure s uri t.next < measure s uri st.url)
      unfolding taken_of taken_leaves
      go_on fine = on-by (next_at s uri st.url) refl t (sym q ∙ is) l w a gave fine

      pub go-off : is_fine a.fault ≡ false → Packed (length s) d₀ g.bytes l × (outcome_of s ≡ refused (number_of a.fault) (key_of a.fault t.kind) n)
      unfolding taken_of taken_leaves
      go-off fine = off-by (next_at s uri st.url) refl t (sym q ∙ is) l w a gave fine

    pub at-end : (k : ℕ) → Ends r k → Packed (length s) d₀ g.bytes l × (outcome_of s ≡ ended st.config g.bytes n k)
    unfolding taken_of taken_leaves
    at-end k q = end_by (next_at s uri st.url) refl k (rw is at q) l w
