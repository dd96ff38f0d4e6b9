-- What a step says of the reading from its place on, for a URI and for a key-value text alike.
-- Assumes nothing.
use Prim.Native.Nat.{ℕ, ◌+◌, ◌-◌, ◌≤◌, ◌<◌}
use mathlib.Core.Path.{◌≡◌, refl, sym, ap, subst, ◌∙◌}
use mathlib.Core.Bool.{Bool, true, false}
use mathlib.Core.List.{List}
use native.Mathlib.Omega.{arith}
use lib.ListN.{length, drop}
use Rattle.byte.specs.Byte.{part_of, between}
use Rattle.setting.specs.Setting.{Setting, kind_of, value_of, Reading, ends, follows}
use Rattle.std.proofs.Common.{Ok, Err, Some, None}
use Rattle.setting.specs.declared.Refusal.{Refusal}
use Rattle.setting.specs.Refusal.{refusal_number}
use Rattle.keyvalue.specs.declared.Key.{Key}
use Rattle.keyvalue.specs.declared.Raw.{Raw}
use Rattle.keyvalue.specs.KeyValue.{Step, pair, key_value, parameter_at, unescaped}
use Rattle.keyvalue.proofs.Stands.{Stands, stands}
use Rattle.keyvalue.proofs.Reading.{setting_of, reading-done, reading-refused, reading-found, kind-is, value-is}
use Rattle.url_parser.specs.declared.Stage.{Stage}
use Rattle.url_parser.specs.declared.Url.{Url}
use Rattle.url_parser.specs.declared.Found.{Found}
use Rattle.url_parser.specs.Step.{given, over, refused, url, value_in, reading_from}
use Rattle.url_parser.proofs.Reading.{Gives, left, reading_step, reading-over, reading-refused as uri-refused}
use Rattle.url_parser.proofs.Branches.{value-fixed}
use Rattle.taking.specs.Taking.{keeps}
use Rattle.taking.specs.Taking.{as_url_step, next_at, value_at}

-- the reading from a place on
unfoldable pub from : List ℕ → Bool → Url → Reading
from s true u = reading_from s u
from s false u = key_value (drop u.at s)

-- more settings than can still come
unfoldable pub measure : List ℕ → Bool → Url → ℕ
measure s true u = left s u
measure s false u = length s - u.at

-- how far what is packed stays behind the place that is read: a URI's prefix is never packed
unfoldable pub slack : Bool → ℕ
slack true = 11
slack false = 0

pub record Next (s : List ℕ) (uri : Bool) (u : Url) (f : Found) : Type 0 where
  pub setting : Setting
  pub reads : from s uri u ≡ follows setting (from s uri f.next)
  pub kind : kind_of setting ≡ f.kind
  pub value : value_of setting ≡ value_at s uri f
  pub room : u.at + length (value_at s uri f) ≤ length s + slack uri
  pub packs : keeps f.kind ≡ true → u.at + length (value_at s uri f) ≤ f.next.at
  pub on : u.at ≤ f.next.at
  pub inside : f.next.at ≤ length s
  pub falls : measure s uri f.next < measure s uri u

-- the next setting of a key-value text
module _ (s : List ℕ) (u : Url) (key : Key) (value : Raw) (next : ℕ) (step : parameter_at s u.at ≡ pair key value next) where
  k : Stands s u.at key value next
  k = stands s u.at key value next step

  short : u.at + length (unescaped (part_of value.from value.to s)) ≤ next
  unfolding part_of
  short = omega (arith, k.len_is, k.len-most, k.order, k.behind, k.key-before, k.key-some, k.start)

  pair-next : Next s false u (record { kind = key.number; from = value.from; to = value.to; len = value.len; fixed = false; next = url Stage.Credentials next })
  unfolding from measure slack part_of
  pair-next =
      record {
        setting = setting_of s key value;
        reads = reading-found s u.at key value next step;
        kind = kind-is s u.at key value next step;
        value = value-is s u.at key value next step;
        room = omega (arith, short, k.within);
        packs = λ _. short;
        on = omega (arith, k.grows);
        inside = k.within;
        falls = omega (arith, k.grows, k.within);
      }

pair_found : (s : List ℕ) (u : Url) (step : Step) → parameter_at s u.at ≡ step → (f : Found) → as_url_step step ≡ given f → Next s false u f
pair_found s u (Err None) e f q = let z : ◌≡◌ {A = ℕ} 0 1 = cc in absurd (omega arith)
pair_found s u (Err (Some r)) e f q = let z : ◌≡◌ {A = ℕ} 0 1 = cc in absurd (omega arith)
pair_found s u (Ok p) e f q =
    let r : record { kind = p.key.number; from = p.value.from; to = p.value.to; len = p.value.len; fixed = false; next = url Stage.Credentials p.next } ≡ f = cc in
    subst (Next s false u) r (pair-next s u p.key p.value p.next e)

pair_over : (s : List ℕ) (u : Url) (step : Step) → parameter_at s u.at ≡ step → as_url_step step ≡ over → from s false u ≡ ends 0
unfolding from
pair_over s u (Err None) e q = reading-done s u.at e
pair_over s u (Err (Some r)) e q = let z : ◌≡◌ {A = ℕ} 0 1 = cc in absurd (omega arith)
pair_over s u (Ok p) e q = let z : ◌≡◌ {A = ℕ} 0 1 = cc in absurd (omega arith)

pair_refused : (s : List ℕ) (u : Url) (step : Step) → parameter_at s u.at ≡ step → (r : Refusal) → as_url_step step ≡ refused r → from s false u ≡ ends (refusal_number r)
unfolding from
pair_refused s u (Err None) e r q = let z : ◌≡◌ {A = ℕ} 0 1 = cc in absurd (omega arith)
pair_refused s u (Err (Some m)) e r q = let same : m ≡ r = cc in reading-refused s u.at m e ∙ ap (λ (x : Refusal). ends (refusal_number x)) same
pair_refused s u (Ok p) e r q = let z : ◌≡◌ {A = ℕ} 0 1 = cc in absurd (omega arith)

-- port's value is not kept
no-port : {A : Type 0} → (kind : ℕ) → kind ≡ 10 → keeps kind ≡ true → A
unfolding keeps between
no-port kind e q = let z : ◌≡◌ {A = Bool} false true = ap keeps (sym e) ∙ q in let y : ◌≡◌ {A = ℕ} 0 1 = cc in absurd (omega arith)

-- the next setting of a URI
uri-next : (s : List ℕ) (u : Url) (f : Found) → u.at ≤ length s → Gives s u.at (left s u) (reading_from s u) f → Next s true u f
unfolding from measure slack
uri-next s u f h g =
    record {
      setting = g.setting;
      reads = g.reads;
      kind = g.kind;
      value = g.value;
      room = room f.fixed refl;
      packs = packs f.fixed refl;
      on = omega (arith, g.starts, g.ordered, g.within);
      inside = g.inside;
      falls = g.falls;
    }
  where
    room : (t : Bool) → f.fixed ≡ t → u.at + length (value_in s f) ≤ length s + 11
    room true e = omega (arith, ap length (value-fixed s f e))
    room false e = omega (arith, g.long, g.short e, g.starts, g.ordered, g.within, g.inside)

    packs : (t : Bool) → f.fixed ≡ t → keeps f.kind ≡ true → u.at + length (value_in s f) ≤ f.next.at
    packs true e q = no-port f.kind (g.port-only e) q
    packs false e q = omega (arith, g.long, g.short e, g.starts, g.ordered, g.within)

pub next-found : (s : List ℕ) (uri : Bool) (u : Url) (f : Found) → u.at ≤ length s → next_at s uri u ≡ given f → Next s uri u f
next-found s true u f h e = uri-next s u f h (reading_step s u f h e)
next-found s false u f h e = pair_found s u (parameter_at s u.at) refl f e

pub next-over : (s : List ℕ) (uri : Bool) (u : Url) → u.at ≤ length s → next_at s uri u ≡ over → from s uri u ≡ ends 0
unfolding from
next-over s true u h e = reading-over s u h e
next-over s false u h e = pair_over s u (parameter_at s u.at) refl e

pub next-refused : (s : List ℕ) (uri : Bool) (u : Url) (r : Refusal) → u.at ≤ length s → next_at s uri u ≡ refused r → from s uri u ≡ ends (refusal_number r)
unfolding from
next-refused s true u r h e = uri-refused s u r h e
next-refused s false u r h e = pair_refused s u (parameter_at s u.at) refl r e
