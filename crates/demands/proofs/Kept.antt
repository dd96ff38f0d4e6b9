-- The kept bytes of a reading never pass the text's length, and a text within the limit has at most 8,172 settings: by induction over the steps of a reading.
-- Assumes nothing.
use Prim.Native.Nat.{ℕ, zero, suc, ◌+◌, ◌≤◌, ◌<◌}
use mathlib.Core.Path.{◌≡◌, refl, sym, ap, subst, ◌∙◌}
use mathlib.Core.Bool.{Bool, true, false}
use mathlib.Core.List.{List, ◌++◌}
use native.Mathlib.Omega.{arith}
use lib.ListN.{length, drop, length-append}
use Rattle.byte.specs.Byte.{pick}
use Rattle.names.specs.Find.{prefix_len}
use Rattle.names.proofs.Prefix.{prefix-long}
use Rattle.setting.specs.Setting.{Setting, kind_of, value_of, Reading}
use Rattle.keyvalue.specs.KeyValue.{key_value}
use Rattle.url_parser.specs.declared.Stage.{Stage}
use Rattle.url_parser.specs.declared.Url.{Url}
use Rattle.url_parser.specs.declared.Found.{Found}
use Rattle.std.proofs.Common.{Ok, Err, Some, None}
use Rattle.url_parser.specs.Step.{UrlStep, url}
use Rattle.url_parser.specs.Uri.{uri}
use Rattle.url_parser.proofs.Reading.{reading-start, left-start}
use Rattle.taking.specs.Taking.{keeps}
use Rattle.outcome.specs.Outcome.{kept}
use Rattle.taking.specs.Taking.{next_at}
use Rattle.taking.proofs.Next.{from, measure, Next, next-found, next-over, next-refused}
use Rattle.demands.specs.Giving.{joined}

-- what is kept of a setting: its value or nothing
kept-long : (x : Setting) (k : Bool) → keeps (kind_of x) ≡ k → length (kept x) ≡ pick k (length (value_of x)) 0
unfolding kept
kept-long x true e = rw e
kept-long x false e = rw e

module _ (s : List ℕ) (is_uri : Bool) where
  -- of a reading from a place on: what is kept fits behind the place, and no more settings come than the measure says
  abbrev Fit : Url → Reading → Type 0
  Fit u r = (u.at + length (joined r.settings) ≤ length s) × (length r.settings ≤ measure s is_uri u)

  module _ (u : Url) (f : Found) (x : Next s is_uri u f) (i : Fit f.next (from s is_uri f.next)) where
    fit-kept : (k : Bool) → keeps f.kind ≡ k → u.at + length (kept x.setting ++ joined (from s is_uri f.next).settings) ≤ length s
    fit-kept true q =
        let l : length (kept x.setting) ≡ length (value_of x.setting) = kept-long x.setting true (ap keeps x.kind ∙ q) in
        omega (arith, length-append (kept x.setting) (joined (from s is_uri f.next).settings), l, ap length x.value, x.packs q, i.0)
    fit-kept false q =
        let l : length (kept x.setting) ≡ 0 = kept-long x.setting false (ap keeps x.kind ∙ q) in
        omega (arith, length-append (kept x.setting) (joined (from s is_uri f.next).settings), l, x.on, i.0)

    fit_found : Fit u (from s is_uri u)
    unfolding joined
    fit_found = subst (Fit u) (sym x.reads) (fit-kept (keeps f.kind) refl, omega (arith, i.1, x.falls))

  fit-below : (n : ℕ) (u : Url) → u.at ≤ length s → measure s is_uri u < n → Fit u (from s is_uri u)
  unfolding joined
  fit-below zero u h l = absurd (omega arith)
  fit-below (suc n) u h l = by (next_at s is_uri u) refl (fit-below n)
    where
      by : (step : UrlStep) → next_at s is_uri u ≡ step → ((w : Url) → w.at ≤ length s → measure s is_uri w < n → Fit w (from s is_uri w)) → Fit u (from s is_uri u)
      by (Err None) e below = subst (Fit u) (sym (next-over s is_uri u h e)) (omega arith, omega arith)
      by (Err (Some x)) e below = subst (Fit u) (sym (next-refused s is_uri u x h e)) (omega arith, omega arith)
      by (Ok f) e below =
          let x : Next s is_uri u f = next-found s is_uri u f h e in
          fit_found u f x (below f.next x.inside (omega (arith, x.falls)))

  fit : (u : Url) → u.at ≤ length s → Fit u (from s is_uri u)
  fit u h = fit-below (suc (measure s is_uri u)) u h (omega arith)

-- of the whole text
module _ (s : List ℕ) where
  abbrev pub FitsWhole : Reading → Type 0
  FitsWhole r = (length (joined r.settings) ≤ length s) × (length s ≤ 4096 → length r.settings ≤ 8172)

  pub fits-pairs : FitsWhole (key_value s)
  unfolding from measure
  fits-pairs =
      let i : Fit s false (url Stage.Credentials 0) (key_value s) = fit s false (url Stage.Credentials 0) (omega arith) in
      (omega (arith, i.0), λ h. omega (arith, i.1))

  pub fits-uri : (prefix_len s ≡ 0 → ⊥) → FitsWhole (uri (drop (prefix_len s) s))
  unfolding from measure
  fits-uri h =
      let p : ℕ = prefix_len s in
      let l = prefix-long s h in
      let i : Fit s true (url Stage.Credentials p) (uri (drop p s)) = subst (Fit s true (url Stage.Credentials p)) (reading-start s p) (fit s true (url Stage.Credentials p) l.1) in
      (omega (arith, i.0), λ h. omega (arith, i.1, left-start s p, l.0))
