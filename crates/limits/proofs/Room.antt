-- Theorem 5, its last part: no report of a text is longer than 13,795 bytes.
-- Assumes nothing.
use Rattle.std.specs.Prelude.{Ok}
use Prim.Native.Nat.{ℕ, ◌+◌, ◌≤◌}
use mathlib.Core.Path.{◌≡◌, refl, sym, ap, subst}
use mathlib.Core.List.{List, []}
use native.Mathlib.Omega.{arith}
use borrow.Author.Tests.{le-leb}
use lib.ListN.{length, take, length-map, length-take}
use Rattle.config.specs.declared.Config.{Config}
use Rattle.config.specs.Config.{defaults}
use Rattle.config.specs.Values.{Values, host_shown, shown}
use Rattle.view.specs.Given.{Told, plain, told}
use Rattle.view.proofs.Seen.{In, defaults-in, shown-grows}
use Rattle.outcome.specs.declared.Answer.{Answer}
use Rattle.outcome.specs.Outcome.{reading, answer, left}
use Rattle.report.specs.Answer.{reported}
use Rattle.telling.specs.Bound.{shown_bytes, Sized}
use Rattle.telling.proofs.Bound.{report-bound}
use Rattle.demands.specs.Blind.{Readable, tells}
use Rattle.demands.specs.Giving.{joined, Gives, too_long, no_room, not-utf8, first-fails, end-refuses, accepts}
use Rattle.demands.proofs.Whole.{kept-fits}
use Rattle.demands.proofs.Answering.{gives}
use Rattle.demands.proofs.Shows.{read-tells, read-in, read-sound}
use Rattle.limits.specs.Limits.{kept_bytes, report_most, given, shows, reports, Fits}
use Rattle.limits.proofs.Within.{Within, within_more, within-plain, told-within}

-- the default record shows the same over any buffer
pub default-shows : (l : List ℕ) → shown l defaults ≡ plain
default-shows l = shown-grows [] l defaults defaults-in

module _ (s d : List ℕ) where
  -- what holds of the default record, and of what an accepted text gives, holds of what any text gives
  pub of-given : (P : Config → Type 0) → P defaults → (Readable s d → P (given s d)) → P (given s d)
  of-given P default read = by (gives s (length d)) refl
    where
      by : {a : Answer} → Gives s (length d) a → answer s (length d) ≡ a → P a.config
      by (too_long h) e = default
      by (no_room a h) e = default
      by (not-utf8 a b h) e = default
      by (first-fails r f) e = default
      by (end-refuses r w h) e = default
      by (accepts r w h) e = subst (λ (a : Answer). P a.config) e (read (record { short = r.short; room = r.fits; utf8 = r.utf8 }))

  abbrev kept : ℕ
  kept = length (joined (reading s).settings)

  read-within : Readable s d → Within kept (shows s d)
  unfolding tells
  read-within r =
      let t : Told = told plain 0 (reading s).settings (reading s).end in
      subst (Within kept) (sym (ap (λ (x : Told). x.values) (read-tells s d r)))
      (within_more (0 + kept) kept t.values (omega arith) (told-within (reading s).settings (reading s).end 0 0 plain within-plain))

  shows-within : Within kept (shows s d)
  shows-within =
      of-given (λ (c : Config). Within kept (shown (left s d) c))
      (subst (Within kept) (sym (default-shows (left s d))) (within_more 0 kept plain (omega arith) within-plain)) read-within

  shows-bytes : kept_bytes (shows s d) ≤ length s
  shows-bytes = omega (arith, shows-within.bytes, kept-fits s)

few : {A : Type 0} (n : ℕ) (l : List A) → n ≤ 16 → length (take n l) ≤ 16
few n l h = omega (arith, length-take n l)

-- a record that lies in a buffer shows lists of document 01's sizes
sized : (b : List ℕ) (n m : ℕ) (c : Config) → In n c → Within m (shown b c) → Sized (shown b c)
unfolding shown
sized b n m c i h =
    record {
      hosts = omega (arith, length-map (take c.host.count c.host.list) (host_shown b), few c.host.count c.host.list i.hosts.counted);
      addresses = few c.hostaddr.count c.hostaddr.list i.addresses.counted;
      ports = few c.port.count c.port.list i.ports.counted;
      port = h.port;
      retries = h.retries;
    }

shown-kept : (v : Values) → shown_bytes v ≤ kept_bytes v
unfolding kept_bytes shown_bytes
shown-kept v = omega arith

module _ (s d : List ℕ) where
  -- a text that is longer than 4,096 bytes gives the default record
  shown-most : shown_bytes (shows s d) ≤ 4096
  shown-most =
      of-given s d (λ (c : Config). shown_bytes (shown (left s d) c) ≤ 4096)
      (subst (λ (v : Values). shown_bytes v ≤ 4096) (sym (default-shows (left s d))) (omega (arith, shown-kept plain, within-plain.bytes)))
      (λ (r : Readable s d). omega (arith, r.short, shown-kept (shows s d), shows-bytes s d))

  pub report-fits : length (reports s d) ≤ report_most
  report-fits = report-bound (shows s d) (sized (left s d) _ _ (given s d) (read-in s d) (shows-within s d)) shown-most

  pub report-enough : (room : ℕ) → report_most ≤ room → reported (left s d) (given s d) room ≡ Ok (length (reports s d))
  unfolding reported
  report-enough room h = rw (read-sound s d, le-leb (length (reports s d)) room (omega (arith, report-fits)))

  pub fits : Fits s d
  fits = record { sum = (shows-within s d).bytes; bytes = shows-bytes s d; most = report-fits; enough = report-enough }
