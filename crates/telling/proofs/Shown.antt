-- What a record shows over a buffer of bytes is in range, and of document 01's sizes where its counts are.
-- Assumes nothing.
use Prim.Native.Nat.{ℕ, zero, suc, ◌^◌, ◌<◌, ◌≤◌}
use mathlib.Core.Path.{◌≡◌}
use mathlib.Core.Bool.{true, ◌&&◌}
use mathlib.Core.List.{List, [], ◌∷◌, map}
use Rattle.std.specs.Prelude.{Option, Some, None}
use native.Mathlib.Omega.{arith}
use lib.Dec.{leb}
use lib.ListN.{length, take, drop, length-map, length-take}
use borrow.Author.Tests.{leb-true}
use Rattle.byte.proofs.Laws.{and_left, and_right}
use Rattle.lists.specs.declared.Place.{Place}
use Rattle.lists.specs.declared.HostKind.{HostKind}
use Rattle.lists.specs.declared.Host.{Host}
use Rattle.config.specs.declared.Config.{Config}
use Rattle.config.specs.Values.{place_shown, text_shown, kind_shown, host_shown, ports_shown, shown}
use Rattle.config.specs.Sound.{counted}
use Rattle.telling.specs.Bound.{All, Maybe, Sized}
use Rattle.telling.specs.Ranged.{Bytes, Small, NamedBytes, HostsBytes, Ranged}
use Rattle.telling.specs.Typed.{Typed}

-- a part of a list of bytes
pub all_take : (p : ℕ → Type 0) (n : ℕ) (s : List ℕ) → All p s → All p (take n s)
all_take p zero s h = tt
all_take p (suc n) [] h = tt
all_take p (suc n) (a ∷ s) h = (h.0, all_take p n s h.1)

pub all_drop : (p : ℕ → Type 0) (n : ℕ) (s : List ℕ) → All p s → All p (drop n s)
all_drop p zero s h = h
all_drop p (suc n) [] h = tt
all_drop p (suc n) (a ∷ s) h = all_drop p n s h.1

widen : (s : List ℕ) → All (λ (n : ℕ). n < 2 ^ 16) s → All Small s
widen [] h = tt
widen (a ∷ s) h = (omega (arith, h.0), widen s h.1)

-- a count of 32 bits is one of 64
retries-small : (t : Option ℕ) → Maybe (λ (n : ℕ). n < 2 ^ 32) t → Maybe Small t
retries-small (Some n) h = omega (arith, h)
retries-small None h = tt

module _ (b : List ℕ) (bytes : Bytes b) where
  place-bytes : (p : Place) → Bytes (place_shown b p)
  unfolding place_shown
  place-bytes p = all_take _ p.len (drop p.start b) (all_drop _ p.start b bytes)

  text-bytes : (t : Option Place) → Maybe Bytes (text_shown b t)
  text-bytes (Some p) = place-bytes p
  text-bytes None = tt

  kind-bytes : (k : HostKind) → NamedBytes (kind_shown b k)
  kind-bytes (HostKind.Tcp p) = place-bytes p
  kind-bytes (HostKind.Unix p) = place-bytes p

  hosts-bytes : (l : List Host) → HostsBytes (map (host_shown b) l)
  hosts-bytes [] = tt
  hosts-bytes (h ∷ l) = (kind-bytes h.kind, hosts-bytes l)

  pub shown-ranged : (c : Config) → Typed c → Ranged (shown b c)
  unfolding shown
  shown-ranged c t =
      record {
        user = text-bytes c.user;
        dbname = text-bytes c.dbname;
        options = text-bytes c.options;
        name = text-bytes c.application_name;
        host = hosts-bytes (take c.host.count c.host.list);
        hostaddr = t.hostaddr;
        port = widen (ports_shown c.port) t.port;
        connect = t.connect;
        user-time = t.user-time;
        idle = t.idle;
        interval = t.interval;
        retries = retries-small c.keepalives_retries t.retries;
      }

few : {A : Type 0} (n : ℕ) (l : List A) → n ≤ 16 → length (take n l) ≤ 16
few n l h = omega (arith, length-take n l)

pub shown-sized : (b : List ℕ) (c : Config) → counted c ≡ true → Typed c → Sized (shown b c)
unfolding shown counted
shown-sized b c k t =
    let hosts = leb-true c.host.count 16 (and_left _ _ (and_left _ _ k)) in
    let addresses = leb-true c.hostaddr.count 16 (and_right (leb c.host.count 16) _ (and_left _ _ k)) in
    let ports = leb-true c.port.count 16 (and_right (leb c.host.count 16 && leb c.hostaddr.count 16) _ k) in
    record {
      hosts = omega (arith, length-map (take c.host.count c.host.list) (host_shown b), few c.host.count c.host.list hosts);
      addresses = few c.hostaddr.count c.hostaddr.list addresses;
      ports = few c.port.count c.port.list ports;
      port = t.port;
      retries = t.retries;
    }
