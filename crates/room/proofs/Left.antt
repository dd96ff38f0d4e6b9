-- What is left of the room, text by text and host by host.
-- Assumes nothing.
use Prim.Native.Nat.{ℕ, ◌+◌, ◌*◌, ◌-◌, ◌/◌, ◌≤◌}
use mathlib.Core.Path.{◌≡◌, refl, sym, ◌∙◌}
use mathlib.Core.List.{List, [], ◌∷◌}
use Rattle.std.specs.List.{fold}
use mathlib.Core.Bool.{Bool, true, false, ◌&&◌}
use native.Mathlib.Omega.{arith}
use native.Mathlib.Nat.{sub-zero}
use lib.Dec.{ltb, leb}
use lib.ListN.{take}
use borrow.Author.Tests.{lt-ltb, le-ltb, ltb-true, ltb-false, leb-true}
use Rattle.byte.proofs.Laws.{and_left, and_right}
use Rattle.lists.specs.declared.Host.{Host}
use Rattle.config.specs.declared.Config.{Config}
use Rattle.config.specs.Sound.{counted}
use Rattle.room.specs.Room.{text_threes, kind_len, host_threes, threes, surely_fits}

-- the counted hosts, taken away one after the other
pub hosts_taken : (from : ℕ) (hs : List Host) → fold (λ (left : ℕ) (h : Host). left - 4 - kind_len h.kind) from hs ≡ from - host_threes hs
unfolding host_threes
hosts_taken from [] = sym (sub-zero from)
hosts_taken from (h ∷ hs) = hosts_taken (from - 4 - kind_len h.kind) hs ∙ omega arith

-- the counts
module _ (c : Config) where
  pub uncounted : (n : ℕ) → counted c ≡ false → false ≡ surely_fits n c
  unfolding surely_fits
  uncounted n e = rw e

  pub few_addresses : counted c ≡ true → c.hostaddr.count ≤ 16
  unfolding counted
  few_addresses e = leb-true c.hostaddr.count 16 (and_right (leb c.host.count 16) (leb c.hostaddr.count 16) (and_left (leb c.host.count 16 && leb c.hostaddr.count 16) (leb c.port.count 16) e))

  pub few_ports : counted c ≡ true → c.port.count ≤ 16
  unfolding counted
  few_ports e = leb-true c.port.count 16 (and_right (leb c.host.count 16 && leb c.hostaddr.count 16) (leb c.port.count 16) e)

-- taken away one after the other, or all at once
at_once : (room x a b c d e : ℕ) → ltb x (room - a - b - c - d - e) ≡ ltb (x + a + b + c + d + e) room
at_once room x a b c d e = by (ltb x (room - a - b - c - d - e)) refl
  where
    by : (t : Bool) → ltb x (room - a - b - c - d - e) ≡ t → t ≡ ltb (x + a + b + c + d + e) room
    by true f = sym (lt-ltb (x + a + b + c + d + e) room (omega (arith, ltb-true x (room - a - b - c - d - e) f)))
    by false f = sym (le-ltb (x + a + b + c + d + e) room (omega (arith, ltb-false x (room - a - b - c - d - e) f)))

pub room-told : (c : Config) (n u₁ u₂ u₃ u₄ u₅ : ℕ) → counted c ≡ true
    → u₁ ≡ n / 3 - text_threes c.user
    → u₂ ≡ u₁ - text_threes c.dbname
    → u₃ ≡ u₂ - text_threes c.options
    → u₄ ≡ u₃ - text_threes c.application_name
    → u₅ ≡ u₄ - host_threes (take c.host.count c.host.list)
    → ltb (127 + 17 * c.hostaddr.count + 9 * c.port.count) u₅ ≡ surely_fits n c
unfolding surely_fits threes
room-told c n u₁ u₂ u₃ u₄ u₅ s e₁ e₂ e₃ e₄ e₅ =
    rw (s, e₅, e₄, e₃, e₂, e₁) (at_once (n / 3) (127 + 17 * c.hostaddr.count + 9 * c.port.count) (text_threes c.user) (text_threes c.dbname) (text_threes c.options) (text_threes c.application_name) (host_threes (take c.host.count c.host.list)))
