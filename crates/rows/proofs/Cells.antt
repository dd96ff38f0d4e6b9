-- A place of a list written in the cells of its rows: the lists that the rows stand for have the new element there.
-- Assumes nothing.
use Prim.Native.Nat.{ℕ, zero, suc, ◌+◌, ◌*◌}
use mathlib.Core.Path.{◌≡◌, refl, ap}
use mathlib.Core.List.{List, [], ◌∷◌}
use native.Mathlib.Omega.{arith}
use lib.ListN.{drop, set}
use lib.Seq.{drop-set-add}
use Rattle.lists.specs.declared.Host.{Host}
use Rattle.address.specs.declared.Address.{Address}
use Rattle.rows.specs.Rows.{host_at, hosts_of, address_at, addresses_of}

-- the cells of the next place stand three further on
pub three-on : (n k : ℕ) → 3 * suc n + k ≡ suc (suc (suc (3 * n + k)))
three-on n k = omega arith

pub three-more : (n : ℕ) → 3 * suc n ≡ suc (suc (suc (3 * n)))
three-more n = omega arith

pub host-set : (r : List ℕ) (n kind start len : ℕ) → hosts_of (set (set (set r (3 * n) kind) (3 * n + 1) start) (3 * n + 2) len) ≡ set (hosts_of r) n (host_at kind start len)
unfolding hosts_of
host-set [] n kind start len = refl
host-set (a ∷ []) zero kind start len = refl
host-set (a ∷ b ∷ []) zero kind start len = refl
host-set (a ∷ b ∷ c ∷ r) zero kind start len = refl
host-set (a ∷ []) (suc n) kind start len = rw (three-on n 1, three-on n 2, three-more n)
host-set (a ∷ b ∷ []) (suc n) kind start len = rw (three-on n 1, three-on n 2, three-more n)
host-set (a ∷ b ∷ c ∷ r) (suc n) kind start len =
    rw (three-on n 1, three-on n 2, three-more n) (ap (λ (l : List Host). host_at a b c ∷ l) (host-set r n kind start len))

pub address-set : (s q : List ℕ) (n kind high low four : ℕ)
    → addresses_of (set (set (set s (3 * n) kind) (3 * n + 1) high) (3 * n + 2) low) (set q n four) ≡ set (addresses_of s q) n (address_at kind high low four)
unfolding addresses_of
address-set [] q n kind high low four = refl
address-set (a ∷ []) q zero kind high low four = refl
address-set (a ∷ b ∷ []) q zero kind high low four = refl
address-set (a ∷ b ∷ c ∷ s) [] zero kind high low four = refl
address-set (a ∷ b ∷ c ∷ s) (d ∷ q) zero kind high low four = refl
address-set (a ∷ []) q (suc n) kind high low four = rw (three-on n 1, three-on n 2, three-more n)
address-set (a ∷ b ∷ []) q (suc n) kind high low four = rw (three-on n 1, three-on n 2, three-more n)
address-set (a ∷ b ∷ c ∷ s) [] (suc n) kind high low four = rw (three-on n 1, three-on n 2, three-more n)
address-set (a ∷ b ∷ c ∷ s) (d ∷ q) (suc n) kind high low four =
    rw (three-on n 1, three-on n 2, three-more n) (ap (λ (l : List Address). address_at a b c d ∷ l) (address-set s q n kind high low four))

-- the row without its first number
pub drop-set : (q : List ℕ) (n x : ℕ) → drop 1 (set q (n + 1) x) ≡ set (drop 1 q) n x
drop-set q n x = let e : n + 1 ≡ 1 + n = omega arith in rw e (drop-set-add 1 q n x)
