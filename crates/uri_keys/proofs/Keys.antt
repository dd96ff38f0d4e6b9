-- Laws of keys: what a key's number says of its bytes, and why twenty bytes are enough to look one up.
-- Assumes nothing.
use Prim.Native.Nat.{ℕ, ◌+◌, ◌≤◌, ◌<◌, ◌-◌}
use mathlib.Core.Path.{◌≡◌, refl, ap, sym, subst, ◌∙◌}
use mathlib.Core.Bool.{Bool, true, false}
use mathlib.Core.List.{List, []}
use native.Mathlib.Omega.{arith}
use lib.Dec.{eqb, leb}
use lib.ListN.{length, take, get_or, replicate}
use borrow.Author.Tests.{leb-true, leb-false, eqb-true, eqb-false}
use Rattle.byte.specs.Ascii.{bytes}
use Rattle.byte.specs.Byte.{pick, part_of, between}
use Rattle.byte.specs.Same.{same}
use Rattle.byte.specs.Put.{after, written}
use Rattle.byte.proofs.Table.{holds_at}
use Rattle.byte.proofs.Same.{same_true, same_refl}
use Rattle.byte.proofs.Parts.{part-is, part-empty}
use Rattle.byte.proofs.Writing.{written-room, after-room, after-short, part-put}
use Rattle.names.specs.Names.{key_names}
use Rattle.names.specs.Find.{key_number, number_in, among}
use Rattle.name_table.proofs.Among.{Found, number-found}
use Rattle.name_table.proofs.Examples.{no-empty}
use Rattle.utf8.specs.Utf8.{well_formed, well_from, char_at, char_of, longer, two, three, four, least, greatest}
use Rattle.percent.specs.Percent.{piece_of, piece_at, decoded_from, decoded}
use Rattle.setting.specs.Setting.{Setting, keyed, one_host, kind_of}
use Rattle.uri_keys.specs.Kind.{param_kind, key_kind}

-- a key that has a number is the one that the number says
pub key-found : (k : List ℕ) → (key_number k ≡ 0 → ⊥) → Found 1 key_names k (key_number k)
unfolding key_number
key-found k h = number-found key_names k h

short-key : ℕ → Bool
short-key i = leb (length (get_or key_names i [])) 20

plain-key : ℕ → Bool
plain-key i = well_formed (get_or key_names i [])

module _ (k : List ℕ) (h : key_number k ≡ 0 → ⊥) where
  pub known-short : length k ≤ 20
  unfolding short-key
  known-short =
      let f = key-found k h in
      let l : key_number k - 1 < 19 = omega (arith, f.within, f.from) in
      let b : length (get_or key_names (key_number k - 1) []) ≤ 20 = leb-true _ _ (holds_at 19 short-key refl (key_number k - 1) l) in
      subst (λ (w : List ℕ). length w ≤ 20) f.is b

  pub known-utf8 : well_formed k ≡ true
  unfolding plain-key well_from char_at char_of longer two three four least greatest between
  known-utf8 =
      let f = key-found k h in
      let l : key_number k - 1 < 19 = omega (arith, f.within, f.from) in
      subst (λ (w : List ℕ). well_formed w ≡ true) f.is (holds_at 19 plain-key refl (key_number k - 1) l)

-- and has no `%` in it, so that it is decoded already
decoded-key : ℕ → Bool
decoded-key i = same (decoded (get_or key_names i [])) (get_or key_names i [])

pub known-decoded : (k : List ℕ) → (key_number k ≡ 0 → ⊥) → decoded k ≡ k
unfolding decoded-key decoded decoded_from piece_at piece_of same
known-decoded k h =
    let f = key-found k h in
    let l : key_number k - 1 < 19 = omega (arith, f.within, f.from) in
    subst (λ (w : List ℕ). decoded w ≡ w) f.is (same_true _ _ (holds_at 19 decoded-key refl (key_number k - 1) l))

-- the keys that the reading itself gives
pub user-one : key_number (bytes "user") ≡ 1
unfolding key_number number_in among same
user-one = refl

pub password-two : key_number (bytes "password") ≡ 2
unfolding key_number number_in among same
password-two = refl

pub dbname-three : key_number (bytes "dbname") ≡ 3
unfolding key_number number_in among same
dbname-three = refl

pub port-ten : key_number (bytes "port") ≡ 10
unfolding key_number number_in among same
port-ten = refl

-- key host is number 8, and no other is
host-eight : key_number (bytes "host") ≡ 8
unfolding key_number number_in among same
host-eight = refl

pub eight-host : (k : List ℕ) → key_number k ≡ 8 → k ≡ bytes "host"
eight-host k e =
    let f = key-found k (λ z. absurd (omega arith)) in
    sym f.is ∙ ap (λ (n : ℕ). get_or key_names (n - 1) []) e

module _ (k : List ℕ) where
  pub kind-host : key_number k ≡ 8 → param_kind k ≡ 20
  unfolding param_kind
  kind-host e = rw (eight-host k e, same_refl (bytes "host"))

  pub kind-other : (key_number k ≡ 8 → ⊥) → param_kind k ≡ key_number k
  unfolding param_kind
  kind-other h = by (same k (bytes "host")) refl
    where
      by : (t : Bool) → same k (bytes "host") ≡ t → pick t 20 (key_number k) ≡ key_number k
      by true e = absurd (h (ap key_number (same_true k (bytes "host") e) ∙ host-eight))
      by false e = refl

  -- the kind of a key that is UTF-8, of one that is not, and of one that is known
  pub kind-utf8 : well_formed k ≡ true → key_kind k ≡ param_kind k
  unfolding key_kind
  kind-utf8 e = rw e

  pub kind-broken : well_formed k ≡ false → key_kind k ≡ 21
  unfolding key_kind
  kind-broken e = rw e

  pub kind-known : (param_kind k ≡ 0 → ⊥) → key_kind k ≡ param_kind k
  kind-known h = by (eqb (key_number k) 0) refl
    where
      by : (t : Bool) → eqb (key_number k) 0 ≡ t → key_kind k ≡ param_kind k
      by true e =
          let z : key_number k ≡ 0 = eqb-true (key_number k) 0 e in
          absurd (h (kind-other (λ y. absurd (omega arith)) ∙ z))
      by false e = kind-utf8 (known-utf8 k (eqb-false (key_number k) 0 e))

  pub key-long : 20 < length k → key_number k ≡ 0
  key-long l = by (eqb (key_number k) 0) refl
    where
      by : (t : Bool) → eqb (key_number k) 0 ≡ t → key_number k ≡ 0
      by true e = eqb-true (key_number k) 0 e
      by false e = absurd (omega (arith, known-short k (eqb-false (key_number k) 0 e)))

  -- the kind of a key that is known as it stands
  pub raw-host : key_number k ≡ 8 → param_kind (decoded k) ≡ 20
  raw-host e = ap param_kind (known-decoded k (λ (z : key_number k ≡ 0). absurd (omega arith))) ∙ kind-host e

  pub raw-other : (key_number k ≡ 8 → ⊥) → (key_number k ≡ 0 → ⊥) → param_kind (decoded k) ≡ key_number k
  raw-other h z = ap param_kind (known-decoded k z) ∙ kind-other h

  -- a key looked up from twenty bytes: it was written there, or it is too long to be known
  module _ (name : List ℕ) (w : name ≡ written (replicate 20 0) 0 k) (n : ℕ) (a : n ≡ after (replicate 20 0) 0 k) where
    looked : (t : Bool) → leb (length k) 20 ≡ t → key_number (part_of 0 n name) ≡ key_number k
    looked true e =
        let room : 0 + length k ≤ 20 = omega (arith, leb-true (length k) 20 e) in
        let m : n - 0 ≡ length k = omega (arith, after-room (replicate 20 0) 0 k room) in
        ap key_number (part-is 0 n name ∙ ap (λ (i : ℕ). take i name) m ∙ ap (take (length k)) (w ∙ written-room (replicate 20 0) 0 k room) ∙ part-put (replicate 20 0) 0 k room)
    looked false e =
        let l : 20 < length k = leb-false (length k) 20 e in
        let z : n ≤ 0 = omega (arith, after-short (replicate 20 0) 0 k (omega arith)) in
        ap key_number (part-empty 0 n name z) ∙ no-empty ∙ sym (key-long l)

    pub looked-up : key_number (part_of 0 n name) ≡ key_number k
    looked-up = looked (leb (length k) 20) refl

-- a kind is a key's number, or 20
pub key-most : (k : List ℕ) → key_number k ≤ 19
key-most k = by (eqb (key_number k) 0) refl
  where
    by : (t : Bool) → eqb (key_number k) 0 ≡ t → key_number k ≤ 19
    by true e = omega (arith, eqb-true (key_number k) 0 e)
    by false e = let f = key-found k (eqb-false (key_number k) 0 e) in omega (arith, f.within)

pub kind-most : (k : List ℕ) → param_kind k ≤ 20
unfolding param_kind
kind-most k = by (same k (bytes "host"))
  where
    by : (t : Bool) → pick t 20 (key_number k) ≤ 20
    by true = omega arith
    by false = omega (arith, key-most k)

-- and so is every setting's
pub setting-most : (σ : Setting) → kind_of σ ≤ 20
unfolding kind_of
setting-most (keyed k v) = omega (arith, key-most k)
setting-most (one_host v) = omega arith
