-- What was read as an address has 32 bits, or twice 64.
-- Assumes nothing.
use Prim.Native.Nat.{ℕ, zero, suc, ◌+◌, ◌-◌, ◌/◌, ◌%◌, ◌^◌, ◌<◌, ◌≤◌}
use Rattle.std.specs.Prelude.{Some}
use mathlib.Core.Path.{◌≡◌}
use mathlib.Core.Bool.{Bool}
use mathlib.Core.List.{List, [], ◌∷◌, ◌++◌}
use native.Mathlib.Omega.{arith}
use lib.ListN.{length, get_or, replicate}
use Rattle.digits.proofs.Digits.{value-below}
use Rattle.ipv4.proofs.Form.{v4-below}
use Rattle.group_text.specs.Form.{GroupText, GroupTexts, SideText}
use Rattle.group_text.proofs.Form.{four-digits}
use Rattle.address.specs.declared.Address.{Address}
use Rattle.address.specs.Address.{quad, address_of}
use Rattle.address.specs.Form.{V6Text, AddressText, Within}
use Rattle.address.proofs.Form.{address-sound}

-- groups of 16 bits, and 0 behind them
abbrev Small : List ℕ → Type 0
Small gs = (i : ℕ) → get_or gs i 0 ≤ 65535

small-cons : (n : ℕ) (gs : List ℕ) → n ≤ 65535 → Small gs → Small (n ∷ gs)
small-cons n gs h k zero = h
small-cons n gs h k (suc i) = k i

small-nil : Small []
small-nil i = omega arith

small-append : (a b : List ℕ) → Small a → Small b → Small (a ++ b)
small-append [] b h k = k
small-append (x ∷ a) b h k = small-cons x (a ++ b) (h 0) (small-append a b (λ i. h (suc i)) k)

small-zeros : (n : ℕ) → Small (replicate n 0)
small-zeros zero = small-nil
small-zeros (suc n) = small-cons 0 (replicate n 0) (omega arith) (small-zeros n)

group-small : {p : List ℕ} {n : ℕ} → GroupText p n → n ≤ 65535
group-small {p} {n} k = rw k.means (four-digits (length p) _ k.short (value-below 16 p k.digits))

groups-small : {tail : Bool} {ps : List (List ℕ)} {gs : List ℕ} → GroupTexts tail ps gs → Small gs
groups-small (GroupTexts.one {p} {n} k) = small-cons n [] (group-small k) small-nil
groups-small (GroupTexts.four {p} {v} e k) =
    let h : v < 2 ^ 32 = v4-below p v k in
    small-cons (v / 2 ^ 16) (v % 2 ^ 16 ∷ []) (omega arith) (small-cons (v % 2 ^ 16) [] (omega arith) small-nil)
groups-small (GroupTexts.more {p} {q} {ps} {n} {gs} k r) = small-cons n gs (group-small k) (groups-small r)

side-small : {tail : Bool} {s gs : List ℕ} → SideText tail s gs → Small gs
side-small (SideText.nothing e f) = rw f small-nil
side-small (SideText.pieces ps k e) = groups-small k

v6-small : {s gs : List ℕ} → V6Text s gs → Small gs
v6-small (V6Text.whole ps k n e) = groups-small k
v6-small (V6Text.around l r gl gr a b h e f) =
    rw f (small-append (gl ++ replicate (8 - (length gl + length gr)) 0) gr (small-append gl (replicate (8 - (length gl + length gr)) 0) (side-small a) (small-zeros (8 - (length gl + length gr)))) (side-small b))

quad-below : (gs : List ℕ) (k : ℕ) → Small gs → quad gs k < 2 ^ 64
unfolding quad
quad-below gs k h = omega (arith, h k, h (k + 1), h (k + 2), h (k + 3))

text-within : (s : List ℕ) (x : Address) → AddressText s x → Within x.kind
text-within s x (AddressText.four-parts v k e) = rw e (v4-below s v k)
text-within s x (AddressText.eight-groups gs k e) = rw e (quad-below gs 0 (v6-small k), quad-below gs 4 (v6-small k))

pub address-within : (s : List ℕ) (x : Address) → address_of s ≡ Some x → Within x.kind
address-within s x e = text-within s x (address-sound s x e)
