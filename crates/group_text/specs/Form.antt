-- What groups of an IPv6 address look like, as relations after RFC 4291, section 2.2: the definitions of `Text` compute them, and proofs/Form.antt says so both ways.
-- Assumes nothing.
use Rattle.std.specs.Prelude.{ℕ, ◌/◌, ◌%◌, ◌^◌, ◌<◌, ◌≤◌, ◌≡◌, Bool, true, List, [], ◌∷◌, length}
use Rattle.number.specs.Digits.{all_digits, value_in}
use Rattle.split.specs.Split.{join}
use Rattle.ipv4.specs.Form.{V4Text}

-- "the 'x's are one to four hexadecimal digits"
pub record GroupText (p : List ℕ) (n : ℕ) : Type 0 where
  pub some : 0 < length p
  pub short : length p ≤ 4
  pub digits : all_digits 16 p ≡ true
  pub means : n ≡ value_in 16 p

-- pieces and the groups that they stand for: each is a group, but the last may be an IPv4 address, for two, where `tail` says so ("x:x:x:x:x:x:d.d.d.d")
pub data GroupTexts (tail : Bool) : List (List ℕ) → List ℕ → Type 0 where
  one : {p : List ℕ} {n : ℕ} → GroupText p n → GroupTexts tail (p ∷ []) (n ∷ [])
  four : {p : List ℕ} {v : ℕ} → tail ≡ true → V4Text p v → GroupTexts tail (p ∷ []) (v / 2 ^ 16 ∷ v % 2 ^ 16 ∷ [])
  more : {p q : List ℕ} {ps : List (List ℕ)} {n : ℕ} {gs : List ℕ} → GroupText p n → GroupTexts tail (q ∷ ps) gs → GroupTexts tail (p ∷ q ∷ ps) (n ∷ gs)

-- one side of a `::`: nothing, or pieces with a `:` (byte 58) between each two
pub data SideText (tail : Bool) (s gs : List ℕ) : Type 0 where
  nothing : s ≡ [] → gs ≡ [] → SideText tail s gs
  pieces : (ps : List (List ℕ)) → GroupTexts tail ps gs → s ≡ join 58 ps → SideText tail s gs
