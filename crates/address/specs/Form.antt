-- What an IPv6 address looks like, as a relation after RFC 4291, section 2.2: the definition of `Address` computes it, and proofs/Form.antt says so both ways.
-- Assumes nothing.
use Rattle.std.specs.Prelude.{ℕ, ◌+◌, ◌-◌, ◌^◌, ◌<◌, ◌≤◌, ◌≡◌, true, false, List, ◌∷◌, ◌++◌, length, replicate}
use Rattle.split.specs.Split.{join}
use Rattle.ipv4.specs.Form.{V4Text}
use Rattle.group_text.specs.Form.{GroupTexts, SideText}
use Rattle.address.specs.declared.Kind.{Kind}
use Rattle.address.specs.declared.Address.{Address}
use Rattle.address.specs.Address.{quad}

-- s stands for the eight groups gs: all of them written, or a `::` for one or more that are zero
pub data V6Text (s gs : List ℕ) : Type 0 where
  whole : (ps : List (List ℕ)) → GroupTexts true ps gs → length gs ≡ 8 → s ≡ join 58 ps → V6Text s gs
  around : (l r gl gr : List ℕ) → SideText false l gl → SideText true r gr → length gl + length gr ≤ 7
      → s ≡ l ++ 58 ∷ 58 ∷ r → gs ≡ gl ++ replicate (8 - (length gl + length gr)) 0 ++ gr → V6Text s gs

-- an address, of either kind
pub data AddressText (s : List ℕ) (a : Address) : Type 0 where
  four-parts : (v : ℕ) → V4Text s v → a ≡ record { kind = Kind.V4 v } → AddressText s a
  eight-groups : (gs : List ℕ) → V6Text s gs → a ≡ record { kind = Kind.V6 (quad gs 0) (quad gs 4) } → AddressText s a

-- an address's numbers have 32 bits, or 64 each
abbrev pub Within : Kind → Type 0
Within (Kind.V4 v) = v < 2 ^ 32
Within (Kind.V6 high low) = (high < 2 ^ 64) × (low < 2 ^ 64)
