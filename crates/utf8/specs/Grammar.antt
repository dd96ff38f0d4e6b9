-- The grammar of RFC 3629 section 4, rule by rule and alternative by alternative. No other definition here stands on it.
-- Assumes nothing.
use Rattle.std.specs.Prelude.{ℕ, ◌≤◌, List, [], ◌∷◌, ◌++◌}

-- %xLO-HI
pub record Range (lo hi b : ℕ) : Type 0 where
  pub low : lo ≤ b
  pub high : b ≤ hi

-- UTF8-tail = %x80-BF
abbrev pub UTF8-tail : ℕ → Type 0
UTF8-tail b = Range 0x80 0xbf b

-- UTF8-1 = %x00-7F
pub data UTF8-1 : List ℕ → Type 0 where
  ascii : {a : ℕ} → Range 0 0x7f a → UTF8-1 (a ∷ [])

-- UTF8-2 = %xC2-DF UTF8-tail
pub data UTF8-2 : List ℕ → Type 0 where
  from-c2 : {a b : ℕ} → Range 0xc2 0xdf a → UTF8-tail b → UTF8-2 (a ∷ b ∷ [])

-- UTF8-3 = %xE0 %xA0-BF UTF8-tail / %xE1-EC 2( UTF8-tail ) / %xED %x80-9F UTF8-tail / %xEE-EF 2( UTF8-tail )
pub data UTF8-3 : List ℕ → Type 0 where
  at-e0 : {b c : ℕ} → Range 0xa0 0xbf b → UTF8-tail c → UTF8-3 (0xe0 ∷ b ∷ c ∷ [])
  from-e1 : {a b c : ℕ} → Range 0xe1 0xec a → UTF8-tail b → UTF8-tail c → UTF8-3 (a ∷ b ∷ c ∷ [])
  at-ed : {b c : ℕ} → Range 0x80 0x9f b → UTF8-tail c → UTF8-3 (0xed ∷ b ∷ c ∷ [])
  from-ee : {a b c : ℕ} → Range 0xee 0xef a → UTF8-tail b → UTF8-tail c → UTF8-3 (a ∷ b ∷ c ∷ [])

-- UTF8-4 = %xF0 %x90-BF 2( UTF8-tail ) / %xF1-F3 3( UTF8-tail ) / %xF4 %x80-8F 2( UTF8-tail )
pub data UTF8-4 : List ℕ → Type 0 where
  at-f0 : {b c d : ℕ} → Range 0x90 0xbf b → UTF8-tail c → UTF8-tail d → UTF8-4 (0xf0 ∷ b ∷ c ∷ d ∷ [])
  from-f1 : {a b c d : ℕ} → Range 0xf1 0xf3 a → UTF8-tail b → UTF8-tail c → UTF8-tail d → UTF8-4 (a ∷ b ∷ c ∷ d ∷ [])
  at-f4 : {b c d : ℕ} → Range 0x80 0x8f b → UTF8-tail c → UTF8-tail d → UTF8-4 (0xf4 ∷ b ∷ c ∷ d ∷ [])

-- UTF8-char = UTF8-1 / UTF8-2 / UTF8-3 / UTF8-4
pub data UTF8-char : List ℕ → Type 0 where
  one : {x : List ℕ} → UTF8-1 x → UTF8-char x
  two : {x : List ℕ} → UTF8-2 x → UTF8-char x
  three : {x : List ℕ} → UTF8-3 x → UTF8-char x
  four : {x : List ℕ} → UTF8-4 x → UTF8-char x

-- UTF8-octets = *( UTF8-char )
pub data UTF8-octets : List ℕ → Type 0 where
  done : UTF8-octets []
  more : {x s : List ℕ} → UTF8-char x → UTF8-octets s → UTF8-octets (x ++ s)
