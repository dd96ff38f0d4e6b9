-- The bytes behind a character's first, as RFC 3629 section 4 has them.
-- Assumes nothing.
use Rattle.std.specs.Prelude.{ℕ, Bool, eqb}
use Rattle.byte.specs.Byte.{pick, between}

-- UTF8-tail = %x80-BF
abbrev pub tail : ℕ → Bool
tail b = between 0x80 0xbf b

-- the second byte is a UTF8-tail too, but for %xE0 %xA0-BF and %xF0 %x90-BF, which rule the overlong forms out,
unfoldable pub least : ℕ → ℕ
least a = pick (eqb a 0xe0) 0xa0 (pick (eqb a 0xf0) 0x90 0x80)

-- and %xED %x80-9F and %xF4 %x80-8F, which rule out the surrogates and what lies above 10FFFF
unfoldable pub greatest : ℕ → ℕ
greatest a = pick (eqb a 0xed) 0x9f (pick (eqb a 0xf4) 0x8f 0xbf)

-- the second byte b may follow the first byte a
abbrev pub second : ℕ → ℕ → Bool
second a b = between (least a) (greatest a) b
