-- The code points that UTF-8 writes, and how: the table of RFC 3629 section 3. No promise stands on it.
-- Assumes nothing.
use Rattle.std.specs.Prelude.{◌≡◌, ℕ, zero, suc, ◌+◌, ◌-◌, ◌/◌, ◌%◌, ◌<◌, ◌≤◌, List, [], ◌∷◌, ◌++◌, leb}
use Rattle.byte.specs.Byte.{pick}
use Rattle.utf8.specs.declared.Char.{Char}
use Rattle.utf8.specs.Utf8.{char_at}

-- U+0000 to U+10FFFF but for the surrogates, U+D800 to U+DFFF
pub record Scalar (code : ℕ) : Type 0 where
  pub most : code ≤ 0x10ffff
  pub no_surrogate : 0xd800 ≤ code → 0xdfff < code

-- 0000 0000-0000 007F | 0xxxxxxx
-- 0000 0080-0000 07FF | 110xxxxx 10xxxxxx
-- 0000 0800-0000 FFFF | 1110xxxx 10xxxxxx 10xxxxxx
-- 0001 0000-0010 FFFF | 11110xxx 10xxxxxx 10xxxxxx 10xxxxxx
unfoldable pub encoded : ℕ → List ℕ
encoded c =
    pick (leb c 0x7f) (c ∷ [])
    (pick (leb c 0x7ff) ((0xc0 + c / 64) ∷ (0x80 + c % 64) ∷ [])
    (pick (leb c 0xffff) ((0xe0 + c / 4096) ∷ (0x80 + c / 64 % 64) ∷ (0x80 + c % 64) ∷ [])
    ((0xf0 + c / 262144) ∷ (0x80 + c / 4096 % 64) ∷ (0x80 + c / 64 % 64) ∷ (0x80 + c % 64) ∷ [])))

-- a text that is written from code points
unfoldable pub encoded_all : List ℕ → List ℕ
encoded_all [] = []
encoded_all (c ∷ cs) = encoded c ++ encoded_all cs

pub data Scalars : List ℕ → Type 0 where
  none : Scalars []
  more : {c : ℕ} {cs : List ℕ} → Scalar c → Scalars cs → Scalars (c ∷ cs)

-- the code points of a well formed text, behind its first k bytes
unfoldable pub codes_from : ℕ → List ℕ → List ℕ
codes_from k [] = []
codes_from (suc k) (a ∷ s) = codes_from k s
codes_from zero (a ∷ s) = (char_at (a ∷ s)).code ∷ codes_from ((char_at (a ∷ s)).len - 1) s

abbrev pub codes : List ℕ → List ℕ
codes s = codes_from 0 s

-- a code point in as few bytes as that table has for it, so none is overlong
pub record Shortest (x : Char) : Type 0 where
  pub scalar : Scalar x.code
  pub one : x.len ≡ 1 → x.code ≤ 0x7f
  pub two : x.len ≡ 2 → (0x80 ≤ x.code) × (x.code ≤ 0x7ff)
  pub three : x.len ≡ 3 → (0x800 ≤ x.code) × (x.code ≤ 0xffff)
  pub four : x.len ≡ 4 → (0x10000 ≤ x.code) × (x.code ≤ 0x10ffff)
  pub no_more : x.len ≤ 4
