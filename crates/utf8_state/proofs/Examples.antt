-- The examples of RFC 3629 section 7, and the edges of what is refused, as one table under one statement.
-- Assumes nothing.
use mathlib.Core.Path.{◌≡◌, refl}
use mathlib.Core.Bool.{Bool, true, not, ◌&&◌}
use mathlib.Core.List.{List, [], ◌∷◌}
use Prim.Native.Nat.{ℕ}
use Rattle.byte.specs.Byte.{between}
use Rattle.byte.specs.Same.{same}
use Rattle.utf8.specs.Utf8.{least, greatest, two, three, four, longer, char_of, char_at, well_from, well_formed}
use Rattle.utf8.specs.Scalar.{encoded, encoded_all, codes, codes_from}
use Rattle.utf8_state.specs.Bytewise.{start_state, first_state, next_state, whole_state, state_after}

-- a text with its code points, or one that is not well formed
pub data Example : Type 0 where
  reads : List ℕ → List ℕ → Example
  refused : List ℕ → Example

unfoldable pub holds : Example → Bool
holds (reads s cs) = well_formed s && whole_state (state_after start_state s) && same (codes s) cs && same (encoded_all cs) s
holds (refused s) = not (well_formed s) && not (whole_state (state_after start_state s))

unfoldable pub all : List Example → Bool
all [] = true
all (e ∷ es) = holds e && all es

abbrev pub table : List Example
table =
    -- section 7: A, U+2262, U+0391 and a full stop
    reads (0x41 ∷ 0xe2 ∷ 0x89 ∷ 0xa2 ∷ 0xce ∷ 0x91 ∷ 0x2e ∷ []) (0x41 ∷ 0x2262 ∷ 0x391 ∷ 0x2e ∷ []) ∷
    -- the Korean word for the Korean language
    reads (0xed ∷ 0x95 ∷ 0x9c ∷ 0xea ∷ 0xb5 ∷ 0xad ∷ 0xec ∷ 0x96 ∷ 0xb4 ∷ []) (0xd55c ∷ 0xad6d ∷ 0xc5b4 ∷ []) ∷
    -- the Japanese word for the Japanese language
    reads (0xe6 ∷ 0x97 ∷ 0xa5 ∷ 0xe6 ∷ 0x9c ∷ 0xac ∷ 0xe8 ∷ 0xaa ∷ 0x9e ∷ []) (0x65e5 ∷ 0x672c ∷ 0x8a9e ∷ []) ∷
    -- a byte order mark and a character of four bytes
    reads (0xef ∷ 0xbb ∷ 0xbf ∷ 0xf0 ∷ 0xa3 ∷ 0x8e ∷ 0xb4 ∷ []) (0xfeff ∷ 0x233b4 ∷ []) ∷
    -- the ends of each length
    reads (0x7f ∷ 0xc2 ∷ 0x80 ∷ 0xdf ∷ 0xbf ∷ []) (0x7f ∷ 0x80 ∷ 0x7ff ∷ []) ∷
    reads (0xe0 ∷ 0xa0 ∷ 0x80 ∷ 0xef ∷ 0xbf ∷ 0xbf ∷ []) (0x800 ∷ 0xffff ∷ []) ∷
    reads (0xf0 ∷ 0x90 ∷ 0x80 ∷ 0x80 ∷ 0xf4 ∷ 0x8f ∷ 0xbf ∷ 0xbf ∷ []) (0x10000 ∷ 0x10ffff ∷ []) ∷
    -- on either side of the surrogates
    reads (0xed ∷ 0x9f ∷ 0xbf ∷ 0xee ∷ 0x80 ∷ 0x80 ∷ []) (0xd7ff ∷ 0xe000 ∷ []) ∷
    -- a surrogate, U+D800
    refused (0xed ∷ 0xa0 ∷ 0x80 ∷ []) ∷
    -- U+233B4 as two surrogates
    refused (0xed ∷ 0xa1 ∷ 0x8c ∷ 0xed ∷ 0xbe ∷ 0xb4 ∷ []) ∷
    -- section 10: an overlong form of U+0000
    refused (0xc0 ∷ 0x80 ∷ []) ∷
    -- section 10: /../ with an overlong full stop
    refused (0x2f ∷ 0xc0 ∷ 0xae ∷ 0x2e ∷ 0x2f ∷ []) ∷
    -- longer overlong forms
    refused (0xe0 ∷ 0x80 ∷ 0xaf ∷ []) ∷
    refused (0xf0 ∷ 0x80 ∷ 0x80 ∷ 0xaf ∷ []) ∷
    -- above 10FFFF
    refused (0xf4 ∷ 0x90 ∷ 0x80 ∷ 0x80 ∷ []) ∷
    -- cut short
    refused (0xe2 ∷ 0x82 ∷ []) ∷
    -- a tail alone
    refused (0x80 ∷ []) ∷
    -- no tail
    refused (0xc3 ∷ 0x28 ∷ []) ∷
    -- no first byte
    refused (0xff ∷ []) ∷
    []

pub right : all table ≡ true
unfolding all holds same codes_from encoded_all encoded well_from char_at char_of longer two three four least greatest between state_after next_state first_state whole_state
right = refl
