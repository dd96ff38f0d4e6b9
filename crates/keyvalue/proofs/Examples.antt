-- What key-value texts read as: document 01's texts at the edges, its slips and its silent cases, as one table under one statement.
-- Assumes nothing.
use mathlib.Core.Path.{◌≡◌, refl}
use mathlib.Core.List.{List, [], ◌∷◌, ◌++◌, map}
use Prim.Native.Nat.{ℕ}
use Rattle.byte.specs.Ascii.{bytes}
use Rattle.byte.specs.Byte.{between}
use Rattle.byte.specs.Same.{same}
use Rattle.names.specs.Find.{key_number, number_in, among}
use Rattle.setting.specs.Setting.{Setting, keyed, Reading}
use Rattle.utf8.specs.Utf8.{char_at, char_of, longer, two, three, four, least, greatest}
use Rattle.space.specs.Space.{is_space, within, spaces}
use Rattle.keyvalue.specs.Scan.{run_from, starts_space, space_len, ends_key, key_len, piece_len, starts_quote}
use Rattle.keyvalue.specs.KeyValue.{unescaped_from, quoted_at, simple_at, value_at, sign_at, key_at, parameter_at, reads, key_value_from, key_value}

-- a text, the settings that it reads as, and the end
pub record Example : Type 0 where
  pub text : List ℕ
  pub settings : List Setting
  pub end : ℕ

abbrev pub row : List ℕ → List Setting → ℕ → Example
row t s n = record { text = t; settings = s; end = n }

abbrev pub said : Example → Reading
said e = record { settings = e.settings; end = e.end }

abbrev pub user : List ℕ → Setting
user v = keyed (bytes "user") v

abbrev pub dbname : List ℕ → Setting
dbname v = keyed (bytes "dbname") v

abbrev pub edges : List Example
edges =
    row [] [] 0 ∷
    row (bytes "  ") [] 0 ∷
    row (bytes "=x") [] 0 ∷
    row (bytes "user= dbname=x") (user (bytes "dbname=x") ∷ []) 0 ∷
    row (bytes "user=''") (user [] ∷ []) 0 ∷
    row (bytes "user=\\") [] 8 ∷
    row (bytes "user='a\\") [] 9 ∷
    row (bytes "user='a\\'") [] 9 ∷
    row (bytes "user='a'dbname=b") (user (bytes "a") ∷ dbname (bytes "b") ∷ []) 0 ∷
    row (bytes "foo") [] 7 ∷
    row (bytes "foo ") [] 7 ∷
    row (bytes "foo=") [] 8 ∷
    row (bytes "foo= ") [] 8 ∷
    row (bytes "foo 'a'") [] 6 ∷
    row (bytes "foo=''") (keyed (bytes "foo") [] ∷ []) 0 ∷
    row (bytes "user='a''b'") (user (bytes "a") ∷ []) 7 ∷
    row (bytes "user='a'=c") (user (bytes "a") ∷ []) 0 ∷
    row (bytes "user=a\\ b") (user (bytes "a b") ∷ []) 0 ∷
    row (bytes "user=a\\") (user (bytes "a") ∷ []) 0 ∷
    row (bytes "user=a'b'") (user (bytes "a'b'") ∷ []) 0 ∷
    row (bytes "user = 'it\\'s'") (user (bytes "it's") ∷ []) 0 ∷
    row (bytes "user=\\\\ dbname='\\\\'") (user (bytes "\\") ∷ dbname (bytes "\\") ∷ []) 0 ∷
    row (bytes "a'\\b=c") (keyed (bytes "a'\\b") (bytes "c") ∷ []) 0 ∷
    []

-- U+2003 and U+0085 part as a blank does; U+200B does not, so that it belongs to a value or to a key; behind a backslash U+3000 is taken whole
abbrev pub spaced : List Example
spaced =
    row (bytes "user" ++ 0xe2 ∷ 0x80 ∷ 0x83 ∷ bytes "=" ++ 0xc2 ∷ 0x85 ∷ bytes "a" ++ 0xe2 ∷ 0x80 ∷ 0x83 ∷ bytes "dbname=b") (user (bytes "a") ∷ dbname (bytes "b") ∷ []) 0 ∷
    row (bytes "user=a" ++ 0xe2 ∷ 0x80 ∷ 0x8b ∷ bytes "b") (user (bytes "a" ++ 0xe2 ∷ 0x80 ∷ 0x8b ∷ bytes "b") ∷ []) 0 ∷
    row (0xe2 ∷ 0x80 ∷ 0x8b ∷ bytes "=b") (keyed (0xe2 ∷ 0x80 ∷ 0x8b ∷ []) (bytes "b") ∷ []) 0 ∷
    row (bytes "user=a\\" ++ 0xe3 ∷ 0x80 ∷ 0x80 ∷ bytes "b") (user (bytes "a" ++ 0xe3 ∷ 0x80 ∷ 0x80 ∷ bytes "b") ∷ []) 0 ∷
    row (bytes "user='" ++ 0xc3 ∷ 0xa9 ∷ bytes "\\" ++ 0xc3 ∷ 0xa9 ∷ bytes "'") (user (0xc3 ∷ 0xa9 ∷ 0xc3 ∷ 0xa9 ∷ []) ∷ []) 0 ∷
    []

abbrev pub table : List Example
table = edges ++ spaced

pub read-so : map (λ (e : Example). key_value e.text) table ≡ map said table
unfolding
    key_value key_value_from reads parameter_at key_at sign_at value_at simple_at quoted_at unescaped_from
    run_from starts_space space_len ends_key key_len piece_len starts_quote
    is_space within spaces between char_at char_of longer two three four least greatest key_number number_in among same
read-so = refl
