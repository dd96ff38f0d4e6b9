-- The report's lines, by document 01, and what a value of each kind reads as. A value is a text in parts.
-- Assumes nothing.
use Rattle.std.specs.Prelude.{ℕ, ◌+◌, ◌/◌, ◌%◌, ◌^◌, Bool, false, List, [], ◌∷◌, ◌++◌, map}
use Rattle.byte.specs.Ascii.{bytes}
use Rattle.byte.specs.Byte.{pick}
use Rattle.names.specs.Names.{key_name, word_name}
use Rattle.decimal.specs.Decimal.{decimal, hex_digits}
use Rattle.address.specs.declared.Kind.{Kind}
use Rattle.address.specs.declared.Address.{Address}
use Rattle.draw.specs.Parts.{joined}
use Rattle.escape.specs.Escape.{text_value}

-- "A set password reads `_`."
unfoldable pub secret_value : List (List ℕ)
secret_value = bytes "_" ∷ []

-- a word of a key, by its number
unfoldable pub word_value : ℕ → ℕ → List (List ℕ)
word_value key word = word_name key word ∷ []

-- "Hosts read `tcp:` or `unix:` and the text."
unfoldable pub host_value : Bool → List ℕ → List (List ℕ)
host_value unix x = pick unix (bytes "unix:") (bytes "tcp:") ∷ text_value x

-- "Numbers are plain decimal"
unfoldable pub number_value : ℕ → List (List ℕ)
number_value n = decimal n ∷ []

-- "IPv4 is four decimals with dots"
unfoldable pub four_value : ℕ → List (List ℕ)
four_value n =
    decimal (n / 2 ^ 24) ∷ bytes "." ∷
    decimal (n / 2 ^ 16 % 256) ∷ bytes "." ∷
    decimal (n / 2 ^ 8 % 256) ∷ bytes "." ∷
    decimal (n % 256) ∷ []

-- "IPv6 eight groups of four lower-case hex digits with colons": four of them, of 64 bits
unfoldable pub quad_value : ℕ → List (List ℕ)
quad_value n =
    hex_digits false 4 (n / 2 ^ 48) ∷ bytes ":" ∷
    hex_digits false 4 (n / 2 ^ 32 % 2 ^ 16) ∷ bytes ":" ∷
    hex_digits false 4 (n / 2 ^ 16 % 2 ^ 16) ∷ bytes ":" ∷
    hex_digits false 4 (n % 2 ^ 16) ∷ []

unfoldable pub kind_value : Kind → List (List ℕ)
kind_value (Kind.V4 n) = four_value n
kind_value (Kind.V6 high low) = quad_value high ++ (bytes ":" ∷ quad_value low)

abbrev pub address_value : Address → List (List ℕ)
address_value a = kind_value a.kind

-- "One line `key=value` per setting, each ended by byte 0x0A"
unfoldable pub line : ℕ → List (List ℕ) → List (List ℕ)
line key value = key_name key ∷ bytes "=" ∷ (value ++ (0x0A ∷ []) ∷ [])

-- "A list has a line per entry"; "unset ones have no line"
unfoldable pub lines : ℕ → List (List (List ℕ)) → List (List ℕ)
lines key values = joined (map (line key) values)

-- "in key order": the values of each key, from a key on
unfoldable pub lines_from : ℕ → List (List (List (List ℕ))) → List (List ℕ)
lines_from key [] = []
lines_from key (values ∷ more) = lines key values ++ lines_from (key + 1) more
