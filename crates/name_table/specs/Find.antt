-- Which of some names a text is: its number, counted from 1, or 0 where it is none of them.
-- Assumes nothing.
use Rattle.std.specs.Prelude.{ℕ, ◌+◌, List, [], ◌∷◌, length}
use Rattle.byte.specs.Byte.{pick}
use Rattle.byte.specs.Same.{same, stands_at}
use Rattle.name_table.specs.Names.{key_names, words_of, prefixes}

-- the number of s among names that are counted from k on
unfoldable pub among : ℕ → List (List ℕ) → List ℕ → ℕ
among k [] s = 0
among k (w ∷ ws) s = pick (same s w) k (among (k + 1) ws s)

unfoldable pub number_in : List (List ℕ) → List ℕ → ℕ
number_in ws s = among 1 ws s

-- "Exact bytes, case counts": 1 to 19, and 0 for an unknown key
unfoldable pub key_number : List ℕ → ℕ
key_number s = number_in key_names s

-- the number of a word among those of key k, or 0
unfoldable pub word_number : ℕ → List ℕ → ℕ
word_number k s = number_in (words_of k) s

-- how long the first of some names is that a text starts with, or 0
unfoldable pub start_len : List (List ℕ) → List ℕ → ℕ
start_len [] s = 0
start_len (w ∷ ws) s = pick (stands_at w 0 s) (length w) (start_len ws s)

-- the length of the prefix that makes a text a URI, or 0
unfoldable pub prefix_len : List ℕ → ℕ
prefix_len s = start_len prefixes s
