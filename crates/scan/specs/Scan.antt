-- Scans: how far a rule carries from the front of a text, and the rules for white space and keys.
-- They go byte by byte where document 01 goes by characters, which comes to the same for every text of UTF-8: keyvalue/proofs/Characters.antt.
-- Assumes nothing.
use Rattle.std.specs.Prelude.{ℕ, zero, suc, ◌+◌, ◌-◌, Bool, ◌||◌, List, [], ◌∷◌, ltb, leb, eqb, get_or, take, drop}
use Rattle.byte.specs.Byte.{pick, between}
use Rattle.utf8.specs.Utf8.{char_at}
use Rattle.space.specs.Space.{is_space}

-- how many bytes a text goes on behind its first k, where the rule tells how many the unit at the front takes, and 0 where it stops
unfoldable pub run_from : (List ℕ → ℕ) → ℕ → List ℕ → ℕ
run_from rule k [] = 0
run_from rule (suc k) (a ∷ s) = suc (run_from rule k s)
run_from rule zero (a ∷ s) = pick (ltb 0 (rule (a ∷ s))) (suc (run_from rule (rule (a ∷ s) - 1) s)) 0

abbrev pub run : (List ℕ → ℕ) → List ℕ → ℕ
run rule s = run_from rule 0 s

-- the place of a text where the run that begins at a place ends
abbrev pub end_of : (List ℕ → ℕ) → List ℕ → ℕ → ℕ
end_of rule s at = at + run rule (drop at s)

-- the part of a text from one place up to another
abbrev pub part : List ℕ → ℕ → ℕ → List ℕ
part s from to = take (to - from) (drop from s)

-- whether a text begins with white space
unfoldable pub starts_space : List ℕ → Bool
starts_space s = is_space (char_at s).code

-- whether a byte begins no white space, whatever follows it: none up to a blank, and not the first byte of 0085 and 00A0, of 1680, of 2000 to 205F, of 3000
unfoldable pub solid : ℕ → Bool
solid b = between 33 0xc1 b || (between 0xc3 0xe0 b || leb 0xe4 b)

-- "Skip white space": a character of it
unfoldable pub space_len : List ℕ → ℕ
space_len s = pick (starts_space s) (char_at s).len 0

-- "a key runs to white space or `=`"
unfoldable pub ends_key : List ℕ → Bool
ends_key s = starts_space s || eqb (get_or s 0 0) 61

unfoldable pub key_len : List ℕ → ℕ
key_len [] = 0
key_len (a ∷ s) = pick (ends_key (a ∷ s)) 0 1
