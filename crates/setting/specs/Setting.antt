-- "A text reads as a list of settings and then an end, which is clean or a refusal."
-- Assumes nothing.
use Rattle.std.specs.Prelude.{ℕ, List, [], ◌∷◌}
use Rattle.names.specs.Find.{key_number}

-- "A setting is a key with its decoded value; one host from a URI is a kind apart from key host."
pub data Setting : Type 0 where
  keyed : (key value : List ℕ) → Setting
  one_host : (value : List ℕ) → Setting

-- a setting's kind as a number: its key's, 1 to 19, or 0 where the key is unknown; 20 is one host from a URI
unfoldable pub kind_of : Setting → ℕ
kind_of (keyed k v) = key_number k
kind_of (one_host v) = 20

unfoldable pub value_of : Setting → List ℕ
value_of (keyed k v) = v
value_of (one_host v) = v

-- the settings in order, and the end: 0 is clean, any other number is the refusal's
pub record Reading : Type 0 where
  pub settings : List Setting
  pub end : ℕ

-- a reading that ends at once, and one with a setting in front
abbrev pub ends : ℕ → Reading
ends n = record { settings = []; end = n }

abbrev pub follows : Setting → Reading → Reading
follows s r = record { settings = s ∷ r.settings; end = r.end }
