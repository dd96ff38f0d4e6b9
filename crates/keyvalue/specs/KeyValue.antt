-- The key-value reading of document 01, section "A reading".
-- Assumes nothing.
use Rattle.std.specs.Prelude.{ℕ, zero, suc, ◌+◌, ◌-◌, List, [], ◌∷◌, leb, eqb, length, get_or, Option, Some, None, Result, Ok, Err}
use Rattle.byte.specs.Byte.{pick}
use Rattle.names.specs.Find.{key_number}
use Rattle.setting.specs.Setting.{keyed, Reading, ends, follows}
use Rattle.keyvalue.specs.declared.Key.{Key}
use Rattle.keyvalue.specs.declared.Raw.{Raw}
use Rattle.keyvalue.specs.declared.Pair.{Pair}
use Rattle.setting.specs.declared.Refusal.{Refusal}
use Rattle.setting.specs.declared.Refusal.TheVariants.{NoSign, KeyAlone, EmptyValue, OpenQuote}
use Rattle.setting.specs.Refusal.{refusal_number}
unfoldable pub use Rattle.backslash.specs.Backslash.{unescaped_from}
pub use Rattle.backslash.specs.Backslash.{unescaped}
use Rattle.keyvalue.specs.Scan.{end_of, part, space_len, key_len, quoted_len, simple_len}

-- what stands at a place: a parameter, the clean end, or a refusal
abbrev pub Step : Type 0
Step = Result Pair (Option Refusal)

abbrev pub clean : Step
clean = Err None

abbrev pub broken : Refusal → Step
broken r = Err (Some r)

abbrev pub pair : Key → Raw → ℕ → Step
pair key value next = Ok (record { key = key; value = value; next = next })

-- where a key stands, and its number
abbrev pub key_of : List ℕ → ℕ → ℕ → Key
key_of s from to = record { number = key_number (part s from to); from = from; to = to }

-- where a value stands as it is written, by a rule that tells how far it goes, and how long it is once decoded
abbrev pub raw_at : (List ℕ → ℕ) → List ℕ → ℕ → Raw
raw_at rule s at = record { from = at; to = end_of rule s at; len = length (unescaped (part s at (end_of rule s at))) }

-- 9: "quoted value without its closing quote"; "Nothing need separate a closing quote from the next key."
unfoldable pub quoted_at : List ℕ → Key → ℕ → Step
quoted_at s key at = let v = raw_at quoted_len s at in pick (leb (length s) v.to) (broken OpenQuote) (pair key v (v.to + 1))

-- 8: "An unquoted value may not be empty after this; `''` may."
unfoldable pub simple_at : List ℕ → Key → ℕ → Step
simple_at s key at = let v = raw_at simple_len s at in pick (eqb v.len 0) (broken EmptyValue) (pair key v v.to)

unfoldable pub value_at : List ℕ → Key → ℕ → Step
value_at s key at = pick (eqb (get_or s at 0) 39) (quoted_at s key (at + 1)) (simple_at s key at)

-- "Then white space, `=`, white space, value": 7 where the text ends in place of `=`, 6 where another character stands there
unfoldable pub sign_at : List ℕ → Key → ℕ → Step
sign_at s key at =
    pick (leb (length s) at) (broken KeyAlone)
    (pick (eqb (get_or s at 0) 61) (value_at s key (end_of space_len s (at + 1))) (broken NoSign))

-- "An empty key ends the reading cleanly, even with text left over."
unfoldable pub key_at : List ℕ → ℕ → Step
key_at s from = let to = end_of key_len s from in pick (eqb to from) clean (sign_at s (key_of s from to) (end_of space_len s to))

-- "Skip white space; a key runs to white space or `=`": what stands at a place of a text, one parameter or the end
unfoldable pub parameter_at : List ℕ → ℕ → Step
parameter_at s at = key_at s (end_of space_len s at)

-- a step as the start of a reading, which goes on at the next place
unfoldable pub reads : List ℕ → Step → (ℕ → Reading) → Reading
reads s (Err None) on = ends 0
reads s (Err (Some r)) on = ends (refusal_number r)
reads s (Ok p) on =
    follows (keyed (part s p.key.from p.key.to) (unescaped (part s p.value.from p.value.to))) (on p.next)

-- the reading of what follows the first k bytes
unfoldable pub key_value_from : ℕ → List ℕ → Reading
key_value_from k [] = ends 0
key_value_from (suc k) (a ∷ s) = key_value_from k s
key_value_from zero (a ∷ s) = reads (a ∷ s) (parameter_at (a ∷ s) 0) (λ next. key_value_from (next - 1) s)

unfoldable pub key_value : List ℕ → Reading
key_value s = key_value_from 0 s
