-- The rules of a key-value text: those for white space and keys are crate scan's, the pieces of a value crate backslash's.
-- Assumes nothing.
use Rattle.std.specs.Prelude.{ℕ, Bool, List, eqb, get_or}
pub use Rattle.scan.specs.Scan.{run, end_of, part}
unfoldable pub use Rattle.scan.specs.Scan.{run_from, starts_space, solid, space_len, ends_key, key_len}
pub use Rattle.backslash.specs.Backslash.{until}
unfoldable pub use Rattle.backslash.specs.Backslash.{piece_len, gained_at}

-- whether a text begins with `'`
unfoldable pub starts_quote : List ℕ → Bool
starts_quote s = eqb (get_or s 0 0) 39

-- "After `'` the value runs to the next unescaped `'`; otherwise to white space."
abbrev pub quoted_len : List ℕ → ℕ
quoted_len s = until starts_quote s

abbrev pub simple_len : List ℕ → ℕ
simple_len s = until starts_space s
