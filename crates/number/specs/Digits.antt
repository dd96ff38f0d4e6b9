-- Digits in a base, and the number that they stand for: crate digits has the definitions.
-- Assumes nothing.
unfoldable pub use Rattle.digits.specs.Digits.{all_digits, value_from, value_in}
