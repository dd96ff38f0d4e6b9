-- Which of some names a text is: crate name_table has the definitions.
-- Assumes nothing.
unfoldable pub use Rattle.name_table.specs.Find.{among, number_in, key_number, word_number, start_len, prefix_len}
