-- The fixed byte strings: crate name_table has the definitions.
-- Assumes nothing.
pub use Rattle.name_table.specs.Names.{key_names, ssl_mode_words, ssl_negotiation_words, target_session_attrs_words, channel_binding_words, load_balance_hosts_words, prefixes, word_lists}
unfoldable pub use Rattle.name_table.specs.Names.{words_of, fixed, key_name, word_name}
