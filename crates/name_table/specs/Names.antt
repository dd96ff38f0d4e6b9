-- The fixed byte strings: the nineteen keys, the words of five of them, and the two prefixes of a URI.
-- Assumes nothing.
use Rattle.std.specs.Prelude.{ℕ, List, [], ◌∷◌, ◌++◌, get_or}
use Rattle.byte.specs.Ascii.{bytes}

-- "Keys, numbered 1 to 19": in this order, exact bytes, case counts
abbrev pub key_names : List (List ℕ)
key_names =
    bytes "user" ∷
    bytes "password" ∷
    bytes "dbname" ∷
    bytes "options" ∷
    bytes "application_name" ∷
    bytes "sslmode" ∷
    bytes "sslnegotiation" ∷
    bytes "host" ∷
    bytes "hostaddr" ∷
    bytes "port" ∷
    bytes "connect_timeout" ∷
    bytes "tcp_user_timeout" ∷
    bytes "keepalives" ∷
    bytes "keepalives_idle" ∷
    bytes "keepalives_interval" ∷
    bytes "keepalives_retries" ∷
    bytes "target_session_attrs" ∷
    bytes "channel_binding" ∷
    bytes "load_balance_hosts" ∷
    []

-- sslmode (disable, prefer, require)
abbrev pub ssl_mode_words : List (List ℕ)
ssl_mode_words =
    bytes "disable" ∷
    bytes "prefer" ∷
    bytes "require" ∷
    []

-- sslnegotiation (postgres, direct)
abbrev pub ssl_negotiation_words : List (List ℕ)
ssl_negotiation_words =
    bytes "postgres" ∷
    bytes "direct" ∷
    []

-- target_session_attrs (any, read-write, read-only)
abbrev pub target_session_attrs_words : List (List ℕ)
target_session_attrs_words =
    bytes "any" ∷
    bytes "read-write" ∷
    bytes "read-only" ∷
    []

-- channel_binding (disable, prefer, require)
abbrev pub channel_binding_words : List (List ℕ)
channel_binding_words =
    bytes "disable" ∷
    bytes "prefer" ∷
    bytes "require" ∷
    []

-- load_balance_hosts (disable, random)
abbrev pub load_balance_hosts_words : List (List ℕ)
load_balance_hosts_words =
    bytes "disable" ∷
    bytes "random" ∷
    []

-- "Used unless the text starts with `postgres://` or `postgresql://`"
abbrev pub prefixes : List (List ℕ)
prefixes =
    bytes "postgres://" ∷
    bytes "postgresql://" ∷
    []

-- the words of a key, by its number; a key that takes no word has none
abbrev pub word_lists : List (List (List ℕ))
word_lists =
    [] ∷ [] ∷ [] ∷ [] ∷ [] ∷ [] ∷
    ssl_mode_words ∷
    ssl_negotiation_words ∷
    [] ∷ [] ∷ [] ∷ [] ∷ [] ∷ [] ∷ [] ∷ [] ∷ [] ∷
    target_session_attrs_words ∷
    channel_binding_words ∷
    load_balance_hosts_words ∷
    []

unfoldable pub words_of : ℕ → List (List ℕ)
words_of k = get_or word_lists k []

-- the table: nothing at 0, so that key k stands at k; then the words, key by key; then the prefixes
unfoldable pub fixed : List (List ℕ)
fixed =
    ([] ∷ key_names) ++ ssl_mode_words ++ ssl_negotiation_words ++ target_session_attrs_words ++ channel_binding_words ++ load_balance_hosts_words ++ prefixes

-- the name of key k, and word w of key k, counted from 1; nothing where there is none
unfoldable pub key_name : ℕ → List ℕ
key_name k = get_or ([] ∷ key_names) k []

unfoldable pub word_name : ℕ → ℕ → List ℕ
word_name k w = get_or ([] ∷ words_of k) w []
