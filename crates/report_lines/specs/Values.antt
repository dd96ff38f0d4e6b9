-- What each key's lines show, of what a record shows and nothing else.
-- Assumes nothing.
use Rattle.std.specs.Prelude.{ℕ, List, [], ◌∷◌, map}
use Rattle.escape.specs.Escape.{text_value}
use Rattle.line.specs.Line.{secret_value, word_value, number_value, address_value}
use Rattle.field.specs.Field.{mode_number, negotiation_number, target_number, binding_number, balance_number, optional, named_host, switch_value}
use Rattle.config.specs.Values.{Values}

-- the values of each key, in key order
unfoldable pub values : Values → List (List (List (List ℕ)))
values v =
    optional text_value v.user ∷
    optional (λ (x : List ℕ). secret_value) v.password ∷
    optional text_value v.dbname ∷
    optional text_value v.options ∷
    optional text_value v.application_name ∷
    (word_value 6 (mode_number v.ssl_mode) ∷ []) ∷
    (word_value 7 (negotiation_number v.ssl_negotiation) ∷ []) ∷
    map named_host v.host ∷
    map address_value v.hostaddr ∷
    map number_value v.port ∷
    optional number_value v.connect_timeout ∷
    optional number_value v.tcp_user_timeout ∷
    (switch_value v.keepalives ∷ []) ∷
    (number_value v.keepalives_idle ∷ []) ∷
    optional number_value v.keepalives_interval ∷
    optional number_value v.keepalives_retries ∷
    (word_value 17 (target_number v.target_session_attrs) ∷ []) ∷
    (word_value 18 (binding_number v.channel_binding) ∷ []) ∷
    (word_value 19 (balance_number v.load_balance_hosts) ∷ []) ∷
    []
