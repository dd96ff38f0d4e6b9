-- The text of a key, and where it lies in the decode buffer, as one number.
-- Assumes nothing.
use Rattle.std.specs.Prelude.{ℕ, ◌+◌, ◌*◌, ◌^◌, eqb, Option, Some, None}
use Rattle.byte.specs.Byte.{pick}
use Rattle.lists.specs.declared.Place.{Place}
use Rattle.config.specs.declared.Config.{Config}
use Rattle.config.specs.Config.{unset}
use Rattle.config.specs.Sound.{place_in}

-- the text of each key that holds one; no other key is ever set
unfoldable pub text_of : ℕ → Config → Option Place
text_of key c =
    pick (eqb key 1) c.user
    (pick (eqb key 2) c.password
    (pick (eqb key 3) c.dbname
    (pick (eqb key 4) c.options
    (pick (eqb key 5) c.application_name
    unset))))

-- 2^63 marks a refusal, 2^62 a value that is set; then come its start and its length
abbrev pub nowhere : ℕ → ℕ
nowhere number = 2 ^ 63 + number

abbrev pub somewhere : Place → ℕ
somewhere p = 2 ^ 62 + 2 ^ 16 * p.start + p.len

-- 0 is a text that is not set; a place outside the n bytes is refused as the report refuses it
unfoldable pub place_of : ℕ → Option Place → ℕ
place_of n (Some p) = pick (place_in n p) (somewhere p) (nowhere 17)
place_of n None = 0
