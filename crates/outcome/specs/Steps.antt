-- How far a text is read, and the record so far.
-- Assumes nothing.
use Rattle.std.specs.Prelude.{ℕ}
use Rattle.url_parser.specs.declared.Stage.{Stage}
use Rattle.url_parser.specs.declared.Url.{Url}
use Rattle.url_parser.specs.Step.{url}
use Rattle.config.specs.declared.Config.{Config}
use Rattle.config.specs.Config.{defaults}

-- the record so far, how many bytes of the buffer are packed, and how far the text is read
pub record State : Type 0 where
  pub config : Config
  pub packed : ℕ
  pub url : Url

-- the state before the first setting: the default record, nothing packed, the text read up to a place
abbrev pub first_state : ℕ → State
first_state at = record { config = defaults; packed = 0; url = url Stage.Credentials at }
