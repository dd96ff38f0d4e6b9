-- What a text's report comes to in bytes, and what the entries for C hand back then.
-- Assumes nothing.
use Rattle.std.specs.Prelude.{ℕ, ◌+◌, ◌^◌, ◌<◌, ◌≤◌, ◌≡◌, true, List, ◌↔◌, length, Option, Some, None, Ok}
use Rattle.byte.specs.Put.{written}
use Rattle.config.specs.declared.Config.{Config}
use Rattle.config.specs.Values.{HostValue, Values, shown}
use Rattle.config.specs.Sound.{sound}
use Rattle.outcome.specs.Outcome.{reading, answer, left}
use Rattle.lists.specs.declared.Place.{Place}
use Rattle.report.specs.Report.{report}
use Rattle.report.specs.Answer.{reported}
use Rattle.telling.specs.Bound.{text_bytes, host_bytes}
use Rattle.demands.specs.Giving.{joined}
use Rattle.entry.specs.Entry.{entry, entry_left}
use Rattle.places.specs.Places.{text_of, somewhere}
use Rattle.answers.specs.Places.{place}

-- "Kept values are those of user, password, dbname, options, application_name and host": how many bytes they have
abbrev pub together : Option (List ℕ) → Option (List ℕ) → Option (List ℕ) → Option (List ℕ) → Option (List ℕ) → List HostValue → ℕ
together user password dbname options name hosts =
    text_bytes user + text_bytes password + text_bytes dbname + text_bytes options + text_bytes name + host_bytes hosts

unfoldable pub kept_bytes : Values → ℕ
kept_bytes v = together v.user v.password v.dbname v.options v.application_name v.host

-- no report of a text is longer
abbrev pub report_most : ℕ
report_most = 13795

module _ (s d : List ℕ) where
  abbrev pub number : ℕ
  number = (answer s (length d)).number

  -- the record that a text s gives with a decode buffer d, what it shows, and its report
  abbrev pub given : Config
  given = (answer s (length d)).config

  abbrev pub shows : Values
  shows = shown (left s d) given

  abbrev pub reports : List ℕ
  reports = report shows

  -- of any text and any buffer, whether the text is accepted or refused
  pub record Fits : Type 0 where
    -- what is shown of the kept values has no more bytes than were kept, and so no more than the text
    pub sum : kept_bytes shows ≤ length (joined (reading s).settings)
    pub bytes : kept_bytes shows ≤ length s
    pub most : length reports ≤ report_most
    -- a report buffer of so many bytes is never refused
    pub enough : (room : ℕ) → report_most ≤ room → reported (left s d) given room ≡ Ok (length reports)

  -- nyimbrak_read: "the report's length, or 1,000,000 plus the refusal", of a report buffer of any length
  pub record Enters : Type 0 where
    -- every place lies in the bytes up to the text's length, which are all that the entries look at
    pub inside : sound (length s) given ≡ true
    pub refused : (room : ℕ) → (number ≡ 0 → ⊥) → entry s d room ≡ 1000000 + number
    pub long : (room : ℕ) → number ≡ 0 → length reports ≤ room → entry s d room ≡ length reports
    -- 16 exactly where the text is accepted and the report buffer is shorter than the report: never with enough bytes
    pub short : (room : ℕ) → (entry s d room ≡ 1000016) ↔ ((number ≡ 0) × (room < length reports))
    pub enough : (room : ℕ) → report_most ≤ room → entry s d room ≡ 1000016 → ⊥
    -- and then the answer is the report's length, or a refusal of the text
    pub low : (room : ℕ) → report_most ≤ room → entry s d room ≤ 1000015
    -- 17 never
    pub never : (room : ℕ) → entry s d room ≡ 1000017 → ⊥
    -- the report stands in front of a buffer that has room for it; else every byte is as it was
    pub leaves : (r : List ℕ) → number ≡ 0 → entry_left s d r ≡ written r 0 reports
    pub untouched : (r : List ℕ) → (number ≡ 0 → ⊥) → entry_left s d r ≡ r

  -- nyimbrak_place, of any key
  pub record Stands (key : ℕ) : Type 0 where
    pub refused : (number ≡ 0 → ⊥) → place s (length d) key ≡ 2 ^ 63 + number
    pub unset : number ≡ 0 → text_of key given ≡ None → place s (length d) key ≡ 0
    pub set : (p : Place) → number ≡ 0 → text_of key given ≡ Some p → place s (length d) key ≡ somewhere p
    -- a start and a length that 16 bits each hold, inside the bytes up to the text's length
    pub inside : (p : Place) → number ≡ 0 → text_of key given ≡ Some p → p.start + p.len ≤ length s
    -- 17 never
    pub never : place s (length d) key ≡ 2 ^ 63 + 17 → ⊥
