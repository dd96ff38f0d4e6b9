-- Settings in bytes, applied one after the other, as a C caller gives them and takes the outcome.
-- Assumes nothing.
use Rattle.std.specs.Prelude.{ℕ, zero, suc, ◌+◌, ◌*◌, List, eqb, ltb, get_or, Result, Ok, Err}
use Rattle.byte.specs.Byte.{pick, part_of}
use Rattle.names.specs.Find.{key_number}
use Rattle.lists.specs.Fault.{is_fine, number_of, key_of}
use Rattle.config.specs.Config.{defaults}
use Rattle.apply.specs.Apply.{Applied, applied}
use Rattle.report.specs.declared.ReportError.{ReportError}
use Rattle.report.specs.Answer.{reported}
use Rattle.probe_record.specs.declared.Given.{Given}
use Rattle.probe_record.specs.declared.Reached.{Reached}
use Rattle.probe_record.specs.declared.Settled.{Settled}
use Rattle.probe_record.specs.declared.Told.{Told}

-- a value's length in two bytes, the high one first, then the value
abbrev pub value_at : List ℕ → ℕ → ℕ → Given
value_at l kind at = record { kind = kind; start = at + 2; end = at + 2 + (get_or l at 0 * 256 + get_or l (at + 1) 0) }

-- a setting: its key's length in one byte and the key, or 255 for one host from a URI; then the value
abbrev pub given_at : List ℕ → ℕ → Given
given_at l at =
    pick (eqb (get_or l at 0) 255) (value_at l 20 (at + 1))
    (value_at l (key_number (part_of (at + 1) (at + 1 + get_or l at 0) l)) (at + 1 + get_or l at 0))

-- a refusal says no more than its number, its key and its place: the record is the default one, as a refused text's is
abbrev pub refusal : Reached → Settled
refusal e = record { number = e.number; key = e.key; at = e.at; config = defaults }

-- a setting that was applied: on with the record, or the refusal
abbrev pub booked : Given → Applied → Settled → Settled
booked g a s =
    pick (is_fine a.fault) (record { number = 0; key = 0; at = g.end; config = a.config })
    (refusal (record { number = number_of a.fault; key = key_of a.fault g.kind; at = s.at }))

-- one more setting: none behind a refusal, and none from a place above 65,536
unfoldable pub step_of : List ℕ → Settled → Settled
step_of l s =
    pick (eqb s.number 0)
    (pick (ltb 65536 s.at) s
    (booked (given_at l s.at)
    (applied (given_at l s.at).kind (part_of (given_at l s.at).start (given_at l s.at).end l) (given_at l s.at).start s.config) s))
    s

abbrev pub first : Settled
first = record { number = 0; key = 0; at = 0; config = defaults }

-- so many settings, from a state on
unfoldable pub settled : ℕ → List ℕ → Settled → Settled
settled zero l s = s
settled (suc n) l s = settled n l (step_of l s)

-- how far they went, without the record
abbrev pub reached_of : Settled → Reached
reached_of s = record { number = s.number; key = s.key; at = s.at }

abbrev pub told_len : Result ℕ ReportError → ℕ
told_len (Ok n) = n
told_len (Err ReportError.Short) = 1000016
told_len (Err ReportError.Unsound) = 1000017

unfoldable pub told : Settled → List ℕ → ℕ → Told
told s l room = record { number = s.number; key = s.key; at = s.at; len = told_len (reported l s.config room) }
