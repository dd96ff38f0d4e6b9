-- What a text comes to: document 01's sections "Numbers handed back" and "A reading".
-- Assumes nothing.
use Rattle.std.specs.Prelude.{ℕ, ◌+◌, ◌-◌, List, [], ◌∷◌, ◌++◌, eqb, ltb, length, drop, replicate}
use Rattle.byte.specs.Byte.{pick}
use Rattle.byte.specs.Put.{put}
use Rattle.utf8.specs.Utf8.{well_formed}
use Rattle.names.specs.Find.{prefix_len}
use Rattle.setting.specs.Setting.{Setting, kind_of, value_of, Reading}
use Rattle.keyvalue.specs.KeyValue.{key_value}
use Rattle.url_parser.specs.Uri.{uri}
use Rattle.lists.specs.Fault.{is_fine, number_of, key_of}
use Rattle.config.specs.declared.Config.{Config}
use Rattle.config.specs.Config.{defaults}
use Rattle.apply.specs.Apply.{applied}
use Rattle.taking.specs.Taking.{keeps}
use Rattle.ending.specs.declared.Ending.{Ending}
use Rattle.outcome.specs.declared.Answer.{Answer}

-- "Key-value. Used unless the text starts with `postgres://` or `postgresql://`." "URI, after the prefix"
unfoldable pub reading : List ℕ → Reading
reading s = pick (eqb (prefix_len s) 0) (key_value s) (uri (drop (prefix_len s) s))

unfoldable pub kept : Setting → List ℕ
kept s = pick (keeps (kind_of s)) (value_of s) []

-- "Every refusal of a text gives a default record, the count of settings applied before it .. and a key number (0 but for 5)."
abbrev pub refusal : ℕ → ℕ → ℕ → Answer
refusal number key count = record { number = number; key = key; count = count; config = defaults }

abbrev pub acceptance : ℕ → Config → Answer
acceptance count c = record { number = 0; key = 0; count = count; config = c }

-- the answer, and the bytes that are packed for it: none for a refusal
pub record Outcome : Type 0 where
  pub answer : Answer
  pub packed : List ℕ

abbrev pub refused : ℕ → ℕ → ℕ → Outcome
refused number key count = record { answer = refusal number key count; packed = [] }

abbrev pub accepted : ℕ → Config → List ℕ → Outcome
accepted count c b = record { answer = acceptance count c; packed = b }

-- "if all can, the end decides"
abbrev pub ended : Config → List ℕ → ℕ → ℕ → Outcome
ended c b n end = pick (eqb end 0) (accepted n c b) (refused end 0 n)

-- "Settings are applied in order. The first that can't be applied decides": from a record on, with b packed and n settings applied
unfoldable pub outcome : Config → List ℕ → ℕ → List Setting → ℕ → Outcome
outcome c b n [] end = ended c b n end
outcome c b n (s ∷ ss) end =
    pick (is_fine (applied (kind_of s) (value_of s) (length b) c).fault)
    (outcome (applied (kind_of s) (value_of s) (length b) c).config (b ++ kept s) (n + 1) ss end)
    (refused (number_of (applied (kind_of s) (value_of s) (length b) c).fault) (key_of (applied (kind_of s) (value_of s) (length b) c).fault (kind_of s)) n)

unfoldable pub outcome_of : List ℕ → Outcome
outcome_of s = outcome defaults [] 0 (reading s).settings (reading s).end

-- "1, 2, 3 are tested in that order": longer than 4,096; a decode buffer shorter than the text; not UTF-8
unfoldable pub answer : List ℕ → ℕ → Answer
answer s room =
    pick (ltb 4096 (length s)) (refusal 1 0 0)
    (pick (ltb room (length s)) (refusal 2 0 0)
    (pick (well_formed s) (outcome_of s).answer (refusal 3 0 0)))

-- "An accepted text leaves there the kept values packed in reading order, then zeros up to the text's length. Later bytes never change."
-- "every other refusal of a text sets the decode buffer's bytes, up to the text's length, to zero"
unfoldable pub filled : List ℕ → List ℕ → List ℕ → List ℕ
filled s b d = put d 0 (b ++ replicate (length s - length b) 0)

-- "Refusals 1 and 2 touch no buffer"
unfoldable pub left : List ℕ → List ℕ → List ℕ
left s d =
    pick (ltb 4096 (length s)) d
    (pick (ltb (length d) (length s)) d
    (filled s (pick (well_formed s) (outcome_of s).packed []) d))

-- an answer without its record
abbrev pub ending_of : Answer → Ending
ending_of a = record { number = a.number; key = a.key; count = a.count }
