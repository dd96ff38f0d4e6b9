-- Why a reading ends before the text does, and the number that the refusal hands back.
-- Assumes nothing.
use Rattle.std.specs.Prelude.{ℕ, Option, Some, None}
use Rattle.setting.specs.declared.Refusal.{Refusal}
use Rattle.setting.specs.declared.Refusal.TheVariants.{NoSign, KeyAlone, EmptyValue, OpenQuote, Bracket, NoEquals, NotUtf8}

-- 6 and 7: another character, or the end, in place of `=`; 8 an empty value; 9 a quote that is not closed; 10 a bracket; 11 a parameter without `=`; 12 what is not UTF-8
abbrev pub refusal_number : Refusal → ℕ
refusal_number NoSign = 6
refusal_number KeyAlone = 7
refusal_number EmptyValue = 8
refusal_number OpenQuote = 9
refusal_number Bracket = 10
refusal_number NoEquals = 11
refusal_number NotUtf8 = 12

-- the end of a reading as a number: 0 is clean
abbrev pub end_number : Option Refusal → ℕ
end_number None = 0
end_number (Some r) = refusal_number r
