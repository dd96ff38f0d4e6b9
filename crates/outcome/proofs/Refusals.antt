-- A refused text: its record is the default one, so that its number, key and count are all that it says.
-- Assumes nothing.
use Prim.Native.Nat.{ℕ, ◌+◌}
use mathlib.Core.Path.{◌≡◌, refl, ap, ◌∙◌}
use mathlib.Core.Bool.{Bool, true, false}
use mathlib.Core.List.{List, [], ◌∷◌, ◌++◌}
use lib.Dec.{eqb, ltb}
use lib.ListN.{length}
use Rattle.byte.specs.Byte.{pick}
use Rattle.utf8.specs.Utf8.{well_formed}
use Rattle.setting.specs.Setting.{Setting, kind_of, value_of}
use Rattle.lists.specs.Fault.{is_fine}
use Rattle.config.specs.declared.Config.{Config}
use Rattle.apply.specs.Apply.{applied}
use Rattle.outcome.specs.declared.Answer.{Answer}
use Rattle.ending.specs.declared.Ending.{Ending}
use Rattle.outcome.specs.Outcome.{ending_of}
use Rattle.outcome.specs.Outcome.{kept, refusal, Outcome, refused, accepted, outcome, outcome_of, answer}

-- a refusal says no more than its number, its key and its count
abbrev Plain : Answer → Type 0
Plain a = (a.number ≡ 0 → ⊥) → refusal a.number a.key a.count ≡ a

end-plain : (c : Config) (b : List ℕ) (n end : ℕ) (t : Bool) → Plain (pick t (accepted n c b) (refused end 0 n)).answer
end-plain c b n end true h = absurd (h refl)
end-plain c b n end false h = refl

either-plain : (o : Outcome) (number key n : ℕ) (t : Bool) → Plain o.answer → Plain (pick t o (refused number key n)).answer
either-plain o number key n true p h = p h
either-plain o number key n false p h = refl

outcome-plain : (c : Config) (b : List ℕ) (n : ℕ) (ss : List Setting) (end : ℕ) → Plain (outcome c b n ss end).answer
unfolding outcome
outcome-plain c b n [] end = end-plain c b n end (eqb end 0)
outcome-plain c b n (s ∷ ss) end =
    either-plain _ _ _ n (is_fine (applied (kind_of s) (value_of s) (length b) c).fault) (outcome-plain (applied (kind_of s) (value_of s) (length b) c).config (b ++ kept s) (n + 1) ss end)

module _ (s : List ℕ) (room : ℕ) where
  by-utf8 : (t : Bool) → Plain (pick t (outcome_of s).answer (refusal 3 0 0))
  unfolding outcome_of
  by-utf8 true h = outcome-plain _ _ _ _ _ h
  by-utf8 false h = refl

  by-room : (t : Bool) → Plain (pick t (refusal 2 0 0) (pick (well_formed s) (outcome_of s).answer (refusal 3 0 0)))
  by-room true h = refl
  by-room false h = by-utf8 (well_formed s) h

  by_length : (t : Bool) → Plain (pick t (refusal 1 0 0) (pick (ltb room (length s)) (refusal 2 0 0) (pick (well_formed s) (outcome_of s).answer (refusal 3 0 0))))
  by_length true h = refl
  by_length false h = by-room (ltb room (length s)) h

  answer-plain : Plain (answer s room)
  unfolding answer
  answer-plain = by_length (ltb 4096 (length s))

  -- told from the ending
  pub refused-plain : (e : Ending) → e ≡ ending_of (answer s room) → (e.number ≡ 0 → ⊥) → refusal e.number e.key e.count ≡ answer s room
  refused-plain e is h = rw is (answer-plain (λ z. h (ap (λ (x : Ending). x.number) is ∙ z)))

-- an answer is its ending and its record
pub whole : (a : Answer) (e : Ending) → e ≡ ending_of a → (x : Config) → x ≡ a.config → ◌≡◌ {A = Answer} (record { number = e.number; key = e.key; count = e.count; config = x }) a
whole a e is x q = rw (is, q)
