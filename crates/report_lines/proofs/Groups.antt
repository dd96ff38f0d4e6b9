-- The keys' lines in groups, as the code draws them, are the lines of what the record shows.
-- Assumes nothing.
use Prim.Native.Nat.{ℕ}
use Rattle.std.specs.Prelude.{Option, Some, None}
use Rattle.lists.specs.declared.Place.{Place}
use mathlib.Core.Path.{◌≡◌, refl, sym, ap, ◌∙◌}
use mathlib.Core.List.{List, [], ◌∷◌, map}
use native.Mathlib.Omega.{arith}
use lib.ListN.{take, drop}
use Rattle.escape.specs.Escape.{text_value}
use Rattle.line.specs.Line.{secret_value, word_value, number_value, address_value, line, lines, lines_from}
use Rattle.draw.specs.Pen.{Sheet, drawn}
use Rattle.line.proofs.Lines.{draw-one, draw-more, draw-last, draw-split}
use Rattle.config.specs.declared.Config.{Config}
use Rattle.config.specs.Values.{text_shown, hosts_shown, addresses_shown, ports_shown, seconds_shown, retries_shown, shown}
use Rattle.field.specs.Field.{mode_number, negotiation_number, target_number, binding_number, balance_number, optional, named_host, switch_value}
use Rattle.report_lines.specs.Values.{values}

-- a password shows that it is set, and not what it is
secret-shown : (b : List ℕ) (t : Option Place) → optional (λ x. secret_value) (text_shown b t) ≡ optional (λ x. secret_value) t
secret-shown b (Some p) = refl
secret-shown b None = refl

-- a word by the number that the code tells
pub word-drawn : (key : ℕ) (s t : Sheet) (m n : ℕ) → m ≡ n → t ≡ drawn s (line key (word_value key m)) → t ≡ drawn s (lines key (word_value key n ∷ []))
word-drawn key s t m n e f = draw-one key s t (word_value key n) (rw e at f)

module _ (b : List ℕ) (c : Config) where
  -- keys 1 to 5
  pub texts-drawn : (s s₁ s₂ s₃ s₄ s₅ : Sheet)
      → s₁ ≡ drawn s (lines 1 (optional text_value (text_shown b c.user)))
      → s₂ ≡ drawn s₁ (lines 2 (optional (λ x. secret_value) c.password))
      → s₃ ≡ drawn s₂ (lines 3 (optional text_value (text_shown b c.dbname)))
      → s₄ ≡ drawn s₃ (lines 4 (optional text_value (text_shown b c.options)))
      → s₅ ≡ drawn s₄ (lines 5 (optional text_value (text_shown b c.application_name)))
      → s₅ ≡ drawn s (lines_from 1 (take 5 (values (shown b c))))
  unfolding values shown
  texts-drawn s s₁ s₂ s₃ s₄ s₅ e₁ e₂ e₃ e₄ e₅ =
      let hides = secret-shown b c.password in
      draw-more 1 s s₁ s₅ _ _ e₁ (draw-more 2 s₁ s₂ s₅ _ _ (e₂ ∙ ap (λ (v : List (List (List ℕ))). drawn s₁ (lines 2 v)) (sym hides))
      (draw-more 3 s₂ s₃ s₅ _ _ e₃ (draw-more 4 s₃ s₄ s₅ _ _ e₄ (draw-last 5 s₄ s₅ _ e₅))))

  -- keys 6 to 10
  pub lists-drawn : (s s₁ s₂ s₃ s₄ s₅ : Sheet) (mode negotiation : ℕ)
      → mode ≡ mode_number c.ssl_mode → s₁ ≡ drawn s (line 6 (word_value 6 mode))
      → negotiation ≡ negotiation_number c.ssl_negotiation → s₂ ≡ drawn s₁ (line 7 (word_value 7 negotiation))
      → s₃ ≡ drawn s₂ (lines 8 (map named_host (hosts_shown b c.host)))
      → s₄ ≡ drawn s₃ (lines 9 (map address_value (addresses_shown c.hostaddr)))
      → s₅ ≡ drawn s₄ (lines 10 (map number_value (ports_shown c.port)))
      → s₅ ≡ drawn s (lines_from 6 (take 5 (drop 5 (values (shown b c)))))
  unfolding values shown
  lists-drawn s s₁ s₂ s₃ s₄ s₅ mode negotiation m e₁ n e₂ e₃ e₄ e₅ =
      draw-more 6 s s₁ s₅ _ _ (word-drawn 6 s s₁ _ _ m e₁) (draw-more 7 s₁ s₂ s₅ _ _ (word-drawn 7 s₁ s₂ _ _ n e₂)
      (draw-more 8 s₂ s₃ s₅ _ _ e₃ (draw-more 9 s₃ s₄ s₅ _ _ e₄ (draw-last 10 s₄ s₅ _ e₅))))

  -- keys 11 to 16
  pub times-drawn : (s s₁ s₂ s₃ s₄ s₅ s₆ : Sheet)
      → s₁ ≡ drawn s (lines 11 (optional number_value (seconds_shown c.connect_timeout)))
      → s₂ ≡ drawn s₁ (lines 12 (optional number_value (seconds_shown c.tcp_user_timeout)))
      → s₃ ≡ drawn s₂ (line 13 (switch_value c.keepalives))
      → s₄ ≡ drawn s₃ (line 14 (number_value c.keepalives_idle))
      → s₅ ≡ drawn s₄ (lines 15 (optional number_value (seconds_shown c.keepalives_interval)))
      → s₆ ≡ drawn s₅ (lines 16 (optional number_value (retries_shown c.keepalives_retries)))
      → s₆ ≡ drawn s (lines_from 11 (take 6 (drop 10 (values (shown b c)))))
  unfolding values shown
  times-drawn s s₁ s₂ s₃ s₄ s₅ s₆ e₁ e₂ e₃ e₄ e₅ e₆ =
      draw-more 11 s s₁ s₆ _ _ e₁ (draw-more 12 s₁ s₂ s₆ _ _ e₂ (draw-more 13 s₂ s₃ s₆ _ _ (draw-one 13 s₂ s₃ _ e₃)
      (draw-more 14 s₃ s₄ s₆ _ _ (draw-one 14 s₃ s₄ _ e₄) (draw-more 15 s₄ s₅ s₆ _ _ e₅ (draw-last 16 s₅ s₆ _ e₆)))))

  -- keys 17 to 19
  pub words-drawn : (s s₁ s₂ s₃ : Sheet) (target binding balance : ℕ)
      → target ≡ target_number c.target_session_attrs → s₁ ≡ drawn s (line 17 (word_value 17 target))
      → binding ≡ binding_number c.channel_binding → s₂ ≡ drawn s₁ (line 18 (word_value 18 binding))
      → balance ≡ balance_number c.load_balance_hosts → s₃ ≡ drawn s₂ (line 19 (word_value 19 balance))
      → s₃ ≡ drawn s (lines_from 17 (drop 16 (values (shown b c))))
  unfolding values shown
  words-drawn s s₁ s₂ s₃ target binding balance t e₁ i e₂ a e₃ =
      draw-more 17 s s₁ s₃ _ _ (word-drawn 17 s s₁ _ _ t e₁) (draw-more 18 s₁ s₂ s₃ _ _ (word-drawn 18 s₁ s₂ _ _ i e₂)
      (draw-last 19 s₂ s₃ _ (word-drawn 19 s₂ s₃ _ _ a e₃)))

  -- all
  pub all-drawn : (s s₁ s₂ s₃ s₄ : Sheet)
      → s₁ ≡ drawn s (lines_from 1 (take 5 (values (shown b c))))
      → s₂ ≡ drawn s₁ (lines_from 6 (take 5 (drop 5 (values (shown b c)))))
      → s₃ ≡ drawn s₂ (lines_from 11 (take 6 (drop 10 (values (shown b c)))))
      → s₄ ≡ drawn s₃ (lines_from 17 (drop 16 (values (shown b c))))
      → s₄ ≡ drawn s (lines_from 1 (values (shown b c)))
  unfolding values
  all-drawn s s₁ s₂ s₃ s₄ e₁ e₂ e₃ e₄ =
      let all = values (shown b c) in
      draw-split 1 5 all s s₁ s₄ (omega arith) e₁
      (draw-split 6 5 (drop 5 all) s₁ s₂ s₄ (omega arith) e₂ (draw-split 11 6 (drop 10 all) s₂ s₃ s₄ (omega arith) e₃ e₄))
