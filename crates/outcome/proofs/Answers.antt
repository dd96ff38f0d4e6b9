-- How the reader begins and ends: the tests before the first setting, the first state, and the answer once it is known what the text comes to.
-- Assumes nothing.
use Prim.Native.Nat.{ℕ, ◌-◌, ◌≤◌, ◌<◌}
use mathlib.Core.Path.{◌≡◌, refl, sym, ap, ◌∙◌}
use mathlib.Core.Bool.{Bool, true, false}
use mathlib.Core.List.{List, [], ◌++◌}
use native.Mathlib.Omega.{arith}
use native.Mathlib.Nat.{sub-zero}
use lib.Dec.{ltb}
use lib.ListN.{length, drop, replicate}
use borrow.Author.Tests.{lt-ltb, le-ltb, ltb-true, ltb-false, eq-eqb, ne_eqb}
use Rattle.byte.specs.Put.{put, written}
use Rattle.utf8.specs.Utf8.{well_formed}
use Rattle.names.specs.Find.{prefix_len}
use Rattle.names.proofs.Prefix.{prefix-long}
use Rattle.url_parser.specs.declared.Stage.{Stage}
use Rattle.url_parser.specs.declared.Url.{Url}
use Rattle.url_parser.specs.Step.{url}
use Rattle.url_parser.specs.Uri.{uri}
use Rattle.url_parser.proofs.Reading.{reading-start, left-start}
use Rattle.config.specs.declared.Config.{Config}
use Rattle.config.specs.Config.{defaults}
use Rattle.outcome.specs.Outcome.{reading, refusal, acceptance, Outcome, refused, accepted, ended, outcome, outcome_of, answer, filled, left}
use Rattle.outcome.specs.Steps.{first_state}
use Rattle.outcome.proofs.Packing.{Packed, packed_none, zeros-behind, zeros-all}
use Rattle.taking.proofs.Next.{from, measure, slack}
use Rattle.outcome.proofs.Going.{Going}

-- the four ways that a text goes
module _ (s d : List ℕ) where
  pub too_long : 4096 < length s → (refusal 1 0 0 ≡ answer s (length d)) × (d ≡ left s d)
  unfolding answer left
  too_long h = (rw (lt-ltb _ _ h), rw (lt-ltb _ _ h))

  pub no_room : length s ≤ 4096 → length d < length s → (refusal 2 0 0 ≡ answer s (length d)) × (d ≡ left s d)
  unfolding answer left
  no_room a h = (rw (le-ltb 4096 (length s) a, lt-ltb _ _ h), rw (le-ltb 4096 (length s) a, lt-ltb _ _ h))

  module _ (a : length s ≤ 4096) (b : length s ≤ length d) where
    pub not-utf8 : well_formed s ≡ false → (refusal 3 0 0 ≡ answer s (length d)) × (written d 0 (replicate (length s) 0) ≡ left s d)
    unfolding answer left filled
    not-utf8 e = (
      rw (le-ltb 4096 (length s) a, le-ltb (length d) (length s) b, e),
      zeros-all (length s) d [] d (packed_none (length s) d) b ∙ sym (rw (le-ltb 4096 (length s) a, le-ltb (length d) (length s) b, e, sub-zero)),
    )

    pub answered : well_formed s ≡ true → ((outcome_of s).answer ≡ answer s (length d)) × (filled s (outcome_of s).packed d ≡ left s d)
    unfolding answer left
    answered e = (rw (le-ltb 4096 (length s) a, le-ltb (length d) (length s) b, e), rw (le-ltb 4096 (length s) a, le-ltb (length d) (length s) b, e))

-- before the first setting
module _ (s d : List ℕ) (a : length s ≤ 4096) where
  begin-uri : (p : ℕ) → p ≡ prefix_len s → (p ≡ 0 → ⊥) → Going s d true 8194 d (first_state p) 0
  unfolding outcome_of reading from slack measure
  begin-uri p e h =
      let k : prefix_len s ≡ 0 → ⊥ = λ z. h (e ∙ z) in
      let l = prefix-long s k in
      record {
        bytes = [];
        long = refl;
        packed = packed_none (length s) d;
        low = omega (arith, l.0, e);
        at = omega (arith, l.1, e);
        comes =
            rw (ne_eqb (prefix_len s) 0 k, reading-start s p)
            (ap (λ (n : ℕ). outcome defaults [] 0 (uri (drop n s)).settings (uri (drop n s)).end) (sym e));
        counted = omega (arith, left-start s p);
      }

  begin-pairs : (p : ℕ) → p ≡ prefix_len s → p ≡ 0 → Going s d false 8194 d (first_state p) 0
  unfolding outcome_of reading from slack measure
  begin-pairs p e h =
      record {
        bytes = [];
        long = refl;
        packed = packed_none (length s) d;
        low = omega arith;
        at = omega arith;
        comes = rw (eq-eqb (prefix_len s) 0 (sym e ∙ h), h);
        counted = omega arith;
      }

  begin : (p : ℕ) → p ≡ prefix_len s → (t : Bool) → t ≡ ltb 0 p → Going s d t 8194 d (first_state p) 0
  begin p e true q = begin-uri p e (λ z. let h : 0 < p = ltb-true 0 p (sym q) in absurd (omega arith))
  begin p e false q = begin-pairs p e (omega (arith, ltb-false 0 p (sym q)))

  -- with the default record in the rows
  pub begin-rows : (p : ℕ) → p ≡ prefix_len s → (t : Bool) → t ≡ ltb 0 p → (c : Config) → c ≡ defaults → (u : Url) → u ≡ url Stage.Credentials p
      → Going s d t 8194 d (record { config = c; packed = 0; url = u }) 0
  begin-rows p e t k c i u h = rw (h, i) (begin p e t k)

-- the answer and the buffer, once it is known what the text comes to; d is the buffer before it is filled up with zeros
module _ (s d₀ d b : List ℕ) (p : Packed (length s) d₀ b d) (long : length s ≤ length d₀) where
  pub refused-text : (number key n : ℕ) → outcome_of s ≡ refused number key n
      → (refusal number key n ≡ (outcome_of s).answer) × (written d 0 (replicate (length s) 0) ≡ filled s (outcome_of s).packed d₀)
  unfolding filled
  refused-text number key n e = (
    ap (λ (o : Outcome). o.answer) (sym e),
    zeros-all (length s) d₀ b d p long ∙ ap (λ (k : ℕ). put d₀ 0 (replicate k 0)) (sym (sub-zero (length s)))
        ∙ ap (λ (o : Outcome). put d₀ 0 (o.packed ++ replicate (length s - length o.packed) 0)) (sym e),
  )

  accepted-text : (c : Config) (n at : ℕ) → length b ≡ at → length b ≤ length s → outcome_of s ≡ accepted n c b
      → (acceptance n c ≡ (outcome_of s).answer) × (written d at (replicate (length s - at) 0) ≡ filled s (outcome_of s).packed d₀)
  unfolding filled
  accepted-text c n at h low e = (
    ap (λ (o : Outcome). o.answer) (sym e),
    rw (← h) (zeros-behind (length s) d₀ b d p long low) ∙ ap (λ (o : Outcome). put d₀ 0 (o.packed ++ replicate (length s - length o.packed) 0)) (sym e),
  )

  -- "if all can, the end decides"
  pub end-fine : (c : Config) (n at end : ℕ) → length b ≡ at → length b ≤ length s → end ≡ 0 → outcome_of s ≡ ended c b n end
      → (acceptance n c ≡ (outcome_of s).answer) × (written d at (replicate (length s - at) 0) ≡ filled s (outcome_of s).packed d₀)
  end-fine c n at end h low z e = accepted-text c n at h low (e ∙ rw (eq-eqb end 0 z))

  pub end-broken : (c : Config) (n end : ℕ) → (end ≡ 0 → ⊥) → outcome_of s ≡ ended c b n end
      → (refusal end 0 n ≡ (outcome_of s).answer) × (written d 0 (replicate (length s) 0) ≡ filled s (outcome_of s).packed d₀)
  end-broken c n end z e = refused-text end 0 n (e ∙ rw (ne_eqb end 0 z))
