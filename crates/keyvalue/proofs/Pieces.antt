-- Laws of a value's scan: what holds in a loop that goes by pieces, and the test for a quote.
-- Assumes nothing.
use mathlib.Core.Path.{◌≡◌, refl, ap, ◌∙◌}
use mathlib.Core.Bool.{Bool, true, false}
use mathlib.Core.List.{List}
use Prim.Native.Nat.{ℕ, ◌+◌, ◌-◌, ◌<◌, ◌≤◌}
use native.Mathlib.Nat.{add-zero}
use native.Mathlib.Omega.{arith}
use lib.Dec.{eqb}
use lib.ListN.{length, drop, take, get_or, drop_of_length-le}
use lib.Seq.{get_or-drop}
use borrow.Author.Tests.{eq-eqb, ne_eqb}
use Rattle.scan.proofs.Runs.{end-stop, end-past}
use Rattle.backslash.proofs.Pieces.{value_by, value_none, turn, last, gained-itself}
use Rattle.keyvalue.specs.Scan.{run_from, run, end_of, gained_at, until, starts_quote}
use Rattle.keyvalue.specs.KeyValue.{unescaped_from, unescaped, raw_at}

-- a loop that goes by pieces stands at i, and has counted so many bytes of the value
pub record Scanning (ends : List ℕ → Bool) (s : List ℕ) (at i count : ℕ) : Type 0 where
  pub same : end_of (until ends) s at ≡ end_of (until ends) s i
  pub long : length (value_by ends (drop at s)) ≡ count + length (value_by ends (drop i s))
  pub low : at + count ≤ i

pub scan-start : (ends : List ℕ → Bool) (s : List ℕ) (at : ℕ) → Scanning ends s at at 0
scan-start ends s at = record { same = refl; long = omega arith; low = omega arith }

-- where the value stands, from where the loop left off
raw-is : (ends : List ℕ → Bool) (s : List ℕ) (at to count : ℕ) → end_of (until ends) s at ≡ to → length (value_by ends (drop at s)) ≡ count
    → record { from = at; to = to; len = count } ≡ raw_at (until ends) s at
raw-is ends s at to count e l =
    let n : end_of (until ends) s at - at ≡ run (until ends) (drop at s) = omega arith in
    rw (n, ← l, ← e)

module _ (ends : List ℕ → Bool) (s : List ℕ) (at i count : ℕ) (now : Scanning ends s at i count) where
  pub scan-stop : ends (drop i s) ≡ true → record { from = at; to = i; len = count } ≡ raw_at (until ends) s at
  scan-stop done =
      let e : until ends (drop i s) ≡ 0 = rw done in
      raw-is ends s at i count (now.same ∙ end-stop (until ends) s i e) (now.long ∙ rw (value_none ends (drop i s) e) (add-zero count))

  pub scan-past : length s ≤ i → record { from = at; to = i; len = count } ≡ raw_at (until ends) s at
  unfolding unescaped_from run_from
  scan-past h =
      raw-is ends s at i count (now.same ∙ end-past (until ends) s i h) (now.long ∙ rw (drop_of_length-le s h) (add-zero count))

  module _ (h : i < length s) (on : ends (drop i s) ≡ false) (j : ℕ) (is : j ≡ gained_at s i) where
    pub scan-turn : j < length s → Scanning ends s at (j + 1) (count + 1)
    scan-turn l =
        let t = turn ends s i h on j is l in
        record {
          same = now.same ∙ t.same;
          long = omega (arith, now.long, ap length t.value);
          low = omega (arith, now.low, t.from);
        }

    pub scan-last : length s ≤ j → record { from = at; to = j; len = count } ≡ raw_at (until ends) s at
    scan-last l =
        let t = last ends s i h on j is l in
        raw-is ends s at j count (now.same ∙ t.same) (now.long ∙ rw t.value (add-zero count))

-- how long a value is, by where it stands
raw-len : (ends : List ℕ → Bool) (s : List ℕ) (i : ℕ) → (raw_at (until ends) s i).len ≡ length (value_by ends (drop i s))
raw-len ends s i =
    let n : end_of (until ends) s i - i ≡ run (until ends) (drop i s) = omega arith in
    ap (λ (k : ℕ). length (unescaped (take k (drop i s)))) n

-- bytes that a value gains as they stand are passed over
pub scan-plain : (ends : List ℕ → Bool) (s : List ℕ) (at i count : ℕ) → Scanning ends s at i count → (r n : ℕ) → n ≡ count + (r - i) → i ≤ r
    → (raw_at (until ends) s i).to ≡ (raw_at (until ends) s r).to → (raw_at (until ends) s i).len ≡ r - i + (raw_at (until ends) s r).len → Scanning ends s at r n
scan-plain ends s at i count now r n is l e f =
    record {
      same = now.same ∙ e;
      long = omega (arith, now.long, raw-len ends s i, raw-len ends s r, f, is);
      low = omega (arith, now.low, is, l);
    }

pub record Plain (ends : List ℕ → Bool) (s : List ℕ) (i : ℕ) : Type 0 where
  pub to : (raw_at (until ends) s i).to ≡ (raw_at (until ends) s (i + 1)).to
  pub len : (raw_at (until ends) s i).len ≡ 1 + (raw_at (until ends) s (i + 1)).len

pub plain_turn : (ends : List ℕ → Bool) (s : List ℕ) (i : ℕ) → i < length s → ends (drop i s) ≡ false → (get_or s i 0 ≡ 92 → ⊥) → Plain ends s i
plain_turn ends s i h on n =
    let t = turn ends s i h on i (gained-itself s i n) h in
    record { to = t.same; len = omega (arith, raw-len ends s i, raw-len ends s (i + 1), ap length t.value) }

-- the test for `'`
module _ (s : List ℕ) (i : ℕ) where
  quote-is : starts_quote (drop i s) ≡ eqb (get_or s i 0) 39
  unfolding starts_quote
  quote-is = rw (get_or-drop i s 0 0, add-zero i)

  pub at-quote : get_or s i 0 ≡ 39 → starts_quote (drop i s) ≡ true
  at-quote e = quote-is ∙ eq-eqb (get_or s i 0) 39 e

  pub no-quote : (get_or s i 0 ≡ 39 → ⊥) → starts_quote (drop i s) ≡ false
  no-quote e = quote-is ∙ ne_eqb (get_or s i 0) 39 e
