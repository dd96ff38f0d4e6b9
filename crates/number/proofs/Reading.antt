-- What holds while digits are read, in any base and at any bound: t is the whole piece, v the number so far, rest what is still to come.
-- Assumes nothing.
use mathlib.Core.Bool.{Bool, true, false}
use mathlib.Core.Path.{◌≡◌, refl, ◌∙◌}
use mathlib.Core.List.{List, [], ◌∷◌}
use Prim.Native.Nat.{ℕ, ◌+◌, ◌*◌, ◌<◌, ◌≤◌}
use native.Mathlib.Omega.{arith}
use lib.ListN.{length}
use borrow.Author.Tests.{lt-ltb, le-ltb, le-leb, lt-leb}
use Rattle.byte.specs.Byte.{pick}
use Rattle.byte.specs.Digit.{digit_of}
use Rattle.std.specs.Prelude.{Result, Ok, Err}
use Rattle.number.specs.declared.NumberError.{NumberError}
use Rattle.number.specs.Digits.{all_digits, value_from, value_in}
use Rattle.number.specs.Number.{digits_in}
use Rattle.digits.proofs.Digits.{grows}

pub record Reading (base max : ℕ) (t : List ℕ) (v : ℕ) (rest : List ℕ) : Type 0 where
  pub some : 0 < length t
  pub low : v ≤ max
  pub digits : all_digits base t ≡ all_digits base rest
  pub means : value_in base t ≡ value_from base v rest

told_error : (t : Bool) → ◌≡◌ {A = Result ℕ NumberError} (pick t (Err NumberError.Range) (Err NumberError.Form)) (Err (pick t NumberError.Range NumberError.Form))
told_error true = refl
told_error false = refl

module _ (base max : ℕ) where
  pub nothing : digits_in base max [] ≡ Err NumberError.Form
  unfolding digits_in
  nothing = refl

  module _ (t : List ℕ) where
    pub start : 0 < length t → Reading base max t 0 t
    unfolding value_in
    start h = record { some = h; low = omega arith; digits = refl; means = refl }

    module _ (v : ℕ) where
      -- a turn, at the byte a, whose digit is d
      module _ (a d : ℕ) (r : List ℕ) (R : Reading base max t v (a ∷ r)) (e : d ≡ digit_of a) where
        pub no_digit : base ≤ d → digits_in base max t ≡ Err NumberError.Form
        unfolding digits_in all_digits
        no_digit h = rw (lt-ltb 0 (length t) R.some, R.digits, ← e, le-ltb _ _ h)

        -- the range is passed: only the form of what follows is left to judge
        pub over : d < base → max < v * base + d → digits_in base max t ≡ Err (pick (all_digits base r) NumberError.Range NumberError.Form)
        unfolding digits_in all_digits value_from
        over h m =
            let g : max < value_from base (v * base + d) r = omega (arith, grows base (omega arith) r (v * base + d)) in
            rw (R.means, ← e, lt-leb _ _ g, lt-ltb 0 (length t) R.some, R.digits, ← e, lt-ltb _ _ h) (told_error (all_digits base r))

        pub more : d < base → v * base + d ≤ max → Reading base max t (v * base + d) r
        unfolding all_digits value_from
        more h m = record { some = R.some; low = m; digits = R.digits ∙ rw (← e, lt-ltb _ _ h); means = R.means ∙ rw e }

      pub done : Reading base max t v [] → digits_in base max t ≡ Ok v
      unfolding digits_in all_digits value_from
      done R = rw (lt-ltb 0 (length t) R.some, R.digits, R.means, le-leb v max R.low)
