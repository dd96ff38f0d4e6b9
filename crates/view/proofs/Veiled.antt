-- Whatever a password's value is, the same settings are refused and the same is shown but for it.
-- Assumes nothing.
use Prim.Native.Nat.{ℕ, ◌+◌}
use mathlib.Core.Path.{◌≡◌, refl, sym, ap, ◌∙◌}
use mathlib.Core.Bool.{Bool, true, false}
use mathlib.Core.List.{List, [], ◌∷◌, map}
use Rattle.std.specs.Prelude.{Option, Some, None}
use borrow.Author.Tests.{eqb-true}
use lib.Dec.{eqb}
use Rattle.byte.specs.Byte.{pick}
use Rattle.lists.specs.Fault.{is_fine}
use Rattle.config.specs.Values.{Values}
use Rattle.setting.specs.Setting.{Setting, keyed, one_host, kind_of, value_of}
use Rattle.view.specs.Given.{given, refused, Told, tell_refusal, told}
use Rattle.view.specs.Hidden.{only_set, hidden, hidden_told, veil_value, veil}

only-twice : (o : Option (List ℕ)) → only_set (only_set o) ≡ only_set o
only-twice None = refl
only-twice (Some v) = refl

veil-twice : (k : ℕ) (v : List ℕ) → veil_value k (veil_value k v) ≡ veil_value k v
veil-twice k v = by (eqb k 2)
  where
    by : (t : Bool) → pick t [] (pick t [] v) ≡ pick t [] v
    by true = refl
    by false = refl

-- one setting
pub given-veiled : (k : ℕ) (v : List ℕ) (w : Values) → hidden (given k v w) ≡ hidden (given k (veil_value k v) (hidden w))
unfolding given hidden
given-veiled k v w = by (eqb k 2) refl
  where
    by : (t : Bool) → eqb k 2 ≡ t → hidden (given k v w) ≡ hidden (given k (veil_value k v) (hidden w))
    by true e = rw (eqb-true k 2 e)
    by false e = rw (e, only-twice w.password)

pub refused-veiled : (k : ℕ) (v : List ℕ) (w : Values) → refused k v w ≡ refused k (veil_value k v) (hidden w)
unfolding refused hidden
refused-veiled k v w = by (eqb k 2) refl
  where
    by : (t : Bool) → eqb k 2 ≡ t → refused k v w ≡ refused k (veil_value k v) (hidden w)
    by true e = rw (eqb-true k 2 e)
    by false e = ap (λ (t : Bool). refused k (pick t [] v) (hidden w)) (sym e)

-- what does not see the value is the same where all but the value is
module _ {X : Type 0} (f : List ℕ → Values → X) (k : ℕ) (blind : (v : List ℕ) (w : Values) → f v w ≡ f (veil_value k v) (hidden w)) where
  same-veiled : (v : List ℕ) (w w' : Values) → hidden w ≡ hidden w' → f v w ≡ f (veil_value k v) w'
  same-veiled v w w' e =
      blind v w ∙ ap (f (veil_value k v)) e ∙ ap (λ (u : List ℕ). f u (hidden w')) (sym (veil-twice k v)) ∙ sym (blind (veil_value k v) w')

pub same-refused : (k : ℕ) (v : List ℕ) (w w' : Values) → hidden w ≡ hidden w' → refused k v w ≡ refused k (veil_value k v) w'
same-refused k = same-veiled (refused k) k (refused-veiled k)

pub same-given : (k : ℕ) (v : List ℕ) (w w' : Values) → hidden w ≡ hidden w' → hidden (given k v w) ≡ hidden (given k (veil_value k v) w')
same-given k = same-veiled (λ (v : List ℕ) (w : Values). hidden (given k v w)) k (given-veiled k)

-- a veiled setting has its kind, and its value but for a password's
kind-veiled : (s : Setting) → kind_of (veil s) ≡ kind_of s
unfolding kind_of veil
kind-veiled (keyed key v) = refl
kind-veiled (one_host v) = refl

value-veiled : (s : Setting) → value_of (veil s) ≡ veil_value (kind_of s) (value_of s)
unfolding kind_of value_of veil
value-veiled (keyed key v) = refl
value-veiled (one_host v) = refl

-- a list of settings
pub told-veiled : (ss : List Setting) (end n : ℕ) (w w' : Values) → hidden w ≡ hidden w' → hidden_told (told w n ss end) ≡ hidden_told (told w' n (map veil ss) end)
unfolding told
told-veiled [] end n w w' e = by (eqb end 0)
  where
    by : (t : Bool) → hidden_told (pick t (record { number = 0; key = 0; count = n; values = w }) (tell_refusal end 0 n)) ≡ hidden_told (pick t (record { number = 0; key = 0; count = n; values = w' }) (tell_refusal end 0 n))
    by true = rw e
    by false = refl
told-veiled (s ∷ ss) end n w w' e =
    rw (kind-veiled s, value-veiled s, same-refused (kind_of s) (value_of s) w w' e)
    (by (is_fine (refused (kind_of s) (veil_value (kind_of s) (value_of s)) w')) _ _ _
    (told-veiled ss end (n + 1) (given (kind_of s) (value_of s) w) (given (kind_of s) (veil_value (kind_of s) (value_of s)) w') (same-given (kind_of s) (value_of s) w w' e)))
  where
    by : (t : Bool) (x y z : Told) → hidden_told x ≡ hidden_told y → hidden_told (pick t x z) ≡ hidden_told (pick t y z)
    by true x y z h = h
    by false x y z h = refl

-- two lists of settings that agree in all but the values under password
pub same-told : (ss ts : List Setting) (end n : ℕ) (w : Values) → map veil ss ≡ map veil ts → hidden_told (told w n ss end) ≡ hidden_told (told w n ts end)
same-told ss ts end n w e = told-veiled ss end n w w refl ∙ rw e (sym (told-veiled ts end n w w refl))
