-- The record that the rows stand for after the cells of a field are written: the one that its setting makes.
-- Assumes nothing.
use Prim.Native.Nat.{ℕ, zero, suc, ◌-◌, ◌^◌}
use mathlib.Core.Path.{◌≡◌, refl, ap, subst}
use mathlib.Core.Bool.{Bool, true, false}
use mathlib.Core.List.{List, [], ◌∷◌}
use native.Mathlib.Omega.{arith}
use borrow.Author.Tests.{ne_eqb}
use lib.Dec.{eqb}
use lib.ListN.{length, get_or, drop}
use Rattle.std.specs.Prelude.{Result, Ok, Err}
use Rattle.number.specs.declared.NumberError.{NumberError}
use Rattle.number.specs.Number.{unsigned_of}
use Rattle.names.specs.Find.{word_number}
use Rattle.lists.specs.Fault.{is_fine}
use Rattle.apply.specs.Apply.{word_fault, seconds_in, after}
use Rattle.rows.specs.Rows.{config_of}
use Rattle.rows.specs.Cells.{text_put, word_put, time_put, idle_put, keepalives_put, retries_put, retries_in}

-- the first n numbers of a list, each by itself
abbrev pub spread : ℕ → List ℕ → List ℕ
spread zero f = []
spread (suc n) f = get_or f 0 0 ∷ spread n (drop 1 f)

pub spread-all : (n : ℕ) (f : List ℕ) → length f ≡ n → spread n f ≡ f
spread-all zero [] e = refl
spread-all (suc n) [] e = absurd (omega arith)
spread-all zero (a ∷ f) e = absurd (omega arith)
spread-all (suc n) (a ∷ f) e = ap (λ (l : List ℕ). a ∷ l) (spread-all n f (omega arith))

-- a word that is not refused has a number
found : (n : ℕ) → is_fine (word_fault n) ≡ true → eqb n 0 ≡ false
found zero e = let z : ◌≡◌ {A = Bool} false true = e in cc
found (suc n) e = ne_eqb (suc n) 0 (λ z. absurd (omega arith))

-- a number, by whether it is 0, or none
cases : (P : Result ℕ NumberError → Type 0) (m : Result ℕ NumberError) → ((n : ℕ) → eqb n 0 ≡ true → P (Ok n)) → ((n : ℕ) → eqb n 0 ≡ false → P (Ok n)) → ((x : NumberError) → P (Err x)) → P m
cases P (Ok n) z k a = by (eqb n 0) refl
  where
    by : (t : Bool) → eqb n 0 ≡ t → P (Ok n)
    by true e = z n e
    by false e = k n e
cases P (Err x) z k a = a x

module _ (h s q p v : List ℕ) (start : ℕ) where
  -- cells written in a row, and the record that a setting of some kind makes of the one that the row stood for
  abbrev At : ℕ → (List ℕ → List ℕ) → List ℕ → Type 0
  At kind write f = config_of (write f) h s q p ≡ after kind v start (config_of f h s q p)

  abbrev pub Makes : ℕ → (List ℕ → List ℕ) → Type 0
  Makes kind write = (f g : List ℕ) → length f ≡ 32 → g ≡ write f → config_of g h s q p ≡ after kind v start (config_of f h s q p)

  -- it is enough to look at 32 numbers, each by itself
  each : (kind : ℕ) (write : List ℕ → List ℕ) → ((f : List ℕ) → At kind write (spread 32 f)) → Makes kind write
  each kind write t f g l e = rw e (subst (At kind write) (spread-all 32 f l) (t f))

  pub user-set : Makes 1 (text_put 0 start (length v))
  unfolding config_of after
  user-set = each 1 (text_put 0 start (length v)) (λ f. refl)

  pub password-set : Makes 2 (text_put 3 start (length v))
  unfolding config_of after
  password-set = each 2 (text_put 3 start (length v)) (λ f. refl)

  pub dbname-set : Makes 3 (text_put 6 start (length v))
  unfolding config_of after
  dbname-set = each 3 (text_put 6 start (length v)) (λ f. refl)

  pub options-set : Makes 4 (text_put 9 start (length v))
  unfolding config_of after
  options-set = each 4 (text_put 9 start (length v)) (λ f. refl)

  pub application-name-set : Makes 5 (text_put 12 start (length v))
  unfolding config_of after
  application-name-set = each 5 (text_put 12 start (length v)) (λ f. refl)

  pub ssl-mode-set : is_fine (word_fault (word_number 6 v)) ≡ true → Makes 6 (word_put 15 (word_number 6 v))
  unfolding config_of after
  ssl-mode-set e = each 6 (word_put 15 (word_number 6 v)) (λ f. rw (found (word_number 6 v) e))

  pub ssl-negotiation-set : is_fine (word_fault (word_number 7 v)) ≡ true → Makes 7 (word_put 16 (word_number 7 v))
  unfolding config_of after
  ssl-negotiation-set e = each 7 (word_put 16 (word_number 7 v)) (λ f. rw (found (word_number 7 v) e))

  pub target-session-attrs-set : is_fine (word_fault (word_number 17 v)) ≡ true → Makes 17 (word_put 17 (word_number 17 v))
  unfolding config_of after
  target-session-attrs-set e = each 17 (word_put 17 (word_number 17 v)) (λ f. rw (found (word_number 17 v) e))

  pub channel-binding-set : is_fine (word_fault (word_number 18 v)) ≡ true → Makes 18 (word_put 18 (word_number 18 v))
  unfolding config_of after
  channel-binding-set e = each 18 (word_put 18 (word_number 18 v)) (λ f. rw (found (word_number 18 v) e))

  pub load-balance-hosts-set : is_fine (word_fault (word_number 19 v)) ≡ true → Makes 19 (word_put 19 (word_number 19 v))
  unfolding config_of after
  load-balance-hosts-set e = each 19 (word_put 19 (word_number 19 v)) (λ f. rw (found (word_number 19 v) e))

  pub connect-timeout-set : Makes 11 (time_put 20 (seconds_in v))
  unfolding config_of after
  connect-timeout-set =
      each 11 (time_put 20 (seconds_in v))
      (λ f. cases (λ m. seconds_in v ≡ m → At 11 (time_put 20 m) (spread 32 f)) (seconds_in v) (λ n z e. rw (e, z)) (λ n z e. rw (e, z)) (λ x e. rw e) refl)

  pub tcp-user-timeout-set : Makes 12 (time_put 22 (seconds_in v))
  unfolding config_of after
  tcp-user-timeout-set =
      each 12 (time_put 22 (seconds_in v))
      (λ f. cases (λ m. seconds_in v ≡ m → At 12 (time_put 22 m) (spread 32 f)) (seconds_in v) (λ n z e. rw (e, z)) (λ n z e. rw (e, z)) (λ x e. rw e) refl)

  pub interval-set : Makes 15 (time_put 24 (seconds_in v))
  unfolding config_of after
  interval-set =
      each 15 (time_put 24 (seconds_in v))
      (λ f. cases (λ m. seconds_in v ≡ m → At 15 (time_put 24 m) (spread 32 f)) (seconds_in v) (λ n z e. rw (e, z)) (λ n z e. rw (e, z)) (λ x e. rw e) refl)

  pub idle-set : Makes 14 (idle_put (seconds_in v))
  unfolding config_of after
  idle-set =
      each 14 (idle_put (seconds_in v))
      (λ f. cases (λ m. seconds_in v ≡ m → At 14 (idle_put m) (spread 32 f)) (seconds_in v) (λ n z e. rw (e, z)) (λ n z e. rw (e, z)) (λ x e. rw e) refl)

  pub keepalives-set : Makes 13 (keepalives_put (unsigned_of (2 ^ 64 - 1) v))
  unfolding config_of after
  keepalives-set =
      each 13 (keepalives_put (unsigned_of (2 ^ 64 - 1) v))
      (λ f. cases (λ m. unsigned_of (2 ^ 64 - 1) v ≡ m → At 13 (keepalives_put m) (spread 32 f)) (unsigned_of (2 ^ 64 - 1) v) (λ n z e. rw e) (λ n z e. rw e) (λ x e. rw e) refl)

-- keepalives_retries stands in two rows
module _ (h s p v : List ℕ) (start : ℕ) where
  abbrev Both : Result ℕ NumberError → List ℕ → List ℕ → Type 0
  Both m q f = config_of (retries_put m f) h s (retries_in m q) p ≡ after 16 v start (config_of f h s q p)

  both : (q : List ℕ) → length q ≡ 17 → (f : List ℕ) → Both (unsigned_of (2 ^ 32 - 1) v) q (spread 32 f)
  unfolding config_of after
  both [] l f = absurd (omega arith)
  both (a ∷ q) l f =
      cases (λ m. unsigned_of (2 ^ 32 - 1) v ≡ m → Both m (a ∷ q) (spread 32 f)) (unsigned_of (2 ^ 32 - 1) v) (λ n z e. rw e) (λ n z e. rw e) (λ x e. rw e) refl

  pub retries-set : (f g q r : List ℕ) → length f ≡ 32 → length q ≡ 17 → g ≡ retries_put (unsigned_of (2 ^ 32 - 1) v) f → r ≡ retries_in (unsigned_of (2 ^ 32 - 1) v) q
      → config_of g h s r p ≡ after 16 v start (config_of f h s q p)
  retries-set f g q r l k e d = rw (e, d) (subst (Both (unsigned_of (2 ^ 32 - 1) v) q) (spread-all 32 f l) (both q k f))
