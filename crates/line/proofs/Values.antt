-- The bytes of a value of each kind, and how many they are at most.
-- Assumes nothing.
use Prim.Native.Nat.{ℕ, zero, suc, ◌+◌, ◌/◌, ◌%◌, ◌^◌, ◌<◌, ◌≤◌}
use mathlib.Core.Path.{◌≡◌, refl, ap, ◌∙◌}
use mathlib.Core.Bool.{Bool, true, false}
use mathlib.Core.List.{List, [], ◌∷◌, ◌++◌, append-nil}
use native.Mathlib.Omega.{arith}
use native.Mathlib.Nat.{pow-suc}
use lib.Dec.{ltb}
use lib.ListN.{length, length-append}
use borrow.Author.Tests.{ltb-true, ltb-false}
use Rattle.byte.specs.Ascii.{bytes}
use Rattle.byte.specs.Byte.{pick}
use Rattle.names.specs.Names.{word_name}
use Rattle.decimal.specs.Decimal.{decimal, hex_digits}
use Rattle.decimal.proofs.Laws.{decimal-most, decimal-one-long, decimal-longer}
use Rattle.decimal.proofs.Fixed.{hex-length}
use Rattle.address.specs.declared.Kind.{Kind}
use Rattle.draw.specs.Parts.{joined}
use Rattle.escape.specs.Escape.{text_value}
use Rattle.draw.proofs.Parts.{joined-cons, joined-one, joined-append}
use Rattle.line.specs.Line.{secret_value, word_value, host_value, number_value, four_value, quad_value, kind_value}

pub secret-joined : joined secret_value ≡ bytes "_"
unfolding secret_value
secret-joined = joined-one (bytes "_")

pub word-joined : (key word : ℕ) → joined (word_value key word) ≡ word_name key word
unfolding word_value
word-joined key word = joined-one (word_name key word)

pub number-joined : (n : ℕ) → joined (number_value n) ≡ decimal n
unfolding number_value
number-joined n = joined-one (decimal n)

pub host-joined : (unix : Bool) (x : List ℕ) → joined (host_value unix x) ≡ pick unix (bytes "unix:") (bytes "tcp:") ++ joined (text_value x)
unfolding host_value
host-joined unix x = joined-cons (pick unix (bytes "unix:") (bytes "tcp:")) (text_value x)

-- parts with a byte between each two
four-parts : (a b c d : List ℕ) (x : ℕ) → joined (a ∷ (x ∷ []) ∷ b ∷ (x ∷ []) ∷ c ∷ (x ∷ []) ∷ d ∷ []) ≡ a ++ x ∷ (b ++ x ∷ (c ++ x ∷ d))
unfolding joined
four-parts a b c d x = rw (append-nil d)

pub four-joined : (n : ℕ) → joined (four_value n) ≡ decimal (n / 2 ^ 24) ++ 46 ∷ (decimal (n / 2 ^ 16 % 256) ++ 46 ∷ (decimal (n / 2 ^ 8 % 256) ++ 46 ∷ decimal (n % 256)))
unfolding four_value
four-joined n = four-parts (decimal (n / 2 ^ 24)) (decimal (n / 2 ^ 16 % 256)) (decimal (n / 2 ^ 8 % 256)) (decimal (n % 256)) 46

pub quad-joined : (n : ℕ) → joined (quad_value n)
    ≡ hex_digits false 4 (n / 2 ^ 48) ++ 58 ∷ (hex_digits false 4 (n / 2 ^ 32 % 2 ^ 16) ++ 58 ∷ (hex_digits false 4 (n / 2 ^ 16 % 2 ^ 16) ++ 58 ∷ hex_digits false 4 (n % 2 ^ 16)))
unfolding quad_value
quad-joined n = four-parts (hex_digits false 4 (n / 2 ^ 48)) (hex_digits false 4 (n / 2 ^ 32 % 2 ^ 16)) (hex_digits false 4 (n / 2 ^ 16 % 2 ^ 16)) (hex_digits false 4 (n % 2 ^ 16)) 58

pub v4-joined : (n : ℕ) → joined (kind_value (Kind.V4 n)) ≡ joined (four_value n)
unfolding kind_value
v4-joined n = refl

pub v6-joined : (high low : ℕ) → joined (kind_value (Kind.V6 high low)) ≡ joined (quad_value high) ++ 58 ∷ joined (quad_value low)
unfolding kind_value
v6-joined high low = joined-append (quad_value high) (bytes ":" ∷ quad_value low) ∙ ap (λ (l : List ℕ). joined (quad_value high) ++ l) (joined-cons (bytes ":") (quad_value low))

-- how many digits a number has
pub digits-most : (k n : ℕ) → n < 10 ^ 20 → n < 10 ^ suc k → length (decimal n) ≤ suc k
digits-most zero n h l = let s : n < 10 = l in omega (arith, decimal-one-long n s)
digits-most (suc k) n h l = by (ltb n 10) refl (digits-most k (n / 10) (omega arith) (omega (arith, pow-suc 10 (suc k))))
  where
    by : (t : Bool) → ltb n 10 ≡ t → length (decimal (n / 10)) ≤ suc k → length (decimal n) ≤ suc (suc k)
    by true e f = omega (arith, decimal-one-long n (ltb-true n 10 e))
    by false e f = omega (arith, decimal-longer n (ltb-false n 10 e) h)

-- an address takes at most 39 bytes
parts-size : (a b c d : List ℕ) (x : ℕ) → length (a ++ x ∷ (b ++ x ∷ (c ++ x ∷ d))) ≡ length a + length b + length c + length d + 3
parts-size a b c d x = omega (arith, length-append a (x ∷ (b ++ x ∷ (c ++ x ∷ d))), length-append b (x ∷ (c ++ x ∷ d)), length-append c (x ∷ d))

pub four-size : (n : ℕ) → length (joined (four_value n)) ≤ 32
four-size n =
    let few : (m : ℕ) → length (decimal (m % 256)) ≤ 3 = λ m. digits-most 2 (m % 256) (omega arith) (omega arith) in
    omega (arith, ap length (four-joined n), parts-size (decimal (n / 2 ^ 24)) (decimal (n / 2 ^ 16 % 256)) (decimal (n / 2 ^ 8 % 256)) (decimal (n % 256)) 46, decimal-most (n / 2 ^ 24), few (n / 2 ^ 16), few (n / 2 ^ 8), few n)

pub quad-size : (n : ℕ) → length (joined (quad_value n)) ≡ 19
quad-size n =
    omega (arith, ap length (quad-joined n), parts-size (hex_digits false 4 (n / 2 ^ 48)) (hex_digits false 4 (n / 2 ^ 32 % 2 ^ 16)) (hex_digits false 4 (n / 2 ^ 16 % 2 ^ 16)) (hex_digits false 4 (n % 2 ^ 16)) 58, hex-length false 4 (n / 2 ^ 48), hex-length false 4 (n / 2 ^ 32 % 2 ^ 16), hex-length false 4 (n / 2 ^ 16 % 2 ^ 16), hex-length false 4 (n % 2 ^ 16))

pub kind-size : (k : Kind) → length (joined (kind_value k)) ≤ 39
kind-size (Kind.V4 n) = omega (arith, ap length (v4-joined n), four-size n)
kind-size (Kind.V6 high low) = omega (arith, ap length (v6-joined high low), length-append (joined (quad_value high)) (58 ∷ joined (quad_value low)), quad-size high, quad-size low)
