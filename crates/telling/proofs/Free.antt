-- Texts that are free of a byte: keys have no `=`, and neither keys nor values have a line's end.
-- Assumes nothing.
use Prim.Native.Nat.{ℕ, ◌/◌, ◌%◌, ◌^◌, ◌<◌}
use mathlib.Core.Path.{◌≡◌, refl}
use mathlib.Core.Bool.{Bool, true, false}
use mathlib.Core.List.{List, [], ◌∷◌, ◌++◌}
use mathlib.Core.Logic.{◌⊎◌, inl, ⊎_elim}
use native.Mathlib.Omega.{arith}
use lib.Dec.{eqb}
use lib.ListN.{length}
use borrow.Author.Tests.{eqb-true}
use Rattle.byte.specs.Ascii.{bytes}
use Rattle.byte.specs.Byte.{pick}
use Rattle.byte.proofs.Laws.{In, between_in, and_left}
use Rattle.byte.proofs.Table.{every, holds_at}
use Rattle.names.specs.Names.{key_name, word_name, words_of}
use Rattle.split.specs.Split.{first_at}
use Rattle.split.proofs.Split.{Free, free-nil, free-cons, free-head, free-tail}
use Rattle.decimal.specs.Decimal.{decimal, hex_digits}
use Rattle.decimal.proofs.Each.{Each, HexByte}
use Rattle.decimal.proofs.Fixed.{hex-each}
use Rattle.decimal.proofs.Laws.{decimal-each}
use Rattle.address.specs.declared.Kind.{Kind}
use Rattle.draw.specs.Parts.{joined}
use Rattle.escape.specs.Escape.{plain, escape, text_value}
use Rattle.escape.proofs.Escape.{escape-plain, escape-other}
use Rattle.draw.proofs.Escape.{text-none, text-cons}
use Rattle.line.specs.Line.{secret_value, word_value, host_value, number_value, quad_value, kind_value}
use Rattle.line.proofs.Values.{secret-joined, word-joined, number-joined, host-joined, four-joined, quad-joined, v4-joined, v6-joined}
use Rattle.config.specs.Values.{HostValue, tcp, unix}
use Rattle.field.specs.Field.{named_host}
use Rattle.telling.specs.Ranged.{Small, SmallKind}

pub free-append : (b : ℕ) (s t : List ℕ) → Free b s → Free b t → Free b (s ++ t)
free-append b [] t f g = g
free-append b (a ∷ s) t f g = free-cons b a (s ++ t) (free-head b a s f) (free-append b s t (free-tail b a s f) g)

-- a byte that no member can be
pub each_free : (b : ℕ) (p : ℕ → Type 0) → ((a : ℕ) → p a → a ≡ b → ⊥) → (s : List ℕ) → Each p s → Free b s
each_free b p out [] f = free-nil b
each_free b p out (a ∷ s) f = free-cons b a s (out a f.0) (each_free b p out s f.1)

pub decimal-free : (b : ℕ) → (b < 48) ⊎ (57 < b) → (n : ℕ) → n < 10 ^ 20 → Free b (decimal n)
decimal-free b out n h = each_free b (In 48 57) (λ a i e. ⊎_elim (λ l. omega (arith, i.low)) (λ l. omega (arith, i.high)) out) (decimal n) (decimal-each n h)

-- bytes below `0`, and `:`, are no hex digit
low-hex-free : (b : ℕ) → b < 48 → (upper : Bool) (width n : ℕ) → Free b (hex_digits upper width n)
low-hex-free b h upper width n = each_free b (HexByte upper) (out upper) (hex_digits upper width n) (hex-each upper width n)
  where
    out : (u : Bool) (a : ℕ) → HexByte u a → a ≡ b → ⊥
    out true a i e = ⊎_elim (λ w. omega (arith, w.low)) (λ w. omega (arith, w.low)) i
    out false a i e = ⊎_elim (λ w. omega (arith, w.low)) (λ w. omega (arith, w.low)) i

pub colon-hex-free : (width n : ℕ) → Free 58 (hex_digits false width n)
colon-hex-free width n = each_free 58 (HexByte false) (λ a i e. ⊎_elim (λ w. omega (arith, w.high)) (λ w. omega (arith, w.low)) i) (hex_digits false width n) (hex-each false width n)

-- the keys
no-equals : ℕ → Bool
no-equals k = eqb (first_at 61 (key_name k)) (length (key_name k))

no_end : ℕ → Bool
no_end k = eqb (first_at 10 (key_name k)) (length (key_name k))

module _ (k : ℕ) (h : k < 20) where
  pub key-equals : Free 61 (key_name k)
  unfolding no-equals key_name first_at
  key-equals = record { none = eqb-true _ _ (holds_at 20 no-equals refl k h) }

  pub key-end : Free 10 (key_name k)
  unfolding no_end key_name first_at
  key-end = record { none = eqb-true _ _ (holds_at 20 no_end refl k h) }

-- the words
no-word-end : ℕ → Bool
no-word-end k = every 4 (λ (w : ℕ). eqb (first_at 10 (word_name k w)) (length (word_name k w)))

pub word_end : (k w : ℕ) → k < 20 → w < 4 → Free 10 (joined (word_value k w))
unfolding no-word-end word_name words_of first_at
word_end k w h l = rw (word-joined k w) (record { none = eqb-true _ _ (holds_at 4 (λ (v : ℕ). eqb (first_at 10 (word_name k v)) (length (word_name k v))) (holds_at 20 no-word-end refl k h) w l) })

-- values
escape_end : (b : ℕ) → Free 10 (escape b)
escape_end b = by (plain b) refl
  where
    by : (t : Bool) → plain b ≡ t → Free 10 (escape b)
    by true e =
        let i : In 0x21 0x7E b = between_in 0x21 0x7E b (and_left _ _ e) in
        rw (escape-plain b e) (free-cons 10 b [] (λ q. omega (arith, i.low)) (free-nil 10))
    by false e = rw (escape-other b e) (free-cons 10 37 (hex_digits true 2 b) (λ q. omega arith) (low-hex-free 10 (omega arith) true 2 b))

pub text-end : (x : List ℕ) → Free 10 (joined (text_value x))
text-end [] = rw text-none (free-nil 10)
text-end (a ∷ x) = rw (text-cons a x) (free-append 10 (escape a) (joined (text_value x)) (escape_end a) (text-end x))

pub secret-end : Free 10 (joined secret_value)
secret-end = rw secret-joined (free-cons 10 95 [] (λ q. omega arith) (free-nil 10))

pub number-end : (n : ℕ) → Small n → Free 10 (joined (number_value n))
number-end n h = rw (number-joined n) (decimal-free 10 (inl (omega arith)) n (omega arith))

kind-end : (u : Bool) → Free 10 (pick u (bytes "unix:") (bytes "tcp:"))
unfolding first_at
kind-end true = record { none = refl }
kind-end false = record { none = refl }

host-end : (u : Bool) (x : List ℕ) → Free 10 (joined (host_value u x))
host-end u x = rw (host-joined u x) (free-append 10 (pick u (bytes "unix:") (bytes "tcp:")) (joined (text_value x)) (kind-end u) (text-end x))

pub named_end : (h : HostValue) → Free 10 (joined (named_host h))
named_end (tcp x) = host-end false x
named_end (unix x) = host-end true x

-- four texts with a byte between each two
pub four-free : (b x : ℕ) (p q r s : List ℕ) → (x ≡ b → ⊥) → Free b p → Free b q → Free b r → Free b s → Free b (p ++ x ∷ (q ++ x ∷ (r ++ x ∷ s)))
four-free b x p q r s n f g h i =
    free-append b p (x ∷ (q ++ x ∷ (r ++ x ∷ s))) f (free-cons b x (q ++ x ∷ (r ++ x ∷ s)) n
    (free-append b q (x ∷ (r ++ x ∷ s)) g (free-cons b x (r ++ x ∷ s) n (free-append b r (x ∷ s) h (free-cons b x s n i)))))

pub kind-all-end : (k : Kind) → SmallKind k → Free 10 (joined (kind_value k))
kind-all-end (Kind.V4 n) h =
    let digits : (m : ℕ) → m < 10 ^ 20 → Free 10 (decimal m) = decimal-free 10 (inl (omega arith)) in
    rw (v4-joined n, four-joined n)
    (four-free 10 46 (decimal (n / 2 ^ 24)) (decimal (n / 2 ^ 16 % 256)) (decimal (n / 2 ^ 8 % 256)) (decimal (n % 256)) (λ e. omega arith)
    (digits (n / 2 ^ 24) (omega arith)) (digits (n / 2 ^ 16 % 256) (omega arith)) (digits (n / 2 ^ 8 % 256) (omega arith)) (digits (n % 256) (omega arith)))
kind-all-end (Kind.V6 high low) h = rw (v6-joined high low) (free-append 10 (joined (quad_value high)) (58 ∷ joined (quad_value low)) (quad high) (free-cons 10 58 (joined (quad_value low)) (λ e. omega arith) (quad low)))
  where
    hex : (m : ℕ) → Free 10 (hex_digits false 4 m)
    hex m = low-hex-free 10 (omega arith) false 4 m

    quad : (n : ℕ) → Free 10 (joined (quad_value n))
    quad n =
        rw (quad-joined n)
        (four-free 10 58 (hex_digits false 4 (n / 2 ^ 48)) (hex_digits false 4 (n / 2 ^ 32 % 2 ^ 16)) (hex_digits false 4 (n / 2 ^ 16 % 2 ^ 16)) (hex_digits false 4 (n % 2 ^ 16)) (λ e. omega arith)
        (hex (n / 2 ^ 48)) (hex (n / 2 ^ 32 % 2 ^ 16)) (hex (n / 2 ^ 16 % 2 ^ 16)) (hex (n % 2 ^ 16)))
