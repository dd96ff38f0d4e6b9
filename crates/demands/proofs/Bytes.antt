-- A text of UTF-8 is a text of bytes, and so is every value that its reading hands out.
-- Assumes nothing.
use Prim.Native.Nat.{ℕ, zero, suc, ◌+◌, ◌-◌, ◌*◌, ◌≤◌, ◌<◌}
use mathlib.Core.Path.{◌≡◌, refl, sym, subst}
use mathlib.Core.Bool.{Bool, true, false, ◌&&◌}
use mathlib.Core.List.{List, [], ◌∷◌, ◌++◌}
use native.Mathlib.Omega.{arith}
use lib.Dec.{eqb}
use lib.ListN.{drop, length, get_or}
use borrow.Author.Tests.{ltb-true, eqb-false}
use Rattle.byte.specs.Byte.{pick, part_of}
use Rattle.byte.specs.Digit.{digit_of}
use Rattle.byte.specs.Ascii.{bytes}
use Rattle.byte.proofs.Laws.{and_left, and_right}
use Rattle.utf8.specs.Utf8.{well_formed}
use Rattle.utf8.specs.Grammar.{UTF8-1, UTF8-2, UTF8-3, UTF8-4, UTF8-char, UTF8-octets}
use Rattle.utf8.proofs.Grammar.{well-octets}
use Rattle.percent.specs.declared.Piece.{Piece}
use Rattle.percent.specs.Percent.{is_hex, piece_of, piece_at, decoded_from, decoded}
use Rattle.names.specs.Find.{prefix_len}
use Rattle.names.proofs.Prefix.{prefix-long}
use Rattle.setting.specs.Setting.{Setting, value_of, Reading}
use Rattle.keyvalue.specs.KeyValue.{unescaped_from, key_value}
use Rattle.url_parser.specs.declared.Stage.{Stage}
use Rattle.url_parser.specs.declared.Url.{Url}
use Rattle.url_parser.specs.declared.Found.{Found}
use Rattle.std.proofs.Common.{Ok, Err, Some, None}
use Rattle.url_parser.specs.Step.{UrlStep, url, value_in}
use Rattle.url_parser.specs.Uri.{uri}
use Rattle.url_parser.proofs.Reading.{reading-start}
use Rattle.telling.specs.Bound.{All}
use Rattle.telling.specs.Ranged.{Bytes}
use Rattle.telling.proofs.Shown.{all_take, all_drop}
use Rattle.outcome.specs.Outcome.{reading}
use Rattle.taking.specs.Taking.{next_at, value_at}
use Rattle.taking.proofs.Next.{from, measure, Next, next-found, next-over, next-refused}

-- what holds of both holds of the one that is picked
pub picked : {A : Type 0} (p : A → Type 0) (t : Bool) (x y : A) → p x → p y → p (pick t x y)
picked p true x y h k = h
picked p false x y h k = k

pub all_append : (p : ℕ → Type 0) (s t : List ℕ) → All p s → All p t → All p (s ++ t)
all_append p [] t h k = k
all_append p (a ∷ s) t h k = (h.0, all_append p s t h.1 k)

-- the bytes of the grammar's forms
char-bytes : {x : List ℕ} → UTF8-char x → Bytes x
char-bytes (UTF8-char.one (UTF8-1.ascii a)) = (omega (arith, a.high), tt)
char-bytes (UTF8-char.two (UTF8-2.from-c2 a b)) = (omega (arith, a.high), (omega (arith, b.high), tt))
char-bytes (UTF8-char.three (UTF8-3.at-e0 b c)) = (omega arith, (omega (arith, b.high), (omega (arith, c.high), tt)))
char-bytes (UTF8-char.three (UTF8-3.from-e1 a b c)) = (omega (arith, a.high), (omega (arith, b.high), (omega (arith, c.high), tt)))
char-bytes (UTF8-char.three (UTF8-3.at-ed b c)) = (omega arith, (omega (arith, b.high), (omega (arith, c.high), tt)))
char-bytes (UTF8-char.three (UTF8-3.from-ee a b c)) = (omega (arith, a.high), (omega (arith, b.high), (omega (arith, c.high), tt)))
char-bytes (UTF8-char.four (UTF8-4.at-f0 b c d)) = (omega arith, (omega (arith, b.high), (omega (arith, c.high), (omega (arith, d.high), tt))))
char-bytes (UTF8-char.four (UTF8-4.from-f1 a b c d)) = (omega (arith, a.high), (omega (arith, b.high), (omega (arith, c.high), (omega (arith, d.high), tt))))
char-bytes (UTF8-char.four (UTF8-4.at-f4 b c d)) = (omega arith, (omega (arith, b.high), (omega (arith, c.high), (omega (arith, d.high), tt))))

octets-bytes : {s : List ℕ} → UTF8-octets s → Bytes s
octets-bytes UTF8-octets.done = tt
octets-bytes (UTF8-octets.more {x} {s} c o) = all_append _ x s (char-bytes c) (octets-bytes o)

pub well-bytes : (s : List ℕ) → well_formed s ≡ true → Bytes s
well-bytes s e = octets-bytes (well-octets s e)

-- a part, once decoded either way
part_bytes : (a e : ℕ) (s : List ℕ) → Bytes s → Bytes (part_of a e s)
unfolding part_of
part_bytes a e s h = all_take _ (e - a) (drop a s) (all_drop _ a s h)

unescaped-bytes : (s : List ℕ) (behind : Bool) → Bytes s → Bytes (unescaped_from behind s)
unfolding unescaped_from
unescaped-bytes [] true h = tt
unescaped-bytes [] false h = tt
unescaped-bytes (a ∷ s) true h = (h.0, unescaped-bytes s false h.1)
unescaped-bytes (a ∷ s) false h = picked Bytes (eqb a 92) _ _ (unescaped-bytes s true h.1) (h.0, unescaped-bytes s false h.1)

piece_byte : (a b c : ℕ) → a < 256 → (piece_of a b c).byte < 256
unfolding piece_of
piece_byte a b c h = by (eqb a 37 && is_hex b && is_hex c) refl
  where
    by : (t : Bool) → eqb a 37 && is_hex b && is_hex c ≡ t → (pick {A = Piece} t (record { byte = digit_of b * 16 + digit_of c; skip = 2 }) (record { byte = a; skip = 0 })).byte < 256
    by true e = omega (arith, ltb-true (digit_of b) 16 (and_right (eqb a 37) _ (and_left _ _ e)), ltb-true (digit_of c) 16 (and_right (eqb a 37 && is_hex b) _ e))
    by false e = h

decoded-from : (s : List ℕ) (k : ℕ) → Bytes s → Bytes (decoded_from k s)
unfolding decoded_from piece_at
decoded-from [] zero h = tt
decoded-from [] (suc k) h = tt
decoded-from (a ∷ s) (suc k) h = decoded-from s k h.1
decoded-from (a ∷ s) zero h = (piece_byte a (get_or s 0 0) (get_or s 1 0) h.0, decoded-from s _ h.1)

decoded-bytes : (s : List ℕ) → Bytes s → Bytes (decoded s)
unfolding decoded
decoded-bytes s h = decoded-from s 0 h

-- every setting's value
abbrev pub Valued : List Setting → Type 0
Valued [] = Unit {0}
Valued (x ∷ xs) = Bytes (value_of x) × Valued xs

module _ (s : List ℕ) (bs : Bytes s) where
  fixed-bytes : Bytes (bytes "5432")
  fixed-bytes = (omega arith, (omega arith, (omega arith, (omega arith, tt))))

  value-bytes : (is_uri : Bool) (f : Found) → Bytes (value_at s is_uri f)
  unfolding value_in
  value-bytes true f = picked Bytes f.fixed (bytes "5432") _ fixed-bytes (decoded-bytes _ (part_bytes f.from f.to s bs))
  value-bytes false f = unescaped-bytes _ false (part_bytes f.from f.to s bs)

  module _ (is_uri : Bool) where
    valued-below : (n : ℕ) (u : Url) → u.at ≤ length s → measure s is_uri u < n → Valued (from s is_uri u).settings
    valued-below zero u h l = absurd (omega arith)
    valued-below (suc n) u h l = by (next_at s is_uri u) refl (valued-below n)
      where
        by : (step : UrlStep) → next_at s is_uri u ≡ step
            → ((w : Url) → w.at ≤ length s → measure s is_uri w < n → Valued (from s is_uri w).settings)
            → Valued (from s is_uri u).settings
        by (Err None) e below = subst (λ (r : Reading). Valued r.settings) (sym (next-over s is_uri u h e)) tt
        by (Err (Some x)) e below = subst (λ (r : Reading). Valued r.settings) (sym (next-refused s is_uri u x h e)) tt
        by (Ok f) e below =
            let x : Next s is_uri u f = next-found s is_uri u f h e in
            subst (λ (r : Reading). Valued r.settings) (sym x.reads)
            (subst Bytes (sym x.value) (value-bytes is_uri f), below f.next x.inside (omega (arith, x.falls)))

    valued-from : (u : Url) → u.at ≤ length s → Valued (from s is_uri u).settings
    valued-from u h = valued-below (suc (measure s is_uri u)) u h (omega arith)

  pub valued : Valued (reading s).settings
  unfolding reading from
  valued = by (eqb (prefix_len s) 0) refl
    where
      by : (k : Bool) → eqb (prefix_len s) 0 ≡ k → Valued (pick k (key_value s) (uri (drop (prefix_len s) s))).settings
      by true e = valued-from false (url Stage.Credentials 0) (omega arith)
      by false e =
          subst (λ (r : Reading). Valued r.settings) (reading-start s (prefix_len s))
          (valued-from true (url Stage.Credentials (prefix_len s)) (prefix-long s (eqb-false (prefix_len s) 0 e)).1)
