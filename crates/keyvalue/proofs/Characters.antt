-- Document 01 goes by characters, the rules here by bytes: on a text that is written from code points, as every well formed text is
-- (well-codes and well-scalars of crate utf8), both come to the same. A scan from where a character begins takes the characters of 01's
-- rule, whole, and ends where one begins; the tests for `=` and `'` there are tests of the character; a decoded value is the same.
-- Assumes nothing.
use mathlib.Core.Path.{◌≡◌, refl, sym, ap, ◌∙◌}
use mathlib.Core.Bool.{Bool, true, false, ◌||◌}
use mathlib.Core.List.{List, [], ◌∷◌, ◌++◌, append_assoc}
use Prim.Native.Nat.{ℕ, suc, ◌+◌, ◌/◌, ◌%◌, ◌<◌, ◌≤◌}
use native.Mathlib.Omega.{arith}
use lib.Dec.{leb, eqb}
use lib.ListN.{length, get_or, take, drop, length-append}
use lib.Seq.{take-append_seam, drop-append_seam}
use borrow.Author.Tests.{leb-true, leb-false, le-ltb, eqb-true, eqb-false, ne_eqb}
use Rattle.byte.specs.Byte.{pick}
use Rattle.byte.proofs.Laws.{below-between}
use Rattle.utf8.specs.declared.Char.{Char}
use Rattle.utf8.specs.Utf8.{char_at, char_of, longer, none}
use Rattle.utf8.specs.Scalar.{Scalar, Scalars, encoded, encoded_all}
use Rattle.utf8.proofs.Scalar.{read-encoded}
use Rattle.space.specs.Space.{is_space}
use Rattle.space.proofs.Marks.{nul}
use Rattle.keyvalue.specs.Scan.{run_from, run, starts_space, space_len, ends_key, key_len, piece_len, until, starts_quote, simple_len, quoted_len}
use Rattle.keyvalue.specs.KeyValue.{unescaped_from, unescaped}
use Rattle.scan.proofs.Runs.{run-stop, run_more}

-- the same rules on code points: "Skip white space; a key runs to white space or `=`."
unfoldable pub space_chars : List ℕ → List ℕ
space_chars [] = []
space_chars (c ∷ cs) = pick (is_space c) (c ∷ space_chars cs) []

unfoldable pub key_chars : List ℕ → List ℕ
key_chars [] = []
key_chars (c ∷ cs) = pick (is_space c || eqb c 61) [] (c ∷ key_chars cs)

-- "After `'` the value runs to the next unescaped `'`; otherwise to white space.": the flag tells whether a backslash stands before
unfoldable pub value_chars : (ℕ → Bool) → Bool → List ℕ → List ℕ
value_chars ends behind [] = []
value_chars ends true (c ∷ cs) = c ∷ value_chars ends false cs
value_chars ends false (c ∷ cs) = pick (ends c) [] (c ∷ value_chars ends (eqb c 92) cs)

-- the bytes of a character: ASCII is a byte by itself; any other character has a first byte and further ones, none of which is ASCII
data Tails : List ℕ → Type 0 where
  last : Tails []
  tail : {t : ℕ} {ts : List ℕ} → 0x80 ≤ t → t < 0xc0 → Tails ts → Tails (t ∷ ts)

data Form (c : ℕ) : List ℕ → Type 0 where
  ascii : c < 0x80 → Form c (c ∷ [])
  wide : (b : ℕ) (ts : List ℕ) → 0x80 ≤ c → 0xc0 ≤ b → Tails ts → Form c (b ∷ ts)

form : (c : ℕ) → Form c (encoded c)
unfolding encoded
form c = by (leb c 0x7f) (leb c 0x7ff) (leb c 0xffff) refl
  where
    one : (x : ℕ) {ts : List ℕ} → Tails ts → Tails ((0x80 + x % 64) ∷ ts)
    one x r = Tails.tail {t = 0x80 + x % 64} (omega arith) (omega arith) r

    by : (p q r : Bool) → leb c 0x7f ≡ p
        → Form c (pick p (c ∷ []) (pick q ((0xc0 + c / 64) ∷ (0x80 + c % 64) ∷ []) (pick r ((0xe0 + c / 4096) ∷ (0x80 + c / 64 % 64) ∷ (0x80 + c % 64) ∷ []) ((0xf0 + c / 262144) ∷ (0x80 + c / 4096 % 64) ∷ (0x80 + c / 64 % 64) ∷ (0x80 + c % 64) ∷ []))))
    by true q r e = ascii (omega (arith, leb-true c 0x7f e))
    by false true r e = wide (0xc0 + c / 64) _ (leb-false c 0x7f e) (omega arith) (one c Tails.last)
    by false false true e = wide (0xe0 + c / 4096) _ (leb-false c 0x7f e) (omega arith) (one (c / 64) (one c Tails.last))
    by false false false e = wide (0xf0 + c / 262144) _ (leb-false c 0x7f e) (omega arith) (one (c / 4096) (one (c / 64) (one c Tails.last)))

-- white space at a character, and inside one
space-at : (c : ℕ) → Scalar c → (s : List ℕ) → starts_space (encoded c ++ s) ≡ is_space c
unfolding starts_space
space-at c h s = ap (λ (x : Char). is_space x.code) (read-encoded c h s)

space-len : (c : ℕ) → Scalar c → (s : List ℕ) → space_len (encoded c ++ s) ≡ pick (is_space c) (length (encoded c)) 0
unfolding space_len
space-len c h s = rw (space-at c h s) (ap (λ (x : Char). pick (is_space c) x.len 0) (read-encoded c h s))

inside-none : (t : ℕ) (s : List ℕ) → 0x80 ≤ t → t < 0xc0 → char_at (t ∷ s) ≡ none
unfolding char_at char_of longer
inside-none t s l h = rw (le-ltb t 0x80 l, below-between 0xc2 0xdf t (omega arith), below-between 0xe0 0xef t (omega arith), below-between 0xf0 0xf4 t (omega arith))

inside-space : (t : ℕ) (s : List ℕ) → 0x80 ≤ t → t < 0xc0 → starts_space (t ∷ s) ≡ false
unfolding starts_space
inside-space t s l h = ap (λ (x : Char). is_space x.code) (inside-none t s l h) ∙ nul

-- a rule that takes each byte inside a character by itself goes on behind the character
pass : (f : List ℕ → ℕ) → ((t : ℕ) (s : List ℕ) → 0x80 ≤ t → t < 0xc0 → f (t ∷ s) ≡ 1) → {ts : List ℕ} → Tails ts → (s : List ℕ) → run f (ts ++ s) ≡ length ts + run f s
pass f one Tails.last s = omega arith
pass f one (Tails.tail {t} {ts} l h r) s = omega (arith, run_more f (t ∷ ts ++ s) 1 (one t (ts ++ s) l h) (omega arith) (omega arith), pass f one r s)

-- a character goes by whole where the rule takes its first byte by itself
pass-char : (f : List ℕ → ℕ) → ((t : ℕ) (s : List ℕ) → 0x80 ≤ t → t < 0xc0 → f (t ∷ s) ≡ 1) → {c : ℕ} (x s : List ℕ) → Form c x → f (x ++ s) ≡ 1 → run f (x ++ s) ≡ length x + run f s
pass-char f one {c} x s (ascii l) e = run_more f (c ∷ s) 1 e (omega arith) (omega arith)
pass-char f one x s (wide b ts l g r) e = omega (arith, run_more f (b ∷ ts ++ s) 1 e (omega arith) (omega arith), pass f one r s)

-- an ASCII character is told from any other by the first byte
head-is : (c k : ℕ) → k < 0x80 → (x s : List ℕ) → Form c x → eqb (get_or (x ++ s) 0 0) k ≡ eqb c k
head-is c k h x s (ascii l) = refl
head-is c k h x s (wide b ts l g r) = ne_eqb b k (λ e. omega arith) ∙ sym (ne_eqb c k (λ e. omega arith))

-- white space: a character of it is one unit
space-char : {c : ℕ} (x s : List ℕ) → Form c x → space_len (x ++ s) ≡ length x → run space_len (x ++ s) ≡ length x + run space_len s
space-char {c} x s (ascii l) e = run_more space_len (c ∷ s) 1 e (omega arith) (omega arith)
space-char x s (wide b ts l g r) e =
    run_more space_len (b ∷ ts ++ s) (suc (length ts)) e (omega arith) (omega (arith, length-append ts s))
    ∙ ap (λ (u : List ℕ). suc (length ts) + run space_len u) (drop-append_seam ts s)

space-chars : {cs : List ℕ} → Scalars cs → run space_len (encoded_all cs) ≡ length (encoded_all (space_chars cs))
unfolding encoded_all space_chars run_from
space-chars Scalars.none = refl
space-chars (Scalars.more {c} {cs} h r) = by (is_space c) refl (space-chars r)
  where
    by : (t : Bool) → is_space c ≡ t → run space_len (encoded_all cs) ≡ length (encoded_all (space_chars cs))
        → run space_len (encoded c ++ encoded_all cs) ≡ length (encoded_all (pick t (c ∷ space_chars cs) []))
    by true e i =
        space-char (encoded c) (encoded_all cs) (form c) (space-len c h (encoded_all cs) ∙ rw e)
        ∙ ap (λ (n : ℕ). length (encoded c) + n) i ∙ sym (length-append (encoded c) (encoded_all (space_chars cs)))
    by false e i = run-stop space_len (encoded c ++ encoded_all cs) (space-len c h (encoded_all cs) ∙ rw e)

-- a key
ends-key-at : (c : ℕ) → Scalar c → (s : List ℕ) → ends_key (encoded c ++ s) ≡ is_space c || eqb c 61
unfolding ends_key
ends-key-at c h s = rw (space-at c h s, head-is c 61 (omega arith) (encoded c) s (form c))

key-unit : {c : ℕ} (x s : List ℕ) → Form c x → key_len (x ++ s) ≡ pick (ends_key (x ++ s)) 0 1
unfolding key_len
key-unit x s (ascii l) = refl
key-unit x s (wide b ts l g r) = refl

key-inside : (t : ℕ) (s : List ℕ) → 0x80 ≤ t → t < 0xc0 → key_len (t ∷ s) ≡ 1
unfolding key_len ends_key
key-inside t s l h = rw (inside-space t s l h, ne_eqb t 61 (λ e. omega arith))

key-chars : {cs : List ℕ} → Scalars cs → run key_len (encoded_all cs) ≡ length (encoded_all (key_chars cs))
unfolding encoded_all key_chars run_from
key-chars Scalars.none = refl
key-chars (Scalars.more {c} {cs} h r) = by (is_space c || eqb c 61) (key-unit (encoded c) (encoded_all cs) (form c) ∙ ap (λ (b : Bool). pick b 0 1) (ends-key-at c h (encoded_all cs))) (key-chars r)
  where
    by : (t : Bool) → key_len (encoded c ++ encoded_all cs) ≡ pick t 0 1 → run key_len (encoded_all cs) ≡ length (encoded_all (key_chars cs))
        → run key_len (encoded c ++ encoded_all cs) ≡ length (encoded_all (pick t [] (c ∷ key_chars cs)))
    by true e i = run-stop key_len (encoded c ++ encoded_all cs) e
    by false e i =
        pass-char key_len key-inside (encoded c) (encoded_all cs) (form c) e
        ∙ ap (λ (n : ℕ). length (encoded c) + n) i ∙ sym (length-append (encoded c) (encoded_all (key_chars cs)))

-- values
piece-one : (b : ℕ) (t : List ℕ) → (b ≡ 92 → ⊥) → piece_len (b ∷ t) ≡ 1
unfolding piece_len
piece-one b [] n = refl
piece-one b (d ∷ t) n = rw (ne_eqb b 92 n)

piece-char : {c : ℕ} (x s : List ℕ) → Form c x → (c ≡ 92 → ⊥) → piece_len (x ++ s) ≡ 1
piece-char {c} x s (ascii l) n = piece-one c s n
piece-char x s (wide b ts l g r) n = piece-one b (ts ++ s) (λ e. omega arith)

backslash : encoded 92 ≡ 92 ∷ []
unfolding encoded
backslash = refl

module _ (ends : List ℕ → Bool) (ends_char : ℕ → Bool) (agree : (c : ℕ) → Scalar c → (s : List ℕ) → ends (encoded c ++ s) ≡ ends_char c)
    (inside : (t : ℕ) (s : List ℕ) → 0x80 ≤ t → t < 0xc0 → ends (t ∷ s) ≡ false) where
  value-inside : (t : ℕ) (s : List ℕ) → 0x80 ≤ t → t < 0xc0 → until ends (t ∷ s) ≡ 1
  value-inside t s l h = rw (inside t s l h) (piece-one t s (λ e. omega arith))

  -- a backslash and the character behind it
  escaped-char : {d : ℕ} (x s : List ℕ) → Form d x → ends (92 ∷ x ++ s) ≡ false → run (until ends) (92 ∷ x ++ s) ≡ suc (length x + run (until ends) s)
  unfolding piece_len
  escaped-char {d} x s (ascii l) e = omega (arith, run_more (until ends) (92 ∷ d ∷ s) 2 (rw e) (omega arith) (omega arith))
  escaped-char x s (wide b ts l g r) e = omega (arith, run_more (until ends) (92 ∷ b ∷ ts ++ s) 2 (rw e) (omega arith) (omega arith), pass (until ends) value-inside r s)

  alone : ends (92 ∷ []) ≡ false → run (until ends) (92 ∷ []) ≡ 1
  unfolding run_from piece_len
  alone e = rw e

  at-backslash : (s : List ℕ) → ends_char 92 ≡ false → ends (92 ∷ s) ≡ false
  unfolding encoded
  at-backslash s e = agree 92 (record { most = omega arith; no_surrogate = λ l. omega arith }) s ∙ e

  -- the last character
  last-char : (c : ℕ) → Scalar c → (t : Bool) → ends_char c ≡ t → (q : Bool) → eqb c 92 ≡ q
      → run (until ends) (encoded c ++ []) ≡ length (encoded_all (pick t [] (c ∷ [])))
  unfolding encoded_all run_from encoded
  last-char c h true e q b = run-stop (until ends) (encoded c ++ []) (rw (agree c h [] ∙ e))
  last-char c h false e true b = rw (eqb-true c 92 b) (alone (at-backslash [] (rw (eqb-true c 92 b) at e)))
  last-char c h false e false b =
      pass-char (until ends) value-inside (encoded c) [] (form c) (rw (agree c h [] ∙ e) (piece-char (encoded c) [] (form c) (eqb-false c 92 b)))
      ∙ sym (length-append (encoded c) [])

  -- a character before another
  next-char : (c d : ℕ) (ds : List ℕ) → Scalar c → (t : Bool) → ends_char c ≡ t → (q : Bool) → eqb c 92 ≡ q
      → run (until ends) (encoded_all (d ∷ ds)) ≡ length (encoded_all (value_chars ends_char false (d ∷ ds)))
      → run (until ends) (encoded_all ds) ≡ length (encoded_all (value_chars ends_char false ds))
      → run (until ends) (encoded c ++ encoded_all (d ∷ ds)) ≡ length (encoded_all (pick t [] (c ∷ value_chars ends_char q (d ∷ ds))))
  unfolding encoded_all run_from value_chars
  next-char c d ds h true e q b i j = run-stop (until ends) (encoded c ++ encoded_all (d ∷ ds)) (rw (agree c h (encoded_all (d ∷ ds)) ∙ e))
  next-char c d ds h false e true b i j =
      let is : encoded c ≡ 92 ∷ [] = ap encoded (eqb-true c 92 b) ∙ backslash in
      let on : ends (92 ∷ encoded d ++ encoded_all ds) ≡ false = at-backslash (encoded d ++ encoded_all ds) (rw (eqb-true c 92 b) at e) in
      rw is (escaped-char (encoded d) (encoded_all ds) (form d) on
      ∙ ap (λ (n : ℕ). suc (length (encoded d) + n)) j ∙ ap suc (sym (length-append (encoded d) (encoded_all (value_chars ends_char false ds)))))
  next-char c d ds h false e false b i j =
      pass-char (until ends) value-inside (encoded c) (encoded_all (d ∷ ds)) (form c) (rw (agree c h (encoded_all (d ∷ ds)) ∙ e) (piece-char (encoded c) (encoded_all (d ∷ ds)) (form c) (eqb-false c 92 b)))
      ∙ ap (λ (n : ℕ). length (encoded c) + n) i ∙ sym (length-append (encoded c) (encoded_all (value_chars ends_char false (d ∷ ds))))

  value-chars : {cs : List ℕ} → Scalars cs → run (until ends) (encoded_all cs) ≡ length (encoded_all (value_chars ends_char false cs))
  unfolding encoded_all value_chars run_from
  value-chars Scalars.none = refl
  value-chars (Scalars.more {c} h Scalars.none) = last-char c h (ends_char c) refl (eqb c 92) refl
  value-chars (Scalars.more {c} h (Scalars.more {c = d} {cs = ds} k r)) = next-char c d ds h (ends_char c) refl (eqb c 92) refl (value-chars (Scalars.more k r)) (value-chars r)

-- a quote at a character, and inside one
quote-at : (c : ℕ) → Scalar c → (s : List ℕ) → starts_quote (encoded c ++ s) ≡ eqb c 39
unfolding starts_quote
quote-at c h s = head-is c 39 (omega arith) (encoded c) s (form c)

inside-quote : (t : ℕ) (s : List ℕ) → 0x80 ≤ t → t < 0xc0 → starts_quote (t ∷ s) ≡ false
unfolding starts_quote
inside-quote t s l h = ne_eqb t 39 (λ e. omega arith)

simple-chars : {cs : List ℕ} → Scalars cs → run simple_len (encoded_all cs) ≡ length (encoded_all (value_chars is_space false cs))
simple-chars r = value-chars starts_space is_space space-at inside-space r

quoted-chars : {cs : List ℕ} → Scalars cs → run quoted_len (encoded_all cs) ≡ length (encoded_all (value_chars (λ (c : ℕ). eqb c 39) false cs))
quoted-chars r = value-chars starts_quote (λ (c : ℕ). eqb c 39) quote-at inside-quote r

-- what a value comes to: the same rule, on bytes and on code points
kept-tails : {ts : List ℕ} → Tails ts → (s : List ℕ) → unescaped_from false (ts ++ s) ≡ ts ++ unescaped_from false s
unfolding unescaped_from
kept-tails Tails.last s = refl
kept-tails (Tails.tail {t} {ts} l h r) s = rw (ne_eqb t 92 (λ e. omega arith)) (ap (λ (v : List ℕ). t ∷ v) (kept-tails r s))

kept-char : (c : ℕ) (x s : List ℕ) → Form c x → unescaped_from true (x ++ s) ≡ x ++ unescaped_from false s
unfolding unescaped_from
kept-char c x s (ascii l) = refl
kept-char c x s (wide b ts l g r) = ap (λ (v : List ℕ). b ∷ v) (kept-tails r s)

plain-char : (c : ℕ) (x s : List ℕ) → Form c x → (c ≡ 92 → ⊥) → unescaped_from false (x ++ s) ≡ x ++ unescaped_from false s
unfolding unescaped_from
plain-char c x s (ascii l) n = rw (ne_eqb c 92 n)
plain-char c x s (wide b ts l g r) n = rw (ne_eqb b 92 (λ e. omega arith)) (ap (λ (v : List ℕ). b ∷ v) (kept-tails r s))

escape-char : (c : ℕ) (s : List ℕ) → c ≡ 92 → unescaped_from false (encoded c ++ s) ≡ unescaped_from true s
unfolding unescaped_from
escape-char c s e = rw (e, backslash)

chars-from : (behind : Bool) (cs : List ℕ) → unescaped_from behind (encoded_all cs) ≡ encoded_all (unescaped_from behind cs)
unfolding unescaped_from encoded_all
chars-from behind [] = refl
chars-from true (c ∷ cs) = kept-char c (encoded c) (encoded_all cs) (form c) ∙ ap (λ (v : List ℕ). encoded c ++ v) (chars-from false cs)
chars-from false (c ∷ cs) = by (eqb c 92) refl (chars-from true cs) (chars-from false cs)
  where
    by : (t : Bool) → eqb c 92 ≡ t → unescaped_from true (encoded_all cs) ≡ encoded_all (unescaped_from true cs) → unescaped_from false (encoded_all cs) ≡ encoded_all (unescaped_from false cs)
        → unescaped_from false (encoded c ++ encoded_all cs) ≡ encoded_all (pick t (unescaped_from true cs) (c ∷ unescaped_from false cs))
    by true e i j = escape-char c (encoded_all cs) (eqb-true c 92 e) ∙ i
    by false e i j = plain-char c (encoded c) (encoded_all cs) (form c) (eqb-false c 92 e) ∙ ap (λ (v : List ℕ). encoded c ++ v) j

pub unescaped-chars : (cs : List ℕ) → unescaped (encoded_all cs) ≡ encoded_all (unescaped cs)
unescaped-chars cs = chars-from false cs

-- an ASCII character is looked for by its byte
pub char-at : (c : ℕ) (cs : List ℕ) (k : ℕ) → k < 0x80 → eqb (get_or (encoded_all (c ∷ cs)) 0 0) k ≡ eqb c k
unfolding encoded_all
char-at c cs k h = head-is c k h (encoded c) (encoded_all cs) (form c)

-- a scan takes the characters x from the front of cs, and leaves the others
pub record Takes (rule : List ℕ → ℕ) (cs x : List ℕ) : Type 0 where
  pub rest : List ℕ
  pub split : x ++ rest ≡ cs
  pub taken : take (run rule (encoded_all cs)) (encoded_all cs) ≡ encoded_all x
  pub left : drop (run rule (encoded_all cs)) (encoded_all cs) ≡ encoded_all rest

record Front (x cs : List ℕ) : Type 0 where
  rest : List ℕ
  split : x ++ rest ≡ cs

longer-front : (c : ℕ) {x cs : List ℕ} → Front x cs → Front (c ∷ x) (c ∷ cs)
longer-front c f = record { rest = f.rest; split = ap (λ (l : List ℕ). c ∷ l) f.split }

no_front : (cs : List ℕ) → Front [] cs
no_front cs = record { rest = cs; split = refl }

space-front : (cs : List ℕ) → Front (space_chars cs) cs
unfolding space_chars
space-front [] = no_front []
space-front (c ∷ cs) = by (is_space c) (space-front cs)
  where
    by : (t : Bool) → Front (space_chars cs) cs → Front (pick t (c ∷ space_chars cs) []) (c ∷ cs)
    by true f = longer-front c f
    by false f = no_front (c ∷ cs)

key-front : (cs : List ℕ) → Front (key_chars cs) cs
unfolding key_chars
key-front [] = no_front []
key-front (c ∷ cs) = by (is_space c || eqb c 61) (key-front cs)
  where
    by : (t : Bool) → Front (key_chars cs) cs → Front (pick t [] (c ∷ key_chars cs)) (c ∷ cs)
    by true f = no_front (c ∷ cs)
    by false f = longer-front c f

value-front : (ends : ℕ → Bool) (behind : Bool) (cs : List ℕ) → Front (value_chars ends behind cs) cs
unfolding value_chars
value-front ends behind [] = no_front []
value-front ends true (c ∷ cs) = longer-front c (value-front ends false cs)
value-front ends false (c ∷ cs) = by (ends c) (value-front ends (eqb c 92) cs)
  where
    by : (t : Bool) → Front (value_chars ends (eqb c 92) cs) cs → Front (pick t [] (c ∷ value_chars ends (eqb c 92) cs)) (c ∷ cs)
    by true f = no_front (c ∷ cs)
    by false f = longer-front c f

all_append : (x y : List ℕ) → encoded_all (x ++ y) ≡ encoded_all x ++ encoded_all y
unfolding encoded_all
all_append [] y = refl
all_append (c ∷ x) y = ap (λ (l : List ℕ). encoded c ++ l) (all_append x y) ∙ sym (append_assoc (encoded c) (encoded_all x) (encoded_all y))

takes : (rule : List ℕ → ℕ) (cs x : List ℕ) → run rule (encoded_all cs) ≡ length (encoded_all x) → Front x cs → Takes rule cs x
takes rule cs x e f =
    let both : encoded_all cs ≡ encoded_all x ++ encoded_all f.rest = ap encoded_all (sym f.split) ∙ all_append x f.rest in
    record {
      rest = f.rest;
      split = f.split;
      taken = ap (λ (n : ℕ). take n (encoded_all cs)) e ∙ ap (take (length (encoded_all x))) both ∙ take-append_seam (encoded_all x) (encoded_all f.rest);
      left = ap (λ (n : ℕ). drop n (encoded_all cs)) e ∙ ap (drop (length (encoded_all x))) both ∙ drop-append_seam (encoded_all x) (encoded_all f.rest);
    }

module _ (cs : List ℕ) (r : Scalars cs) where
  pub space-takes : Takes space_len cs (space_chars cs)
  space-takes = takes space_len cs (space_chars cs) (space-chars r) (space-front cs)

  pub key-takes : Takes key_len cs (key_chars cs)
  key-takes = takes key_len cs (key_chars cs) (key-chars r) (key-front cs)

  pub simple-takes : Takes simple_len cs (value_chars is_space false cs)
  simple-takes = takes simple_len cs (value_chars is_space false cs) (simple-chars r) (value-front is_space false cs)

  pub quoted-takes : Takes quoted_len cs (value_chars (λ (c : ℕ). eqb c 39) false cs)
  quoted-takes = takes quoted_len cs (value_chars (λ (c : ℕ). eqb c 39) false cs) (quoted-chars r) (value-front (λ (c : ℕ). eqb c 39) false cs)
