-- What a reading tells is of the sizes that the report's bound asks for, setting by setting.
-- Assumes nothing.
use Prim.Native.Nat.{ℕ, ◌+◌, ◌-◌, ◌^◌, ◌<◌, ◌≤◌}
use mathlib.Core.Path.{◌≡◌, refl, sym, subst}
use mathlib.Core.Bool.{Bool, true, false}
use mathlib.Core.List.{List, [], ◌∷◌, ◌++◌, map}
use Rattle.std.specs.Prelude.{Option, Result, Ok, Err}
use native.Mathlib.Omega.{arith}
use lib.Dec.{eqb}
use lib.ListN.{length, length-append}
use Rattle.byte.specs.Byte.{pick}
use Rattle.number.specs.declared.NumberError.{NumberError}
use Rattle.number.specs.Number.{unsigned_of}
use Rattle.number.proofs.Laws.{unsigned-low}
use Rattle.split.specs.Split.{split}
use Rattle.lists.specs.Fault.{is_fine}
use Rattle.lists.specs.Append.{Piece, good, bad}
use Rattle.lists.specs.Lists.{port_read, port_piece}
use Rattle.config.specs.Config.{defaults}
use Rattle.config.specs.Values.{Values, shown}
use Rattle.setting.specs.Setting.{Setting, kind_of, value_of}
use Rattle.view.specs.Given.{entries_of, port_pieces, retries_given, refused, given, Told, plain, tell_refusal, told}
use Rattle.view.proofs.Told.{told-end, told-on, told-off}
use Rattle.taking.specs.Taking.{keeps}
use Rattle.outcome.specs.Outcome.{kept}
use Rattle.telling.specs.Bound.{host_bytes, All, Maybe}
use Rattle.demands.specs.Giving.{joined}
use Rattle.limits.specs.Limits.{kept_bytes}
use Rattle.limits.proofs.Sum.{adds}

-- "port is 0 to 65,535", "retries 0 to 2^32 - 1"
abbrev SmallPort : ℕ → Type 0
SmallPort n = n < 2 ^ 16

abbrev SmallRetries : ℕ → Type 0
SmallRetries n = n < 2 ^ 32

-- values whose kept ones have at most n bytes, and whose ports and retries are in range
pub record Within (n : ℕ) (w : Values) : Type 0 where
  pub bytes : kept_bytes w ≤ n
  pub port : All SmallPort w.port
  pub retries : Maybe SmallRetries w.keepalives_retries

pub within_more : (n m : ℕ) (w : Values) → n ≤ m → Within n w → Within m w
within_more n m w l h = record { bytes = omega (arith, h.bytes); port = h.port; retries = h.retries }

pub within-plain : Within 0 plain
unfolding shown defaults kept_bytes host_bytes
within-plain = record { bytes = omega arith; port = tt; retries = tt }

-- ports
all_append : (p : ℕ → Type 0) (l m : List ℕ) → All p l → All p m → All p (l ++ m)
all_append p [] m h k = k
all_append p (a ∷ l) m h k = (h.0, all_append p l m h.1 k)

abbrev SmallPiece : Piece ℕ → Type 0
SmallPiece (good n) = SmallPort n
SmallPiece (bad f) = Unit {0}

port-small : (v : List ℕ) → SmallPiece (port_piece v)
unfolding port_piece
port-small v = by (eqb (length v) 0)
  where
    read : (n : Result ℕ NumberError) → unsigned_of 65535 v ≡ n → SmallPiece (port_read n)
    read (Ok n) e = omega (arith, unsigned-low 65535 v n e)
    read (Err x) e = tt

    by : (t : Bool) → SmallPiece (pick t (good 5432) (port_read (unsigned_of 65535 v)))
    by true = omega arith
    by false = read (unsigned_of 65535 v) refl

ports-small : (ws : List (List ℕ)) → All SmallPort (entries_of (map port_piece ws))
unfolding entries_of
ports-small [] = tt
ports-small (w ∷ ws) = by (port_piece w) (port-small w) (ports-small ws)
  where
    by : (p : Piece ℕ) → SmallPiece p → All SmallPort (entries_of (map port_piece ws)) → All SmallPort (entries_of (p ∷ map port_piece ws))
    by (good n) h rest = (h, rest)
    by (bad f) h rest = rest

ports-given : (t : Bool) (v l : List ℕ) → All SmallPort l → All SmallPort (pick t (l ++ entries_of (port_pieces v)) l)
ports-given true v l h = all_append SmallPort l (entries_of (port_pieces v)) h (ports-small (split 44 v))
ports-given false v l h = h

-- retries
retries-given : (t : Bool) (v : List ℕ) (o : Option ℕ) → Maybe SmallRetries o → Maybe SmallRetries (pick t (retries_given o (unsigned_of (2 ^ 32 - 1) v)) o)
retries-given true v o h = read (unsigned_of (2 ^ 32 - 1) v) refl
  where
    read : (n : Result ℕ NumberError) → unsigned_of (2 ^ 32 - 1) v ≡ n → Maybe SmallRetries (retries_given o n)
    read (Ok n) e = omega (arith, unsigned-low (2 ^ 32 - 1) v n e)
    read (Err x) e = h
retries-given false v o h = h

-- one setting, and all of them
given-within : (kind n : ℕ) (v : List ℕ) (w : Values) → Within n w → Within (n + length (pick (keeps kind) v [])) (given kind v w)
unfolding given
given-within kind n v w h =
    record {
      bytes = omega (arith, adds v w kind, h.bytes);
      port = ports-given (eqb kind 10) v w.port h.port;
      retries = retries-given (eqb kind 16) v w.keepalives_retries h.retries;
    }

within_end : (n m k end : ℕ) (w : Values) → Within n w → (t : Bool)
    → Within n (pick {A = Told} t (record { number = 0; key = 0; count = k; values = w }) (tell_refusal end 0 k)).values
within_end n m k end w h true = h
within_end n m k end w h false = within_more 0 n plain (omega arith) within-plain

pub told-within : (ss : List Setting) (end k n : ℕ) (w : Values) → Within n w → Within (n + length (joined ss)) (told w k ss end).values
unfolding joined kept
told-within [] end k n w h =
    subst (λ (t : Told). Within (n + 0) t.values) (sym (told-end w k end)) (within_more n (n + 0) _ (omega arith) (within_end n n k end w h (eqb end 0)))
told-within (s ∷ ss) end k n w h = by (is_fine (refused (kind_of s) (value_of s) w)) refl (told-within ss end (k + 1) (n + length (kept s)))
  where
    far : n + length (kept s) + length (joined ss) ≤ n + length (kept s ++ joined ss)
    far = omega (arith, length-append (kept s) (joined ss))

    by : (t : Bool) → is_fine (refused (kind_of s) (value_of s) w) ≡ t
        → ((x : Values) → Within (n + length (kept s)) x → Within (n + length (kept s) + length (joined ss)) (told x (k + 1) ss end).values)
        → Within (n + length (kept s ++ joined ss)) (told w k (s ∷ ss) end).values
    by true e rest =
        subst (λ (t : Told). Within (n + length (kept s ++ joined ss)) t.values) (sym (told-on w k end s ss e))
        (within_more _ _ _ far (rest (given (kind_of s) (value_of s) w) (given-within (kind_of s) n (value_of s) w h)))
    by false e rest =
        subst (λ (t : Told). Within (n + length (kept s ++ joined ss)) t.values) (sym (told-off w k end s ss e))
        (within_more 0 _ plain (omega arith) within-plain)
