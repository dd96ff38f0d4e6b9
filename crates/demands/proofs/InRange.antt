-- What a reading tells is in range: numbers of their widths, bytes below 256.
-- Assumes nothing.
use Prim.Native.Nat.{ℕ, zero, suc, ◌+◌, ◌-◌, ◌^◌, ◌<◌}
use mathlib.Core.Path.{◌≡◌, refl, sym, subst}
use mathlib.Core.List.{List, [], ◌∷◌, ◌++◌, map}
use Rattle.std.specs.Prelude.{Option, Some, None, Result, Ok, Err}
use native.Mathlib.Omega.{arith}
use lib.Dec.{eqb}
use lib.IntN.{pos, neg_ℤ}
use lib.ListN.{length, get_or, drop}
use Rattle.number.specs.declared.NumberError.{NumberError}
use Rattle.number.specs.Number.{digits_in, unsigned_of}
use Rattle.integer.specs.Integer.{negative, positive, signed_of}
use Rattle.number.proofs.Laws.{unsigned-low}
use Rattle.split.specs.Split.{onto, split}
use Rattle.address.specs.declared.Kind.{Kind}
use Rattle.address.specs.declared.Address.{Address}
use Rattle.address.specs.Address.{address_of}
use Rattle.address.specs.Form.{Within}
use Rattle.address.proofs.Bounds.{address-within}
use Rattle.lists.specs.Fault.{is_fine}
use Rattle.lists.specs.Append.{Piece, good, bad}
use Rattle.lists.specs.Lists.{port_read, port_piece, address_read, address_piece}
use Rattle.config.specs.Config.{defaults}
use Rattle.config.specs.Values.{HostValue, tcp, unix, Values, shown}
use Rattle.setting.specs.Setting.{Setting, kind_of, value_of}
use Rattle.apply.specs.Apply.{seconds_of, seconds_read, seconds_in, idle_after}
use Rattle.view.specs.Given.{entries_of, host_value, one_host_piece, time_given, retries_given, refused, given, Told, plain, tell_refusal, told}
use Rattle.telling.specs.Bound.{All, Maybe}
use Rattle.telling.specs.Ranged.{Bytes, Small, NamedBytes, HostsBytes, SmallKind, SmallAddresses, Ranged}
use Rattle.outcome.specs.Outcome.{reading, answer, left}
use Rattle.demands.specs.Blind.{Readable, tells}
use Rattle.demands.proofs.Bytes.{picked, all_append, well-bytes, Valued, valued}
use Rattle.demands.proofs.Shows.{read-tells}

-- what was read as a number
abbrev SmallNumber : Result ℕ NumberError → Type 0
SmallNumber (Ok n) = Small n
SmallNumber (Err x) = Unit {0}

unsigned_small : (max : ℕ) (v : List ℕ) → max < 2 ^ 64 → SmallNumber (unsigned_of max v)
unsigned_small max v h = by (unsigned_of max v) refl
  where
    by : (x : Result ℕ NumberError) → unsigned_of max v ≡ x → SmallNumber x
    by (Ok n) e = omega (arith, unsigned-low max v n e)
    by (Err x) e = tt

-- seconds: what is negative counts as 0
positive-small : (x : Result ℕ NumberError) → SmallNumber x → SmallNumber (seconds_read (positive x))
positive-small (Ok n) h = h
positive-small (Err x) h = tt

below-zero : (n : ℕ) → Small (seconds_of (neg_ℤ (pos n)))
below-zero zero = omega arith
below-zero (suc n) = omega arith

negative-small : (x : Result ℕ NumberError) → SmallNumber (seconds_read (negative x))
negative-small (Ok n) = below-zero n
negative-small (Err x) = tt

seconds-small : (v : List ℕ) → SmallNumber (seconds_in v)
unfolding seconds_in signed_of
seconds-small v =
    picked (λ (x : _). SmallNumber (seconds_read x)) (eqb (get_or v 0 0) 45) _ _
    (negative-small (digits_in 10 (2 ^ 63) (drop 1 v)))
    (positive-small (unsigned_of (2 ^ 63 - 1) v) (unsigned_small (2 ^ 63 - 1) v (omega arith)))

time-small : (old : Option ℕ) (x : Result ℕ NumberError) → Maybe Small old → SmallNumber x → Maybe Small (time_given old x)
time-small old (Ok n) h k = picked (Maybe Small) (eqb n 0) old (Some n) h k
time-small old (Err x) h k = h

idle-small : (old : ℕ) (x : Result ℕ NumberError) → Small old → SmallNumber x → Small (idle_after old x)
idle-small old (Ok n) h k = picked Small (eqb n 0) old n h k
idle-small old (Err x) h k = h

retries-small : (old : Option ℕ) (x : Result ℕ NumberError) → Maybe Small old → SmallNumber x → Maybe Small (retries_given old x)
retries-small old (Ok n) h k = k
retries-small old (Err x) h k = h

-- the pieces of a list's value
abbrev Good : {A : Type 0} → (A → Type 0) → Piece A → Type 0
Good p (good a) = p a
Good p (bad f) = Unit {0}

port-read : (x : Result ℕ NumberError) → SmallNumber x → Good Small (port_read x)
port-read (Ok n) h = h
port-read (Err x) h = tt

port-piece : (v : List ℕ) → Good Small (port_piece v)
unfolding port_piece
port-piece v = picked (Good Small) (eqb (length v) 0) (good 5432) _ (omega arith) (port-read (unsigned_of 65535 v) (unsigned_small 65535 v (omega arith)))

port-entries : (ps : List (List ℕ)) → All Small (entries_of (map port_piece ps))
unfolding entries_of
port-entries [] = tt
port-entries (p ∷ ps) = by (port_piece p) (port-piece p) (port-entries ps)
  where
    by : (x : Piece ℕ) → Good Small x → All Small (entries_of (map port_piece ps)) → All Small (entries_of (x ∷ map port_piece ps))
    by (good n) h k = (h, k)
    by (bad f) h k = k

within-small : (k : Kind) → Within k → SmallKind k
within-small (Kind.V4 n) h = h
within-small (Kind.V6 a b) h = h

abbrev SmallAddress : Address → Type 0
SmallAddress a = SmallKind a.kind

address-piece : (v : List ℕ) → Good SmallAddress (address_piece v)
unfolding address_piece
address-piece v = by (address_of v) refl
  where
    by : (x : Option Address) → address_of v ≡ x → Good SmallAddress (address_read x)
    by (Some a) e = within-small a.kind (address-within v a e)
    by None e = tt

address-entries : (ps : List (List ℕ)) → SmallAddresses (entries_of (map address_piece ps))
unfolding entries_of
address-entries [] = tt
address-entries (p ∷ ps) = by (address_piece p) (address-piece p) (address-entries ps)
  where
    by : (x : Piece Address) → Good SmallAddress x → SmallAddresses (entries_of (map address_piece ps)) → SmallAddresses (entries_of (x ∷ map address_piece ps))
    by (good a) h k = (h, k)
    by (bad f) h k = k

addresses-append : (l m : List Address) → SmallAddresses l → SmallAddresses m → SmallAddresses (l ++ m)
addresses-append [] m h k = k
addresses-append (a ∷ l) m h k = (h.0, addresses-append l m h.1 k)

-- hosts: the pieces of bytes are bytes
abbrev Each : List (List ℕ) → Type 0
Each [] = Unit {0}
Each (p ∷ ps) = Bytes p × Each ps

onto-bytes : (a : ℕ) (ps : List (List ℕ)) → a < 256 → Each ps → Each (onto a ps)
onto-bytes a [] h k = ((h, tt), tt)
onto-bytes a (p ∷ ps) h k = ((h, k.0), k.1)

split-bytes : (b : ℕ) (s : List ℕ) → Bytes s → Each (split b s)
unfolding split
split-bytes b [] h = (tt, tt)
split-bytes b (a ∷ s) h = picked Each (eqb a b) ([] ∷ split b s) _ (tt, split-bytes b s h.1) (onto-bytes a (split b s) h.0 (split-bytes b s h.1))

named-bytes : (v : List ℕ) → Bytes v → NamedBytes (host_value v)
unfolding host_value
named-bytes v h = picked NamedBytes (eqb (get_or v 0 0) 47) (unix v) (tcp v) h h

host-entries : (ps : List (List ℕ)) → Each ps → HostsBytes (entries_of (map (λ (w : List ℕ). good (host_value w)) ps))
unfolding entries_of
host-entries [] h = tt
host-entries (p ∷ ps) h = (named-bytes p h.0, host-entries ps h.1)

one_entry : (v : List ℕ) → Bytes v → HostsBytes (entries_of (one_host_piece v))
unfolding entries_of
one_entry v h = (named-bytes v h, tt)

hosts-append : (l m : List HostValue) → HostsBytes l → HostsBytes m → HostsBytes (l ++ m)
hosts-append [] m h k = k
hosts-append (a ∷ l) m h k = (h.0, hosts-append l m h.1 k)

-- one setting, whether it is refused or not
given-ranged : (k : ℕ) (v : List ℕ) (w : Values) → Bytes v → Ranged w → Ranged (given k v w)
unfolding given
given-ranged k v w b r =
    record {
      user = picked (Maybe Bytes) (eqb k 1) (Some v) w.user b r.user;
      dbname = picked (Maybe Bytes) (eqb k 3) (Some v) w.dbname b r.dbname;
      options = picked (Maybe Bytes) (eqb k 4) (Some v) w.options b r.options;
      name = picked (Maybe Bytes) (eqb k 5) (Some v) w.application_name b r.name;
      host =
          picked HostsBytes (eqb k 8) _ _ (hosts-append w.host _ r.host (host-entries (split 44 v) (split-bytes 44 v b)))
          (picked HostsBytes (eqb k 20) _ _ (hosts-append w.host _ r.host (one_entry v b)) r.host);
      hostaddr = picked SmallAddresses (eqb k 9) _ _ (addresses-append w.hostaddr _ r.hostaddr (address-entries (split 44 v))) r.hostaddr;
      port = picked (All Small) (eqb k 10) _ _ (all_append Small w.port _ r.port (port-entries (split 44 v))) r.port;
      connect = picked (Maybe Small) (eqb k 11) _ _ (time-small w.connect_timeout (seconds_in v) r.connect (seconds-small v)) r.connect;
      user-time = picked (Maybe Small) (eqb k 12) _ _ (time-small w.tcp_user_timeout (seconds_in v) r.user-time (seconds-small v)) r.user-time;
      idle = picked Small (eqb k 14) _ _ (idle-small w.keepalives_idle (seconds_in v) r.idle (seconds-small v)) r.idle;
      interval = picked (Maybe Small) (eqb k 15) _ _ (time-small w.keepalives_interval (seconds_in v) r.interval (seconds-small v)) r.interval;
      retries =
          picked (Maybe Small) (eqb k 16) _ _
          (retries-small w.keepalives_retries (unsigned_of (2 ^ 32 - 1) v) r.retries (unsigned_small (2 ^ 32 - 1) v (omega arith))) r.retries;
    }

plain-ranged : Ranged plain
unfolding shown defaults
plain-ranged =
    record {
      user = tt;
      dbname = tt;
      options = tt;
      name = tt;
      host = tt;
      hostaddr = tt;
      port = tt;
      connect = tt;
      user-time = tt;
      idle = omega arith;
      interval = tt;
      retries = tt;
    }

-- a list of settings
pub told-ranged : (ss : List Setting) (end n : ℕ) (w : Values) → Valued ss → Ranged w → Ranged (told w n ss end).values
unfolding told
told-ranged [] end n w h r = picked (λ (t : Told). Ranged t.values) (eqb end 0) _ (tell_refusal end 0 n) r plain-ranged
told-ranged (s ∷ ss) end n w h r =
    picked (λ (t : Told). Ranged t.values) (is_fine (refused (kind_of s) (value_of s) w)) _ _
    (told-ranged ss end (n + 1) (given (kind_of s) (value_of s) w) h.1 (given-ranged (kind_of s) (value_of s) w h.0 r)) plain-ranged

-- so what the reader gives for a text within the limits shows numbers and bytes in range, whatever its decode buffer held
pub read-ranged : (s d : List ℕ) → Readable s d → Ranged (shown (left s d) (answer s (length d)).config)
unfolding tells
read-ranged s d r =
    subst (λ (t : Told). Ranged t.values) (sym (read-tells s d r))
    (told-ranged (reading s).settings (reading s).end 0 plain (valued s (well-bytes s r.utf8)) plain-ranged)
