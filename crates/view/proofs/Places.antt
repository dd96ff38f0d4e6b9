-- What stands at a place of the buffer: bytes behind change nothing, and what is packed behind is shown as it is.
-- Assumes nothing.
use Prim.{Unit}
use Prim.Native.Nat.{ℕ, suc, ◌+◌, ◌-◌, ◌≤◌}
use mathlib.Core.Path.{◌≡◌, refl, sym, ap, subst, ◌∙◌}
use mathlib.Core.Bool.{Bool, true, false}
use mathlib.Core.List.{List, [], ◌∷◌, ◌++◌, map, append-nil}
use Rattle.std.specs.Prelude.{Option, Some, None}
use native.Mathlib.Omega.{arith}
use borrow.Author.Tests.{leb-true, le-leb}
use lib.Dec.{eqb, leb}
use lib.ListN.{length, drop, get_or, length-drop, length-append}
use lib.Seq.{take-append-le, drop-append-le, drop-append_seam, drop-drop, take-length}
use Rattle.byte.specs.Byte.{pick}
use Rattle.byte.proofs.Laws.{and_left, and_right, and-true}
use Rattle.split.specs.Split.{onto, split}
use Rattle.lists.specs.declared.Place.{Place}
use Rattle.lists.specs.declared.HostKind.{HostKind}
use Rattle.lists.specs.declared.Host.{Host}
use Rattle.lists.specs.Append.{good, pieces_from}
use Rattle.lists.specs.Lists.{host_of, host_piece}
use Rattle.config.specs.Values.{tcp, unix, place_shown, text_shown, kind_shown, host_shown}
use Rattle.config.specs.Sound.{place_in, text_in, kind_in, all_in}
use Rattle.apply.specs.Apply.{text}
use Rattle.view.specs.Given.{entries_of, host_value}
use Rattle.view.proofs.Append.{seen_as}

abbrev pub place_at : ℕ → ℕ → Place
place_at start len = record { start = start; len = len }

module _ (n : ℕ) (p : Place) where
  pub place-ends : place_in n p ≡ true → p.start + p.len ≤ n
  unfolding place_in
  place-ends e =
      let s : p.start ≤ n = leb-true p.start n (and_left _ _ e) in
      let l : p.len ≤ n - p.start = leb-true p.len (n - p.start) (and_right (leb p.start n) _ e) in
      omega arith

  pub ends-place : p.start + p.len ≤ n → place_in n p ≡ true
  unfolding place_in
  ends-place h = and-true _ _ (le-leb p.start n (omega arith)) (le-leb p.len (n - p.start) (omega arith))

-- what lies in n bytes lies in more
module _ (n m : ℕ) (more : n ≤ m) where
  pub place-on : (p : Place) → place_in n p ≡ true → place_in m p ≡ true
  place-on p e = let h : p.start + p.len ≤ n = place-ends n p e in ends-place m p (omega arith)

  pub text-on : (t : Option Place) → text_in n t ≡ true → text_in m t ≡ true
  unfolding text_in
  text-on (Some p) e = place-on p e
  text-on None e = refl

  kind-on : (k : HostKind) → kind_in n k ≡ true → kind_in m k ≡ true
  unfolding kind_in
  kind-on (HostKind.Tcp p) e = place-on p e
  kind-on (HostKind.Unix p) e = place-on p e

  pub all-on : (l : List Host) → all_in n l ≡ true → all_in m l ≡ true
  unfolding all_in
  all-on [] e = refl
  all-on (x ∷ l) e = and-true _ _ (kind-on x.kind (and_left _ _ e)) (all-on l (and_right (kind_in n x.kind) _ e))

pub all_append : (n : ℕ) (l m : List Host) → all_in n l ≡ true → all_in n m ≡ true → all_in n (l ++ m) ≡ true
unfolding all_in
all_append n [] m e f = f
all_append n (x ∷ l) m e f =
    and-true (kind_in n x.kind) _ (and_left (kind_in n x.kind) (all_in n l) e) (all_append n l m (and_right (kind_in n x.kind) (all_in n l) e) f)

-- more bytes behind change nothing that is shown
module _ (b x : List ℕ) where
  pub place-grows : (p : Place) → place_in (length b) p ≡ true → place_shown (b ++ x) p ≡ place_shown b p
  unfolding place_shown
  place-grows p e =
      let h : p.start + p.len ≤ length b = place-ends (length b) p e in
      let s : p.start ≤ length b = omega arith in
      let l : p.len ≤ length (drop p.start b) = rw length-drop (omega arith) in
      rw (drop-append-le p.start b x s, take-append-le p.len (drop p.start b) x l)

  pub text-grows : (t : Option Place) → text_in (length b) t ≡ true → text_shown (b ++ x) t ≡ text_shown b t
  unfolding text_in
  text-grows (Some p) e = rw (place-grows p e)
  text-grows None e = refl

  kind_grows : (k : HostKind) → kind_in (length b) k ≡ true → kind_shown (b ++ x) k ≡ kind_shown b k
  unfolding kind_in
  kind_grows (HostKind.Tcp p) e = rw (place-grows p e)
  kind_grows (HostKind.Unix p) e = rw (place-grows p e)

  pub hosts-grow : (l : List Host) → all_in (length b) l ≡ true → map (host_shown (b ++ x)) l ≡ map (host_shown b) l
  unfolding all_in
  hosts-grow [] e = refl
  hosts-grow (y ∷ l) e = rw (kind_grows y.kind (and_left _ _ e), hosts-grow l (and_right (kind_in (length b) y.kind) _ e))

  longer : length b ≤ length (b ++ x)
  longer = rw length-append (omega arith)

  -- a text, replaced by v where that is packed behind, or as it was
  module _ (v : List ℕ) (t : Option Place) (e : text_in (length b) t ≡ true) where
    pub text-seen : (q : Bool) → (q ≡ true → x ≡ v) → text_shown (b ++ x) (pick q (text (length b) v) t) ≡ pick q (Some v) (text_shown b t)
    unfolding place_shown
    text-seen true k = rw (k refl, drop-append_seam b v, take-length v)
    text-seen false k = text-grows t e

    pub text-in : (q : Bool) → (q ≡ true → x ≡ v) → text_in (length (b ++ x)) (pick q (text (length b) v) t) ≡ true
    unfolding text_in
    text-in true k = ends-place (length (b ++ x)) (place_at (length b) (length v)) (rw (k refl, length-append) (omega arith))
    text-in false k = text-on (length b) (length (b ++ x)) longer t e

-- pieces that stand one behind the other from a place on, a byte between each two
abbrev pub Laid : List ℕ → ℕ → List (List ℕ) → Type 0
Laid b at [] = Unit
Laid b at (w ∷ ws) = (place_shown b (place_at at (length w)) ≡ w) × (at + length w ≤ length b) × Laid b (at + length w + 1) ws

-- the pieces of a value that stands there
pub laid : (b : List ℕ) (at : ℕ) (v r : List ℕ) → drop at b ≡ v ++ r → at + length v ≤ length b → Laid b at (split 44 v)
unfolding split place_shown
laid b at [] r e h = (refl, h, tt)
laid b at (x ∷ v) r e h = by (eqb x 44) (laid b (at + 1) v r next (omega arith))
  where
    next : drop (at + 1) b ≡ v ++ r
    next = sym (drop-drop 1 at b) ∙ ap (drop 1) e

    onward : (ps : List (List ℕ)) → Laid b (at + 1) ps → Laid b at (onto x ps)
    onward [] l = (rw e, omega arith, tt)
    onward (p ∷ ps) l =
        let q : at + 1 + length p + 1 ≡ at + suc (length p) + 1 = omega arith in
        let m : at + 1 + length p ≤ length b = l.1 in
        (rw (e, ← next) (ap (λ (z : List ℕ). x ∷ z) l.0), omega arith, subst (λ (k : ℕ). Laid b k ps) q l.2)

    by : (t : Bool) → Laid b (at + 1) (split 44 v) → Laid b at (pick t ([] ∷ split 44 v) (onto x (split 44 v)))
    by true l =
        let q : at + 1 ≡ at + 0 + 1 = omega arith in
        (refl, omega arith, subst (λ (k : ℕ). Laid b k (split 44 v)) q l)
    by false l = onward (split 44 v) l

-- a value packed behind b, whole and in pieces
pub laid-whole : (b v : List ℕ) → Laid (b ++ v) (length b) (v ∷ [])
unfolding place_shown
laid-whole b v = (rw (drop-append_seam b v, take-length v), rw length-append (omega arith), tt)

pub laid-pieces : (b v : List ℕ) → Laid (b ++ v) (length b) (split 44 v)
laid-pieces b v = laid (b ++ v) (length b) v [] (drop-append_seam b v ∙ sym (append-nil v)) (rw length-append (omega arith))

-- a host where it stands shows its bytes, with the kind that its first byte says
host-shown : (b w : List ℕ) (at : ℕ) → place_shown b (place_at at (length w)) ≡ w → host_shown b (host_of (get_or w 0 0) at (length w)) ≡ host_value w
unfolding host_of host_value
host-shown b w at e = by (eqb (get_or w 0 0) 47)
  where
    by : (t : Bool) → host_shown b (pick t (record { kind = HostKind.Unix (place_at at (length w)) }) (record { kind = HostKind.Tcp (place_at at (length w)) })) ≡ pick t (unix w) (tcp w)
    by true = ap unix e
    by false = ap tcp e

host-in : (n first at len : ℕ) → at + len ≤ n → kind_in n (host_of first at len).kind ≡ true
unfolding host_of kind_in
host-in n first at len h = by (eqb first 47)
  where
    by : (t : Bool) → kind_in n (pick {A = Host} t (record { kind = HostKind.Unix (place_at at len) }) (record { kind = HostKind.Tcp (place_at at len) })).kind ≡ true
    by true = ends-place n (place_at at len) h
    by false = ends-place n (place_at at len) h

pub hosts-shown : (b : List ℕ) (at : ℕ) (ws : List (List ℕ)) → Laid b at ws → map (seen_as (host_shown b)) (pieces_from host_piece at ws) ≡ map (λ (w : List ℕ). good (host_value w)) ws
unfolding pieces_from host_piece
hosts-shown b at [] l = refl
hosts-shown b at (w ∷ ws) l = rw (host-shown b w at l.0, hosts-shown b (at + length w + 1) ws l.2)

pub hosts-in : (b : List ℕ) (at : ℕ) (ws : List (List ℕ)) → Laid b at ws → all_in (length b) (entries_of (pieces_from host_piece at ws)) ≡ true
unfolding pieces_from host_piece entries_of all_in
hosts-in b at [] l = refl
hosts-in b at (w ∷ ws) l = and-true _ _ (host-in (length b) (get_or w 0 0) at (length w) l.1) (hosts-in b (at + length w + 1) ws l.2)
