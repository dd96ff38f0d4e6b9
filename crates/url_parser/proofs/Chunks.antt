-- Laws of the host part: its first chunk and what follows it, where a chunk's host stands, and a chunk whose host was read.
-- Assumes nothing.
use Rattle.std.proofs.Common.{Option, Some, None}
use Prim.Native.Nat.{ℕ, suc, ◌+◌, ◌≤◌, ◌-◌}
use mathlib.Core.Path.{◌≡◌, refl, ap, sym, subst, ◌∙◌}
use mathlib.Core.Bool.{Bool, true, false, ◌&&◌}
use mathlib.Core.List.{List, [], ◌∷◌}
use native.Mathlib.Omega.{arith}
use native.Mathlib.Numerals.{add-one, one-add}
use lib.Dec.{eqb, ltb, leb-suc-suc}
use lib.ListN.{length, take, drop, get_or}
use lib.Seq.{drop-drop, get_or-drop}
use borrow.Author.Tests.{eqb-true}
use Rattle.byte.specs.Byte.{pick, part_of}
use Rattle.byte.proofs.Parts.{part-is}
use Rattle.split.specs.Split.{first_at, split}
use Rattle.setting.specs.Setting.{Reading, ends}
use Rattle.url_parser.specs.Uri.{has, up_to, beyond, first_of, host, port, closes, bracketed, chunk, chunks, ends_hosts, host_part, behind_hosts, host_chunks, path}
use Rattle.url_parser.specs.declared.HostPlace.{HostPlace}
use Rattle.url_parser.specs.Step.{ends_chunk, chunk_end, place, closing, host_place, port_and_on}
use Rattle.url_parser.proofs.Places.{drop-take, part-start, of-drop}

-- the chunks behind the first, and what follows the host part
abbrev pub later_chunks : List ℕ → List (List ℕ)
later_chunks t = pick (eqb (get_or t (chunk_end t) 0) 44) (split 44 (host_part (drop (suc (chunk_end t)) t))) []

abbrev pub later_path : List ℕ → List ℕ
later_path t = pick (eqb (get_or t (chunk_end t) 0) 44) (behind_hosts (drop (suc (chunk_end t)) t)) (drop (chunk_end t) t)

pub record First (t : List ℕ) : Type 0 where
  pub pieces : split 44 (host_part t) ≡ take (chunk_end t) t ∷ later_chunks t
  pub behind : behind_hosts t ≡ later_path t

first-comma : (t : List ℕ) → First (44 ∷ t)
unfolding first_of ends_chunk ends_hosts split
first-comma t = record { pieces = refl; behind = refl }

first-over : (a : ℕ) (t : List ℕ) → eqb a 44 ≡ false → ends_hosts a ≡ true → First (a ∷ t)
unfolding first_of ends_chunk split
first-over a t p q = record { pieces = rw (p, q, p); behind = rw (p, q, p) }

first_on : (a : ℕ) (t : List ℕ) → eqb a 44 ≡ false → ends_hosts a ≡ false → First t → First (a ∷ t)
unfolding first_of ends_chunk split
first_on a t p q r = record { pieces = rw (p, q, r.pieces, p); behind = rw (p, q) r.behind }

pub first : (t : List ℕ) → First t
unfolding first_of ends_chunk split
first [] = record { pieces = refl; behind = refl }
first (a ∷ t) = by (eqb a 44) refl (ends_hosts a) refl (first t)
  where
    by : (x : Bool) → eqb a 44 ≡ x → (y : Bool) → ends_hosts a ≡ y → First t → First (a ∷ t)
    by true p y q r = subst (λ (b : ℕ). First (b ∷ t)) (sym (eqb-true a 44 p)) (first-comma t)
    by false p true q r = first-over a t p q
    by false p false q r = first_on a t p q r

-- what is read behind a chunk that ends at a place
abbrev pub behind_one : List ℕ → Reading
behind_one t = pick (eqb (get_or t (chunk_end t) 0) 44) (host_chunks (drop (chunk_end t + 1) t)) (path (drop (chunk_end t) t))

-- the first chunk, then what is behind it
pub chunks-first : (t : List ℕ) → host_chunks t ≡ chunk (take (chunk_end t) t) (behind_one t)
unfolding host_chunks chunks
chunks-first t =
    rw ((first t).pieces, (first t).behind, add-one (chunk_end t)) (by (eqb (get_or t (chunk_end t) 0) 44))
  where
    by : (b : Bool) → chunk (take (chunk_end t) t) (chunks (pick b (split 44 (host_part (drop (suc (chunk_end t)) t))) []) (path (pick b (behind_hosts (drop (suc (chunk_end t)) t)) (drop (chunk_end t) t))))
        ≡ chunk (take (chunk_end t) t) (pick b (host_chunks (drop (suc (chunk_end t)) t)) (path (drop (chunk_end t) t)))
    by true = refl
    by false = refl

-- a chunk's host and what follows it, by their places
abbrev pub placed_by : List ℕ → Reading → Option HostPlace → Reading
placed_by c r None = ends 10
placed_by c r (Some p) = host (part_of p.from p.to c) (port (drop p.tail c) r)

abbrev pub placed_chunk : List ℕ → Reading → Reading
placed_chunk c r = placed_by c r (host_place c)

module _ (a : ℕ) (d : List ℕ) where
  close-within : ltb (closing (a ∷ d)) (length (a ∷ d)) ≡ has 93 d
  close-within = rw (one-add (first_at 93 d)) (leb-suc-suc (suc (first_at 93 d)) (length d))

  close-behind : drop (closing (a ∷ d) + 1) (a ∷ d) ≡ beyond 93 d
  close-behind = rw (one-add (first_at 93 d), add-one (suc (first_at 93 d)), add-one (first_at 93 d))

  close-part : part_of 1 (closing (a ∷ d)) (a ∷ d) ≡ up_to 93 d
  close-part = let e : closing (a ∷ d) - 1 ≡ first_at 93 d = omega arith in part-is 1 (closing (a ∷ d)) (a ∷ d) ∙ ap (λ (n : ℕ). take n d) e

  pub chunk-bracketed : eqb a 91 ≡ true → (r : Reading) → chunk (a ∷ d) r ≡ placed_chunk (a ∷ d) r
  unfolding chunk bracketed host_place
  chunk-bracketed e r = rw (e, close-within, close-behind) (by (has 93 d && closes (beyond 93 d)))
    where
      by : (b : Bool) → pick b (host (up_to 93 d) (port (beyond 93 d) r)) (ends 10)
          ≡ placed_by (a ∷ d) r (pick b (Some (place 1 (closing (a ∷ d)) (closing (a ∷ d) + 1))) None)
      by true = rw (close-part, close-behind)
      by false = refl

pub chunk-plain : (c : List ℕ) → eqb (get_or c 0 0) 91 ≡ false → (r : Reading) → chunk c r ≡ placed_chunk c r
unfolding chunk host_place
chunk-plain c e r = rw (e, part-start (first_at 58 c) c)

pub chunk-placed : (c : List ℕ) (r : Reading) → chunk c r ≡ placed_chunk c r
chunk-placed [] r = chunk-plain [] refl r
chunk-placed (a ∷ d) r = by (eqb a 91) refl
  where
    by : (b : Bool) → eqb a 91 ≡ b → chunk (a ∷ d) r ≡ placed_chunk (a ∷ d) r
    by true e = chunk-bracketed a d e r
    by false e = chunk-plain (a ∷ d) e r

-- what is left of a chunk, read from a place in it on
pub port-rest : (k : ℕ) (t : List ℕ) → k ≤ chunk_end t → port_and_on (drop k t) ≡ port (drop k (take (chunk_end t) t)) (behind_one t)
unfolding port_and_on
port-rest k t h =
    let e : chunk_end (drop k t) ≡ chunk_end t - k = of-drop ends_chunk k t h in
    let m : k + (chunk_end t - k) ≡ chunk_end t = omega arith in
    let n : k + (chunk_end t - k + 1) ≡ chunk_end t + 1 = omega arith in
    let g : get_or (drop k t) (chunk_end t - k) 0 ≡ get_or t (chunk_end t) 0 = get_or-drop k t (chunk_end t - k) 0 ∙ ap (λ (i : ℕ). get_or t i 0) m in
    let l : drop (chunk_end t - k + 1) (drop k t) ≡ drop (chunk_end t + 1) t = drop-drop (chunk_end t - k + 1) k t ∙ ap (λ (i : ℕ). drop i t) n in
    let d : drop (chunk_end t - k) (drop k t) ≡ drop (chunk_end t) t = drop-drop (chunk_end t - k) k t ∙ ap (λ (i : ℕ). drop i t) m in
    rw (e, g, l, d, drop-take k (chunk_end t) t)
