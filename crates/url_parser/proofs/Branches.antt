-- What a step's definition comes to on each way through the code, in the code's own places.
-- Assumes nothing.
use Rattle.setting.specs.declared.Refusal.TheVariants.{Bracket, NoEquals, NotUtf8}
use Rattle.std.proofs.Common.{Option, Some, None}
use Prim.Native.Nat.{ℕ, ◌+◌, ◌≤◌, ◌<◌, ◌-◌}
use mathlib.Core.Path.{◌≡◌, refl, ap, sym, ◌∙◌, subst}
use mathlib.Core.Bool.{Bool, true, false, ◌&&◌, ◌||◌}
use mathlib.Core.List.{List}
use native.Mathlib.Omega.{arith}
use native.Mathlib.Nat.{zero-add}
use lib.Dec.{eqb, ltb}
use lib.ListN.{length, take, drop, get_or, length-drop}
use lib.Seq.{drop-drop}
use borrow.Author.Tests.{lt-ltb, le-ltb, eq-eqb, ne_eqb, ltb-true}
use Rattle.byte.specs.Ascii.{bytes}
use Rattle.byte.specs.Byte.{pick, part_of}
use Rattle.byte.proofs.Parts.{part-most, part-short}
use Rattle.split.specs.Split.{first_at}
use Rattle.split.proofs.Split.{first-most}
use Rattle.utf8.specs.Utf8.{well_formed}
use Rattle.percent_check.specs.declared.Checked.{Checked}
use Rattle.percent.specs.Percent.{decoded}
use Rattle.percent_check.specs.Plain.{checked}
use Rattle.url_parser.specs.declared.Stage.{Stage}
use Rattle.url_parser.specs.declared.Stage.TheVariants.{Password, Host, Chunk, Port, Path, Params, Parameter}
use Rattle.url_parser.specs.declared.Url.{Url}
use Rattle.url_parser.specs.declared.Found.{Found}
use Rattle.url_parser.specs.declared.HostPlace.{HostPlace}
use Rattle.url_parser.specs.Uri.{has, beyond, first_of, host_fits, closes, ends_hosts}
use Rattle.url_parser.specs.Step.{given, over, refused, url, found, give, skipped, host_checked, key_kind, value_checked, value_step, key_step, parameter_step, params_step, database_step, path_step, chunk_end, behind_chunk, fixed_port, port_step, place, closing, host_place, placed_step, chunk_step, host_step, password_step, user_end, credentials_step, stage_step, step_at, value_in}
use Rattle.url_parser.proofs.Places.{front-byte, part-front, part-shift, part-take, part-start, of-here, of-on, of_end}

or-true : (t : Bool) → t || true ≡ true
or-true true = refl
or-true false = refl

or-false : (t : Bool) → t || false ≡ t
or-false true = refl
or-false false = refl

-- where a host stands in its chunk
module _ (c : List ℕ) where
  pub place-plain : (get_or c 0 0 ≡ 91 → ⊥) → (colon : ℕ) → colon ≡ 0 + first_at 58 (drop 0 c) → Some (place 0 colon colon) ≡ host_place c
  unfolding host_place
  place-plain h colon e = rw (ne_eqb _ _ h, e ∙ zero-add _)

  module _ (h : get_or c 0 0 ≡ 91) (close : ℕ) (e : close ≡ closing c) where
    pub place-open : length c ≤ close → None ≡ host_place c
    unfolding host_place
    place-open l =
        let z : length c ≤ closing c = omega (arith, e) in
        rw (eq-eqb _ _ h, le-ltb _ _ z)

    pub place-closed : close < length c → closes (drop (close + 1) c) ≡ true → Some (place 1 close (close + 1)) ≡ host_place c
    unfolding host_place
    place-closed l t =
        let z : closing c < length c = omega (arith, e) in
        rw (eq-eqb _ _ h, lt-ltb _ _ z, ← e, t)

    pub place-followed : close < length c → closes (drop (close + 1) c) ≡ false → None ≡ host_place c
    unfolding host_place
    place-followed l t =
        let z : closing c < length c = omega (arith, e) in
        rw (eq-eqb _ _ h, lt-ltb _ _ z, ← e, t)

  -- its places stand in order, within the chunk
  pub record Ordered (p : HostPlace) : Type 0 where
    pub from : p.from ≤ p.to
    pub to : p.to ≤ p.tail
    pub tail : p.tail ≤ length c

  abbrev AnyOrdered : Option HostPlace → Type 0
  AnyOrdered None = Unit {0}
  AnyOrdered (Some p) = Ordered p

  any-ordered : AnyOrdered (host_place c)
  unfolding host_place
  any-ordered = by (eqb (get_or c 0 0) 91) (ltb (closing c) (length c)) refl (closes (drop (closing c + 1) c))
    where
      by : (a b : Bool) → ltb (closing c) (length c) ≡ b → (t : Bool)
          → AnyOrdered (pick a (pick (b && t) (Some (place 1 (closing c) (closing c + 1))) None) (Some (place 0 (first_at 58 c) (first_at 58 c))))
      by true true e true = record { from = omega arith; to = omega arith; tail = omega (arith, ltb-true (closing c) (length c) e) }
      by true true e false = tt
      by true false e t = tt
      by false b e t = record { from = omega arith; to = omega arith; tail = first-most 58 c }

  pub place-ordered : (p : HostPlace) → host_place c ≡ Some p → Ordered p
  place-ordered p e = subst AnyOrdered e any-ordered

module _ (at : ℕ) (s : List ℕ) where
  behind-one : drop 1 (drop at s) ≡ drop (at + 1) s
  behind-one = drop-drop 1 at s

  front-is : (b : ℕ) → get_or s at 0 ≡ b → eqb (get_or (drop at s) 0 0) b ≡ true
  front-is b e = eq-eqb _ _ (front-byte at s ∙ e)

  front-not : (b : ℕ) → (get_or s at 0 ≡ b → ⊥) → eqb (get_or (drop at s) 0 0) b ≡ false
  front-not b e = ne_eqb _ _ (λ h. e (sym (front-byte at s) ∙ h))

  more : at < length s → 0 < length (drop at s)
  more h = omega (arith, length-drop at s)

  pub skip-one : at < length s → skipped at (drop at s) ≡ at + 1
  unfolding skipped
  skip-one h = rw (lt-ltb _ _ (more h))

  pub skip-none : length s ≤ at → skipped at (drop at s) ≡ at
  unfolding skipped
  skip-none h = let z : length (drop at s) ≤ 0 = omega (arith, length-drop at s) in rw (le-ltb _ _ z)

  pub chunk_next : get_or s at 0 ≡ 44 → behind_chunk at (drop at s) ≡ url Chunk (at + 1)
  unfolding behind_chunk
  chunk_next e = rw (front-is 44 e)

  pub chunk-last : (get_or s at 0 ≡ 44 → ⊥) → behind_chunk at (drop at s) ≡ url Path at
  unfolding behind_chunk
  chunk-last e = rw (front-not 44 e)

  pub path-slash : get_or s at 0 ≡ 47 → path_step at (drop at s) ≡ database_step (at + 1) (drop (at + 1) s)
  unfolding path_step
  path-slash e = rw (front-is 47 e, behind-one)

  pub path-none : (get_or s at 0 ≡ 47 → ⊥) → path_step at (drop at s) ≡ params_step at (drop at s)
  unfolding path_step
  path-none e = rw (front-not 47 e)

  pub params-some : get_or s at 0 ≡ 63 → params_step at (drop at s) ≡ parameter_step (at + 1) (drop (at + 1) s)
  unfolding params_step
  params-some e = rw (front-is 63 e, behind-one)

  pub params_none : (get_or s at 0 ≡ 63 → ⊥) → params_step at (drop at s) ≡ over
  unfolding params_step
  params_none e = rw (front-not 63 e)

  -- a host part, or none
  pub host-end : length s ≤ at → host_step at (drop at s) ≡ path_step at (drop at s)
  unfolding host_step
  host-end h = rw (of_end ends_hosts s at h)

  pub host-none : at < length s → ends_hosts (get_or s at 0) ≡ true → host_step at (drop at s) ≡ path_step at (drop at s)
  unfolding host_step
  host-none h e = rw (of-here ends_hosts s at h e)

  pub host-some : at < length s → ends_hosts (get_or s at 0) ≡ false → host_step at (drop at s) ≡ chunk_step at (drop at s)
  unfolding host_step
  host-some h e =
      let z : first_of ends_hosts (drop at s) ≡ 0 → ⊥ = λ q. absurd (omega (arith, of-on ends_hosts s at h e)) in
      rw (ne_eqb _ _ z)

  pub parameter-none : length s ≤ at → parameter_step at (drop at s) ≡ over
  unfolding parameter_step
  parameter-none h = let z : length (drop at s) ≤ 0 = omega (arith, length-drop at s) in rw (le-ltb _ _ z)

  module _ (end : ℕ) where
    -- the dbname
    module _ (e : end ≡ at + first_at 63 (drop at s)) where
      pub database-none : end ≤ at → database_step at (drop at s) ≡ params_step at (drop at s)
      unfolding database_step
      database-none h = let z : first_at 63 (drop at s) ≡ 0 = omega arith in rw (eq-eqb _ _ z)

      pub database-some : at < end → (v : List ℕ) → v ≡ part_of at end s → (judged : Checked) → judged ≡ checked v
          → give 3 at end judged (url Params end) ≡ database_step at (drop at s)
      unfolding database_step
      database-some h v p judged j =
          let z : first_at 63 (drop at s) ≡ 0 → ⊥ = λ q. absurd (omega arith) in
          rw (ne_eqb _ _ z, j, p, e, part-front at s (first_at 63 (drop at s)))

    -- a parameter
    module _ (e : end ≡ at + first_at 61 (drop at s)) (h : at < length s) where
      pub parameter-open : length s ≤ end → parameter_step at (drop at s) ≡ refused NoEquals
      unfolding parameter_step
      parameter-open l =
          let z : length (drop at s) ≤ first_at 61 (drop at s) = omega (arith, length-drop at s) in
          rw (lt-ltb _ _ (more h), le-ltb _ _ z)

      pub parameter-key : end < length s → (v : List ℕ) → v ≡ part_of at end s → (kind : ℕ) → kind ≡ key_kind (decoded v)
          → key_step kind (end + 1) (drop (end + 1) s) ≡ parameter_step at (drop at s)
      unfolding parameter_step
      parameter-key l v p kind k =
          let z : first_at 61 (drop at s) < length (drop at s) = omega (arith, length-drop at s) in
          let q : at + (first_at 61 (drop at s) + 1) ≡ end + 1 = omega arith in
          let d : beyond 61 (drop at s) ≡ drop (end + 1) s = drop-drop (first_at 61 (drop at s) + 1) at s ∙ ap (λ (n : ℕ). drop n s) q in
          rw (lt-ltb _ _ (more h), lt-ltb _ _ z, d, ← e, ← (part-front at s (first_at 61 (drop at s))), ← e, k, p)

    -- a value
    pub value-given : end ≡ at + first_at 38 (drop at s) → (kind : ℕ) (v : List ℕ) → v ≡ part_of at end s
        → (judged : Checked) → judged ≡ value_checked kind v → (next : ℕ) → next ≡ skipped end (drop end s)
        → give kind at end judged (url Parameter next) ≡ value_step kind at (drop at s)
    unfolding value_step
    value-given e kind v p judged j next n =
        rw (j, p, n, e, part-front at s (first_at 38 (drop at s)), drop-drop (first_at 38 (drop at s)) at s)

    -- the password
    pub password-given : end ≡ at + first_at 64 (drop at s) → (v : List ℕ) → v ≡ part_of at end s → (len : ℕ) → len ≡ length (decoded v)
        → (next : ℕ) → next ≡ skipped end (drop end s) → given (found 2 at end len (url Host next)) ≡ password_step at (drop at s)
    unfolding password_step
    password-given e v p len l next n =
        rw (l, p, n, e, part-front at s (first_at 64 (drop at s)), drop-drop (first_at 64 (drop at s)) at s)

    -- the user
    module _ (e : end ≡ at + first_at 64 (drop at s)) where
      pub no-user : length s ≤ end → credentials_step at (drop at s) ≡ host_step at (drop at s)
      unfolding credentials_step
      no-user l =
          let z : length (drop at s) ≤ first_at 64 (drop at s) = omega (arith, length-drop at s) in
          rw (le-ltb _ _ z)

      module _ (l : end < length s) (c : List ℕ) (p : c ≡ part_of at end s) (k : ℕ) (f : k ≡ 0 + first_at 58 (drop 0 c)) where
        user-end : k ≡ user_end (drop at s)
        user-end = f ∙ zero-add _ ∙ ap (first_at 58) (p ∙ ap (λ (n : ℕ). part_of at n s) e ∙ part-front at s (first_at 64 (drop at s)))

        user-fits : k ≤ first_at 64 (drop at s)
        user-fits = omega (arith, f, zero-add (first_at 58 c), first-most 58 c, ap length p, part-short at end s)

        -- the user is a part of the credentials
        user-part : part_of 0 k c ≡ take k (drop at s)
        user-part =
            ap (part_of 0 k) (p ∙ ap (λ (n : ℕ). part_of at n s) e ∙ part-front at s (first_at 64 (drop at s)))
            ∙ part-take 0 k (first_at 64 (drop at s)) (drop at s) user-fits
            ∙ part-start k (drop at s)

        there : has 64 (drop at s) ≡ true
        there = let z : first_at 64 (drop at s) < length (drop at s) = omega (arith, length-drop at s) in lt-ltb _ _ z

        module _ (judged : Checked) (j : judged ≡ checked (part_of 0 k c)) where
          judged-is : judged ≡ checked (take (user_end (drop at s)) (drop at s))
          judged-is = j ∙ ap checked (user-part ∙ ap (λ (n : ℕ). take n (drop at s)) user-end)

          pub user-first : at + k < end → give 1 at (at + k) judged (url Password (at + k + 1)) ≡ credentials_step at (drop at s)
          unfolding credentials_step
          user-first h =
              let z : user_end (drop at s) < first_at 64 (drop at s) = omega (arith, user-end) in
              rw (there, lt-ltb _ _ z, judged-is, user-end)

          pub user-only : end ≤ at + k → give 1 at (at + k) judged (url Host (end + 1)) ≡ credentials_step at (drop at s)
          unfolding credentials_step
          user-only h =
              let z : first_at 64 (drop at s) ≤ user_end (drop at s) = omega (arith, user-end) in
              rw (there, le-ltb _ _ z, judged-is, user-end, e)

    -- a chunk
    module _ (e : end ≡ at + chunk_end (drop at s)) where
      module _ (c : List ℕ) (q : c ≡ part_of at end s) where
        chunk-is : c ≡ take (chunk_end (drop at s)) (drop at s)
        chunk-is = q ∙ ap (λ (n : ℕ). part_of at n s) e ∙ part-front at s (chunk_end (drop at s))

        chunk-placed : (r : Option HostPlace) → r ≡ host_place c → chunk_step at (drop at s) ≡ placed_step at c r
        unfolding chunk_step
        chunk-placed r h = rw (h, chunk-is)

        pub chunk-fault : (r : Option HostPlace) → r ≡ host_place c → r ≡ None → refused Bracket ≡ chunk_step at (drop at s)
        unfolding placed_step
        chunk-fault r h f = sym (chunk-placed r h ∙ rw f)

        module _ (r : Option HostPlace) (h : r ≡ host_place c) (p : HostPlace) (is : r ≡ Some p) where
          in-order : Ordered c p
          in-order = place-ordered c p (sym h ∙ is)

          -- its places fit where the text's do
          pub chunk-tail : at + p.tail ≤ at + (length s - at)
          chunk-tail = omega (arith, in-order.tail, ap length q, part-most at end s)

          pub chunk-to : p.to ≤ p.tail
          chunk-to = in-order.to

          pub chunk-from : p.from ≤ p.to
          chunk-from = in-order.from

          pub chunk-host : (v : List ℕ) → v ≡ part_of p.from p.to c → (judged : Checked) → judged ≡ host_checked v
              → give 20 (at + p.from) (at + p.to) judged (url Port (at + p.tail)) ≡ chunk_step at (drop at s)
          unfolding placed_step
          chunk-host v e judged j = sym (chunk-placed r h ∙ rw (is, j, e))

      -- its port
      module _ (next : Url) (n : next ≡ behind_chunk end (drop end s)) where
        next-is : next ≡ behind_chunk (at + chunk_end (drop at s)) (drop (chunk_end (drop at s)) (drop at s))
        next-is = n ∙ rw (e, drop-drop (chunk_end (drop at s)) at s)

        pub port-fixed : end ≤ at → fixed_port at next ≡ port_step at (drop at s)
        unfolding port_step
        port-fixed h =
            let z : chunk_end (drop at s) ≡ 0 = omega arith in
            ap (fixed_port at) next-is ∙ sym (rw (eq-eqb _ _ z))

        pub port-given : at < end → (v : List ℕ) → v ≡ part_of (at + 1) end s → (judged : Checked) → judged ≡ checked v
            → give 10 (at + 1) end judged next ≡ port_step at (drop at s)
        unfolding port_step
        port-given h v p judged j =
            let z : chunk_end (drop at s) ≡ 0 → ⊥ = λ y. absurd (omega arith) in
            let i : judged ≡ checked (part_of 1 (chunk_end (drop at s)) (drop at s)) = j ∙ ap checked (p ∙ ap (λ (m : ℕ). part_of (at + 1) m s) e ∙ part-shift at s 1 (chunk_end (drop at s))) in
            rw (ne_eqb _ _ z, i, next-is, e)

-- a key that is not UTF-8, and one that is
pub key-bad : (at : ℕ) (t : List ℕ) (kind : ℕ) → kind ≡ 21 → key_step kind at t ≡ refused NotUtf8
unfolding key_step
key-bad at t kind e = rw (eq-eqb _ _ e)

pub key-good : (at : ℕ) (t : List ℕ) (kind : ℕ) → (kind ≡ 21 → ⊥) → key_step kind at t ≡ value_step kind at t
unfolding key_step
key-good at t kind e = rw (ne_eqb _ _ e)

-- the value of a setting that a step gave
module _ (s : List ℕ) (f : Found) where
  pub value-fixed : f.fixed ≡ true → value_in s f ≡ bytes "5432"
  unfolding value_in
  value-fixed e = rw e

  pub value-part : f.fixed ≡ false → value_in s f ≡ decoded (part_of f.from f.to s)
  unfolding value_in
  value-part e = rw e

-- a host that is UTF-8, and one that is not
module _ (v : List ℕ) where
  pub host-utf8 : well_formed (decoded v) ≡ true → checked v ≡ host_checked v
  unfolding host_fits
  host-utf8 e = rw e (sym (rw (or-true (eqb (get_or (decoded v) 0 0) 47))))

  pub host-bytes : (judged : Checked) → judged ≡ checked v → well_formed (decoded v) ≡ false → (first : ℕ) → first ≡ get_or (decoded v) 0 0
      → ◌≡◌ {A = Checked} (record { len = judged.len; utf8 = eqb first 47 }) (host_checked v)
  unfolding host_fits
  host-bytes judged j e first f = rw (j, f, e, or-false (eqb (get_or (decoded v) 0 0) 47))

-- a step at a stage
pub at_stage : (s : List ℕ) (u : Url) (stage : Stage) → u.stage ≡ stage → stage_step stage u.at (drop u.at s) ≡ step_at s u
unfolding step_at
at_stage s u stage e = rw e
