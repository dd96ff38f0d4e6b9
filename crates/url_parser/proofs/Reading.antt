-- A step and the reading say the same: what a reader's loop cites. A step gives the reading's next setting and leaves the rest of the reading, or tells its end.
-- Assumes nothing.
use Rattle.setting.specs.declared.Refusal.TheVariants.{NoEquals, NotUtf8}
use Rattle.std.proofs.Common.{Option, Some, None, Ok, Err}
use Rattle.setting.specs.declared.Refusal.{Refusal}
use Rattle.setting.specs.Refusal.{refusal_number, end_number}
use Prim.Native.Nat.{ℕ, zero, suc, ◌+◌, ◌*◌, ◌≤◌, ◌<◌, ◌-◌}
use mathlib.Core.Path.{◌≡◌, refl, ap, sym, subst, ◌∙◌}
use mathlib.Core.Bool.{Bool, true, false}
use mathlib.Core.List.{List, [], ◌∷◌}
use native.Mathlib.Omega.{arith}
use lib.Dec.{eqb, ltb}
use lib.ListN.{length, take, drop, get_or, length-drop, length-take}
use lib.Seq.{drop-drop, take-take, length-take-le}
use borrow.Author.Tests.{ne_eqb, eqb-true, eqb-false, ltb-true, ltb-false}
use Rattle.byte.specs.Ascii.{bytes}
use Rattle.byte.specs.Byte.{pick, part_of}
use Rattle.byte.specs.Same.{same}
use Rattle.byte.proofs.Laws.{past}
use Rattle.byte.proofs.Parts.{part-is, part-short}
use Rattle.names.specs.Find.{key_number}
use Rattle.split.specs.Split.{first_at}
use Rattle.split.proofs.Split.{first-most, first-within}
use Rattle.utf8.specs.Utf8.{well_formed}
use Rattle.percent.specs.Percent.{decoded}
use Rattle.percent_check.specs.Plain.{checked}
use Rattle.percent.proofs.Laws.{shorter}
use Rattle.setting.specs.Setting.{Setting, keyed, one_host, kind_of, value_of, Reading, ends, follows}
use Rattle.url_parser.specs.declared.Stage.{Stage}
use Rattle.url_parser.specs.declared.Stage.TheVariants.{Credentials, Password, Host, Chunk, Port, Path, Params, Parameter}
use Rattle.url_parser.specs.declared.Url.{Url}
use Rattle.url_parser.specs.declared.Found.{Found}
use Rattle.url_parser.specs.declared.HostPlace.{HostPlace}
use Rattle.url_parser.specs.Uri.{has, up_to, beyond, first_of, text, host_fits, host, value, parameter, parameters, params, dbname, database, path, port, ends_hosts, host_chunks, hosts, password, credentials, uri}
use Rattle.url_parser.specs.Step.{given, over, refused, UrlStep, url, found, give, skipped, param_kind, key_kind, value_step, key_step, parameter_step, params_step, database_step, path_step, ends_chunk, chunk_end, behind_chunk, fixed_port, port_step, host_place, placed_step, chunk_step, host_step, password_step, user_end, credentials_step, stage_step, step_at, value_in, port_and_on, stage_reading, reading_from}
use Rattle.url_parser.proofs.Places.{front-byte, part-front, part-shift, part-take, drop-take, drop-skipped, skip-from, skip-within, of-most, first-drop}
use Rattle.uri_keys.proofs.Keys.{key-most, kind-most, setting-most, user-one, password-two, dbname-three, port-ten}
use Rattle.url_parser.proofs.Branches.{Ordered, place-ordered}
use Rattle.url_parser.proofs.Chunks.{behind_one, placed_by, chunks-first, chunk-placed, port-rest}
use Rattle.url_parser.proofs.Parameters.{param_len, parameters-none, parameters-first}

-- how many settings may still come: two for each byte that is left, and what the stage has begun
unfoldable pub extra : Stage → ℕ
extra Credentials = 2
extra Password = 3
extra Host = 2
extra Chunk = 2
extra Port = 1
extra Path = 0
extra Params = 0
extra Parameter = 0

unfoldable pub left : List ℕ → Url → ℕ
left s u = 2 * (length s - u.at) + extra u.stage

-- a setting that a step gave, where the reading R is left from the place at on and fewer than m settings come behind it
pub record Gives (s : List ℕ) (at m : ℕ) (R : Reading) (f : Found) : Type 0 where
  pub setting : Setting
  pub kind : kind_of setting ≡ f.kind
  pub known : f.kind ≤ 20
  pub value : value_of setting ≡ value_in s f
  pub reads : R ≡ follows setting (reading_from s f.next)
  pub starts : at ≤ f.from
  pub ordered : f.from ≤ f.to
  pub within : f.to ≤ f.next.at
  pub inside : f.next.at ≤ length s
  pub long : f.len ≡ length (value_in s f)
  pub short : f.fixed ≡ false → f.len ≤ f.to - f.from
  pub port-only : f.fixed ≡ true → f.kind ≡ 10
  pub falls : left s f.next < m

abbrev pub Says : List ℕ → ℕ → ℕ → Reading → UrlStep → Type 0
Says s at m R (Ok f) = Gives s at m R f
Says s at m R (Err None) = R ≡ ends 0
Says s at m R (Err (Some r)) = R ≡ ends (refusal_number r)

true-false : true ≡ false → ⊥
true-false e = let z : ◌≡◌ {A = ℕ} 0 1 = cc in omega arith

-- the same reading, seen from an earlier place
further : (s : List ℕ) (at m : ℕ) (R : Reading) (at₀ m₀ : ℕ) (R₀ : Reading) (step : UrlStep) → at₀ ≤ at → m ≤ m₀ → R₀ ≡ R → Says s at m R step → Says s at₀ m₀ R₀ step
further s at m R at₀ m₀ R₀ (Ok f) a b e g =
    record {
      setting = g.setting;
      kind = g.kind;
      known = g.known;
      value = g.value;
      reads = e ∙ g.reads;
      starts = omega (arith, g.starts);
      ordered = g.ordered;
      within = g.within;
      inside = g.inside;
      long = g.long;
      short = g.short;
      port-only = g.port-only;
      falls = omega (arith, g.falls);
    }
further s at m R at₀ m₀ R₀ (Err None) a b e g = e ∙ g
further s at m R at₀ m₀ R₀ (Err (Some r)) a b e g = e ∙ g

-- a setting whose value is a part of the text, and that is given where ok says so
module _ (s : List ℕ) (at m : ℕ) (R : Reading) (kind from to : ℕ) (next : Url) (v : List ℕ) (p : part_of from to s ≡ v) (ok : Bool) (σ : Setting) where
  module _ (k : kind_of σ ≡ kind) (w : value_of σ ≡ decoded v) (a : at ≤ from) (b : from ≤ to) (c : to ≤ next.at) (d : next.at ≤ length s) (l : left s next < m) where
    pub found-says : R ≡ follows σ (reading_from s next) → Gives s at m R (found kind from to (length (decoded v)) next)
    unfolding value_in
    found-says e =
        let z : length v ≤ to - from = subst (λ (x : List ℕ). length x ≤ to - from) p (part-short from to s) in
        record {
          setting = σ;
          kind = k;
          known = omega (arith, k, setting-most σ);
          value = w ∙ ap decoded (sym p);
          reads = e;
          starts = a;
          ordered = b;
          within = c;
          inside = d;
          long = ap (λ (x : List ℕ). length (decoded x)) (sym p);
          short = λ _. omega (arith, shorter v, z);
          port-only = λ e. absurd (true-false (sym e));
          falls = l;
        }

    pub give-says : R ≡ pick ok (follows σ (reading_from s next)) (ends 12) → Says s at m R (give kind from to (record { len = length (decoded v); utf8 = ok }) next)
    unfolding give
    give-says e = by ok e
      where
        by : (t : Bool) → R ≡ pick t (follows σ (reading_from s next)) (ends 12)
            → Says s at m R (pick t (given (found kind from to (length (decoded v)) next)) (refused NotUtf8))
        by true q = found-says q
        by false q = q

module _ (s : List ℕ) where
  -- a parameter's value
  module _ (at : ℕ) (h : at ≤ length s) (k : List ℕ) where
    abbrev gap : ℕ
    gap = first_at 38 (drop at s)

    abbrev after-value : ℕ
    after-value = skipped (at + gap) (drop gap (drop at s))

    after_is : after-value ≡ skipped (at + gap) (drop (at + gap) s)
    after_is = ap (skipped (at + gap)) (drop-drop gap at s)

    behind-value : parameters (drop (at + gap + 1) s) ≡ reading_from s (url Parameter after-value)
    unfolding reading_from stage_reading
    behind-value = ap parameters (sym (ap (λ (n : ℕ). drop n s) after_is ∙ drop-skipped (at + gap) s))

    pub value-says : Says s at (2 * (length s - at) + 1) (value k (up_to 38 (drop at s)) (parameters (drop (at + gap + 1) s))) (value_step (param_kind k) at (drop at s))
    unfolding value param_kind value_step host text left extra kind_of value_of
    value-says = by (same k (bytes "host"))
      where
        v : List ℕ
        v = up_to 38 (drop at s)

        low : at + gap ≤ after-value
        low = omega (arith, after_is, skip-from (at + gap) s)

        high : after-value ≤ length s
        high = omega (arith, after_is, skip-within (at + gap) s (first-within 38 s at h))

        by : (b : Bool) → Says s at (2 * (length s - at) + 1) (pick b (host v (parameters (drop (at + gap + 1) s))) (text (keyed k) v (parameters (drop (at + gap + 1) s)))) (value_step (pick b 20 (key_number k)) at (drop at s))
        by true =
            give-says s at _ _ 20 at (at + gap) (url Parameter after-value) v (part-front at s gap) (host_fits (decoded v)) (one_host (decoded v))
            refl refl (omega arith) (omega arith) low high (omega (arith, low))
            (ap (λ (r : Reading). pick (host_fits (decoded v)) (follows (one_host (decoded v)) r) (ends 12)) behind-value)
        by false =
            let z : key_number k ≡ 20 → ⊥ = λ e. absurd (omega (arith, key-most k)) in
            rw (ne_eqb (key_number k) 20 z)
            (give-says s at _ _ (key_number k) at (at + gap) (url Parameter after-value) v (part-front at s gap) (well_formed (decoded v)) (keyed k (decoded v))
            refl refl (omega arith) (omega arith) low high (omega (arith, low))
            (ap (λ (r : Reading). pick (well_formed (decoded v)) (follows (keyed k (decoded v)) r) (ends 12)) behind-value))

  -- a parameter
  module _ (at : ℕ) (h : at ≤ length s) where
    abbrev key : List ℕ
    key = decoded (up_to 61 (drop at s))

    abbrev equals : ℕ
    equals = first_at 61 (drop at s)

    abbrev rest : Reading
    rest = parameters (drop (param_len (drop at s)) (drop at s))

    behind-key : beyond 61 (drop at s) ≡ drop (at + equals + 1) s
    behind-key = let e : at + (equals + 1) ≡ at + equals + 1 = omega arith in drop-drop (equals + 1) at s ∙ ap (λ (n : ℕ). drop n s) e

    rest-is : rest ≡ parameters (drop (at + equals + 1 + first_at 38 (drop (at + equals + 1) s) + 1) s)
    rest-is =
        let e : at + param_len (drop at s) ≡ at + equals + 1 + first_at 38 (drop (at + equals + 1) s) + 1 = omega (arith, ap (first_at 38) behind-key) in
        ap parameters (drop-drop (param_len (drop at s)) at s ∙ ap (λ (n : ℕ). drop n s) e)

    key-says : equals < length (drop at s) → (b : Bool)
        → Says s at (2 * (length s - at)) (pick b (value key (up_to 38 (beyond 61 (drop at s))) rest) (ends 12)) (key_step (pick b (param_kind key) 21) (at + equals + 1) (beyond 61 (drop at s)))
    unfolding key_step
    key-says l true =
        let z : param_kind key ≡ 21 → ⊥ = λ e. absurd (omega (arith, kind-most key)) in
        let w : at + equals + 1 ≤ length s = omega (arith, length-drop at s) in
        rw (ne_eqb (param_kind key) 21 z, rest-is, behind-key)
        (further s (at + equals + 1) (2 * (length s - (at + equals + 1)) + 1) _ at (2 * (length s - at)) _ (value_step (param_kind key) (at + equals + 1) (drop (at + equals + 1) s))
        (omega arith) (omega arith) refl (value-says (at + equals + 1) w key))
    key-says l false = refl

    pub parameter-says : Says s at (2 * (length s - at)) (parameters (drop at s)) (parameter_step at (drop at s))
    unfolding parameter_step key_kind parameter
    parameter-says = by (ltb 0 (length (drop at s))) refl
      where
        marked : (b : Bool) → has 61 (drop at s) ≡ b
            → Says s at (2 * (length s - at)) (pick b (pick (well_formed key) (value key (up_to 38 (beyond 61 (drop at s))) rest) (ends 12)) (ends 11)) (pick b (key_step (key_kind key) (at + equals + 1) (beyond 61 (drop at s))) (refused NoEquals))
        marked true e = key-says (ltb-true _ _ e) (well_formed key)
        marked false e = refl

        by : (b : Bool) → ltb 0 (length (drop at s)) ≡ b
            → Says s at (2 * (length s - at)) (parameters (drop at s)) (pick b (pick (has 61 (drop at s)) (key_step (key_kind key) (at + equals + 1) (beyond 61 (drop at s))) (refused NoEquals)) (over))
        by true e =
            further s at (2 * (length s - at)) _ at (2 * (length s - at)) _ (pick (has 61 (drop at s)) (key_step (key_kind key) (at + equals + 1) (beyond 61 (drop at s))) (refused NoEquals))
            (omega arith) (omega arith) (parameters-first (drop at s) (ltb-true 0 _ e)) (marked (has 61 (drop at s)) refl)
        by false e = parameters-none (drop at s) (ltb-false 0 _ e)

    -- the byte at the place is within the text
    byte-within : (b : ℕ) → eqb 0 b ≡ false → eqb (get_or (drop at s) 0 0) b ≡ true → at < length s
    byte-within b z e = past (λ (x : ℕ). eqb x b) z s at (ap (λ (x : ℕ). eqb x b) (sym (front-byte at s)) ∙ e)

  pub params-says : (at : ℕ) → at ≤ length s → Says s at (2 * (length s - at)) (params (drop at s)) (params_step at (drop at s))
  unfolding params params_step
  params-says at h = by (eqb (get_or (drop at s) 0 0) 63) refl
    where
      by : (b : Bool) → eqb (get_or (drop at s) 0 0) 63 ≡ b
          → Says s at (2 * (length s - at)) (pick b (parameters (drop 1 (drop at s))) (ends 0)) (pick b (parameter_step (at + 1) (drop 1 (drop at s))) (over))
      by true e =
          let w : at < length s = byte-within at h 63 refl e in
          rw (drop-drop 1 at s)
          (further s (at + 1) (2 * (length s - (at + 1))) _ at (2 * (length s - at)) _ (parameter_step (at + 1) (drop (at + 1) s)) (omega arith) (omega arith) refl (parameter-says (at + 1) (omega arith)))
      by false e = refl

  -- the dbname
  dbname-some : (v : List ℕ) (r : Reading) → 0 < length v → dbname v r ≡ text (keyed (bytes "dbname")) v r
  unfolding dbname
  dbname-some [] r l = absurd (omega arith)
  dbname-some (a ∷ v) r l = refl

  dbname-none : (v : List ℕ) (r : Reading) → v ≡ [] → dbname v r ≡ r
  unfolding dbname
  dbname-none v r e = rw e

  pub database-says : (at : ℕ) → at ≤ length s → Says s at (2 * (length s - at)) (database (drop at s)) (database_step at (drop at s))
  unfolding database database_step text left extra kind_of value_of reading_from stage_reading
  database-says at h = by (eqb (first_at 63 (drop at s)) 0) refl
    where
      n : ℕ
      n = first_at 63 (drop at s)

      v : List ℕ
      v = up_to 63 (drop at s)

      by : (b : Bool) → eqb (first_at 63 (drop at s)) 0 ≡ b
          → Says s at (2 * (length s - at)) (dbname (up_to 63 (drop at s)) (params (drop (first_at 63 (drop at s)) (drop at s))))
          (pick b (params_step at (drop at s)) (give 3 at (at + first_at 63 (drop at s)) (checked (up_to 63 (drop at s))) (url Params (at + first_at 63 (drop at s)))))
      by true e =
          let z : first_at 63 (drop at s) ≡ 0 = eqb-true _ _ e in
          further s at (2 * (length s - at)) _ at (2 * (length s - at)) _ (params_step at (drop at s)) (omega arith) (omega arith)
          (rw z (dbname-none [] (params (drop at s)) refl)) (params-says at h)
      by false e =
          let z : first_at 63 (drop at s) ≡ 0 → ⊥ = eqb-false _ _ e in
          let l : 0 < length v = omega (arith, length-take n (drop at s), first-most 63 (drop at s)) in
          give-says s at _ _ 3 at (at + n) (url Params (at + n)) v (part-front at s n) (well_formed (decoded v)) (keyed (bytes "dbname") (decoded v))
          dbname-three refl (omega arith) (omega arith) (omega arith) (first-within 63 s at h) (omega (arith, first-within 63 s at h))
          (dbname-some v _ l ∙ ap (λ (x : List ℕ). text (keyed (bytes "dbname")) v (params x)) (drop-drop n at s))

  pub path-says : (at : ℕ) → at ≤ length s → Says s at (2 * (length s - at)) (path (drop at s)) (path_step at (drop at s))
  unfolding path path_step
  path-says at h = by (eqb (get_or (drop at s) 0 0) 47) refl
    where
      by : (b : Bool) → eqb (get_or (drop at s) 0 0) 47 ≡ b
          → Says s at (2 * (length s - at)) (pick b (database (drop 1 (drop at s))) (params (drop at s))) (pick b (database_step (at + 1) (drop 1 (drop at s))) (params_step at (drop at s)))
      by true e =
          let w : at < length s = byte-within at h 47 refl e in
          rw (drop-drop 1 at s)
          (further s (at + 1) (2 * (length s - (at + 1))) _ at (2 * (length s - at)) _ (database_step (at + 1) (drop (at + 1) s)) (omega arith) (omega arith) refl (database-says (at + 1) (omega arith)))
      by false e = params-says at h

  -- what is read behind a chunk that ends at a place
  module _ (at : ℕ) (h : at ≤ length s) where
    abbrev end : ℕ
    end = chunk_end (drop at s)

    abbrev next : Url
    next = behind_chunk (at + end) (drop end (drop at s))

    next-byte : get_or (drop end (drop at s)) 0 0 ≡ get_or (drop at s) end 0
    next-byte = front-byte end (drop at s)

    next-reads : behind_one (drop at s) ≡ reading_from s next
    unfolding behind_chunk reading_from stage_reading
    next-reads = rw next-byte (by (eqb (get_or (drop at s) end 0) 44))
      where
        by : (b : Bool) → pick b (host_chunks (drop (end + 1) (drop at s))) (path (drop end (drop at s)))
            ≡ stage_reading (pick b (url Chunk (at + end + 1)) (url Path (at + end))).stage (drop (pick b (url Chunk (at + end + 1)) (url Path (at + end))).at s)
        by true = let e : at + (end + 1) ≡ at + end + 1 = omega arith in ap host_chunks (drop-drop (end + 1) at s ∙ ap (λ (n : ℕ). drop n s) e)
        by false = ap path (drop-drop end at s)

    end-within : at + end ≤ length s
    end-within = omega (arith, of-most ends_chunk (drop at s), length-drop at s)

    record Next (u : Url) : Type 0 where
      pub low : at + end ≤ u.at
      pub high : u.at ≤ length s
      pub less : left s u < 2 * (length s - at) + 1

    next_fits : Next next
    unfolding behind_chunk left extra
    next_fits = by (eqb (get_or (drop end (drop at s)) 0 0) 44) refl
      where
        by : (b : Bool) → eqb (get_or (drop end (drop at s)) 0 0) 44 ≡ b → Next (pick b (url Chunk (at + end + 1)) (url Path (at + end)))
        by true e =
            let w : end < length (drop at s) = past (λ (x : ℕ). eqb x 44) refl (drop at s) end (ap (λ (x : ℕ). eqb x 44) (sym next-byte) ∙ e) in
            let z : at + end < length s = omega (arith, length-drop at s) in
            record { low = omega arith; high = omega arith; less = omega arith }
        by false e = record { low = omega arith; high = end-within; less = omega arith }

    port-some : (c : List ℕ) (r : Reading) → 0 < length c → port c r ≡ text (keyed (bytes "port")) (drop 1 c) r
    unfolding port
    port-some [] r l = absurd (omega arith)
    port-some (a ∷ c) r l = refl

    port-none : (r : Reading) → port [] r ≡ follows (keyed (bytes "port") (bytes "5432")) r
    unfolding port
    port-none r = refl

    port-fixed-says : (R : Reading) → R ≡ follows (keyed (bytes "port") (bytes "5432")) (reading_from s next) → Says s at (2 * (length s - at) + 1) R (fixed_port at next)
    unfolding value_in kind_of value_of
    port-fixed-says R e =
        record {
          setting = keyed (bytes "port") (bytes "5432");
          kind = port-ten;
          known = omega arith;
          value = refl;
          reads = e;
          starts = omega arith;
          ordered = omega arith;
          within = omega (arith, next_fits.low);
          inside = next_fits.high;
          long = refl;
          short = λ z. absurd (true-false z);
          port-only = λ _. refl;
          falls = next_fits.less;
        }

    pub port-says : Says s at (2 * (length s - at) + 1) (port_and_on (drop at s)) (port_step at (drop at s))
    unfolding port_and_on port_step text kind_of value_of
    port-says = by (eqb end 0) refl
      where
        v : List ℕ
        v = part_of 1 end (drop at s)

        by : (b : Bool) → eqb end 0 ≡ b
            → Says s at (2 * (length s - at) + 1) (port (take end (drop at s)) (behind_one (drop at s)))
            (pick b (fixed_port at next) (give 10 (at + 1) (at + end) (checked (part_of 1 end (drop at s))) next))
        by true e =
            let z : end ≡ 0 = eqb-true _ _ e in
            port-fixed-says _ ((rw z (port-none _)) ∙ ap (follows (keyed (bytes "port") (bytes "5432"))) next-reads)
        by false e =
            let z : end ≡ 0 → ⊥ = eqb-false _ _ e in
            let l : 0 < length (take end (drop at s)) = omega (arith, length-take end (drop at s), of-most ends_chunk (drop at s)) in
            let d : drop 1 (take end (drop at s)) ≡ v = drop-take 1 end (drop at s) ∙ sym (part-is 1 end (drop at s)) in
            give-says s at _ _ 10 (at + 1) (at + end) next v (part-shift at s 1 end) (well_formed (decoded v)) (keyed (bytes "port") (decoded v))
            port-ten refl (omega arith) (omega arith) next_fits.low next_fits.high next_fits.less
            (port-some _ _ l ∙ ap (λ (x : List ℕ). text (keyed (bytes "port")) x (behind_one (drop at s))) d ∙ ap (λ (r : Reading). text (keyed (bytes "port")) v r) next-reads)

    -- a chunk's host
    abbrev piece : List ℕ
    piece = take end (drop at s)

    module _ (spot : HostPlace) (is : host_place piece ≡ Some spot) where
      in-order : Ordered piece spot
      in-order = place-ordered piece spot is

      tail-end : spot.tail ≤ end
      tail-end = omega (arith, in-order.tail, length-take end (drop at s))

      host-part : part_of (at + spot.from) (at + spot.to) s ≡ part_of spot.from spot.to piece
      host-part = part-shift at s spot.from spot.to ∙ sym (part-take spot.from spot.to end (drop at s) (omega (arith, tail-end, in-order.to)))

      tail-reads : port (drop spot.tail piece) (behind_one (drop at s)) ≡ reading_from s (url Port (at + spot.tail))
      unfolding reading_from stage_reading
      tail-reads = sym (port-rest spot.tail (drop at s) tail-end) ∙ ap port_and_on (drop-drop spot.tail at s)

    pub chunk-says : Says s at (2 * (length s - at) + 2) (host_chunks (drop at s)) (chunk_step at (drop at s))
    unfolding chunk_step placed_step host left extra kind_of value_of
    chunk-says =
        further s at (2 * (length s - at) + 2) _ at (2 * (length s - at) + 2) _ (placed_step at piece (host_place piece)) (omega arith) (omega arith)
        (chunks-first (drop at s) ∙ chunk-placed piece (behind_one (drop at s))) (by (host_place piece) refl)
      where
        by : (p : Option HostPlace) → host_place piece ≡ p
            → Says s at (2 * (length s - at) + 2) (placed_by piece (behind_one (drop at s)) p) (placed_step at piece p)
        by None e = refl
        by (Some spot) e =
            let v : List ℕ = part_of spot.from spot.to piece in
            give-says s at _ _ 20 (at + spot.from) (at + spot.to) (url Port (at + spot.tail)) v (host-part spot e) (host_fits (decoded v)) (one_host (decoded v))
            refl refl (omega arith) (omega (arith, (in-order spot e).from)) (omega (arith, (in-order spot e).to)) (omega (arith, tail-end spot e, end-within)) (omega arith)
            (ap (λ (r : Reading). pick (host_fits (decoded v)) (follows (one_host (decoded v)) r) (ends 12)) (tail-reads spot e))

    pub host-says : Says s at (2 * (length s - at) + 2) (hosts (drop at s)) (host_step at (drop at s))
    unfolding hosts host_step
    host-says = by (eqb (first_of ends_hosts (drop at s)) 0)
      where
        by : (b : Bool) → Says s at (2 * (length s - at) + 2) (pick b (path (drop at s)) (host_chunks (drop at s))) (pick b (path_step at (drop at s)) (chunk_step at (drop at s)))
        by true = further s at (2 * (length s - at)) _ at (2 * (length s - at) + 2) _ (path_step at (drop at s)) (omega arith) (omega arith) refl (path-says at h)
        by false = chunk-says

    -- the password, up to the `@` that ends the credentials
    abbrev sign : ℕ
    sign = first_at 64 (drop at s)

    abbrev after-sign : ℕ
    after-sign = skipped (at + sign) (drop sign (drop at s))

    after-sign-is : after-sign ≡ skipped (at + sign) (drop (at + sign) s)
    after-sign-is = ap (skipped (at + sign)) (drop-drop sign at s)

    beyond-sign : beyond 64 (drop at s) ≡ drop (at + sign + 1) s
    beyond-sign = let e : at + (sign + 1) ≡ at + sign + 1 = omega arith in drop-drop (sign + 1) at s ∙ ap (λ (n : ℕ). drop n s) e

    pub password-says : Says s at (2 * (length s - at) + 3) (password (up_to 64 (drop at s)) (hosts (beyond 64 (drop at s)))) (password_step at (drop at s))
    unfolding password password_step left extra kind_of value_of reading_from stage_reading
    password-says =
        let low : at + sign ≤ after-sign = omega (arith, after-sign-is, skip-from (at + sign) s) in
        let high : after-sign ≤ length s = omega (arith, after-sign-is, skip-within (at + sign) s (first-within 64 s at h)) in
        found-says s at _ _ 2 at (at + sign) (url Host after-sign) (up_to 64 (drop at s)) (part-front at s sign) true (keyed (bytes "password") (decoded (up_to 64 (drop at s))))
        password-two refl (omega arith) (omega arith) low high (omega arith)
        (ap (λ (x : List ℕ). follows (keyed (bytes "password") (decoded (up_to 64 (drop at s)))) (hosts x)) (beyond-sign ∙ sym (ap (λ (n : ℕ). drop n s) after-sign-is ∙ drop-skipped (at + sign) s)))

    -- the user, and what is read behind it
    abbrev named : ℕ
    named = user_end (drop at s)

    abbrev after-user : Url
    after-user = pick (ltb named sign) (url Password (at + named + 1)) (url Host (at + sign + 1))

    cut-long : length (up_to 64 (drop at s)) ≡ sign
    cut-long = length-take-le sign (drop at s) (first-most 64 (drop at s))

    named-sign : named ≤ sign
    named-sign = omega (arith, first-most 58 (up_to 64 (drop at s)), cut-long)

    module _ (l : named < sign) where
      -- from behind the `:` on, the same `@` is found
      cut_at : drop (at + named + 1) s ≡ drop (named + 1) (drop at s)
      cut_at = let e : at + (named + 1) ≡ at + named + 1 = omega arith in sym (drop-drop (named + 1) at s ∙ ap (λ (n : ℕ). drop n s) e)

      sign-again : first_at 64 (drop (named + 1) (drop at s)) ≡ sign - (named + 1)
      sign-again = first-drop 64 (named + 1) (drop at s) (omega arith)

      password-part : up_to 64 (drop (named + 1) (drop at s)) ≡ beyond 58 (up_to 64 (drop at s))
      password-part = ap (λ (n : ℕ). take n (drop (named + 1) (drop at s))) sign-again ∙ sym (drop-take (named + 1) sign (drop at s))

      password-rest : beyond 64 (drop (named + 1) (drop at s)) ≡ beyond 64 (drop at s)
      password-rest =
          let e : named + 1 + (sign - (named + 1) + 1) ≡ sign + 1 = omega arith in
          ap (λ (n : ℕ). drop (n + 1) (drop (named + 1) (drop at s))) sign-again
          ∙ drop-drop (sign - (named + 1) + 1) (named + 1) (drop at s) ∙ ap (λ (n : ℕ). drop n (drop at s)) e

    user-reads : pick (has 58 (up_to 64 (drop at s))) (password (beyond 58 (up_to 64 (drop at s))) (hosts (beyond 64 (drop at s)))) (hosts (beyond 64 (drop at s))) ≡ reading_from s after-user
    unfolding reading_from stage_reading
    user-reads = rw cut-long (by (ltb named sign) refl)
      where
        by : (b : Bool) → ltb named sign ≡ b
            → pick b (password (beyond 58 (up_to 64 (drop at s))) (hosts (beyond 64 (drop at s)))) (hosts (beyond 64 (drop at s)))
            ≡ reading_from s (pick b (url Password (at + named + 1)) (url Host (at + sign + 1)))
        by true e =
            let l : named < sign = ltb-true _ _ e in
            rw (cut_at l, password-part l, password-rest l)
        by false e = ap hosts beyond-sign

    record After (u : Url) : Type 0 where
      pub low : at + named ≤ u.at
      pub high : u.at ≤ length s
      pub less : left s u < 2 * (length s - at) + 2

    user-fits : sign < length (drop at s) → After after-user
    unfolding left extra
    user-fits l = by (ltb named sign) refl
      where
        z : at + sign < length s
        z = omega (arith, length-drop at s)

        by : (b : Bool) → ltb named sign ≡ b → After (pick b (url Password (at + named + 1)) (url Host (at + sign + 1)))
        by true e = let n : named < sign = ltb-true _ _ e in record { low = omega arith; high = omega (arith, z); less = omega (arith, z) }
        by false e = record { low = omega (arith, named-sign); high = omega (arith, z); less = omega (arith, z) }

    pub credentials-says : Says s at (2 * (length s - at) + 2) (uri (drop at s)) (credentials_step at (drop at s))
    unfolding uri credentials credentials_step text kind_of value_of
    credentials-says = by (has 64 (drop at s)) refl
      where
        v : List ℕ
        v = take named (drop at s)

        behind : Reading
        behind = pick (has 58 (up_to 64 (drop at s))) (password (beyond 58 (up_to 64 (drop at s))) (hosts (beyond 64 (drop at s)))) (hosts (beyond 64 (drop at s)))

        by : (b : Bool) → has 64 (drop at s) ≡ b
            → Says s at (2 * (length s - at) + 2) (pick b (credentials (up_to 64 (drop at s)) (hosts (beyond 64 (drop at s)))) (hosts (drop at s)))
            (pick b (give 1 at (at + named) (checked (take named (drop at s))) after-user) (host_step at (drop at s)))
        by true e =
            let f : After after-user = user-fits (ltb-true _ _ e) in
            give-says s at _ _ 1 at (at + named) after-user v (part-front at s named) (well_formed (decoded v)) (keyed (bytes "user") (decoded v))
            user-one refl (omega arith) (omega arith) f.low f.high f.less
            (ap (λ (x : List ℕ). text (keyed (bytes "user")) x behind) (take-take named sign (drop at s) named-sign) ∙ ap (λ (r : Reading). text (keyed (bytes "user")) v r) user-reads)
        by false e = host-says

  -- a step at any stage
  pub stage-says : (stage : Stage) (at : ℕ) → at ≤ length s → Says s at (left s (url stage at)) (stage_reading stage (drop at s)) (stage_step stage at (drop at s))
  unfolding left extra stage_reading stage_step
  stage-says Credentials at h = credentials-says at h
  stage-says Password at h = password-says at h
  stage-says Host at h = host-says at h
  stage-says Chunk at h = chunk-says at h
  stage-says Port at h = port-says at h
  stage-says Path at h = further s at (2 * (length s - at)) _ at _ _ (path_step at (drop at s)) (omega arith) (omega arith) refl (path-says at h)
  stage-says Params at h = further s at (2 * (length s - at)) _ at _ _ (params_step at (drop at s)) (omega arith) (omega arith) refl (params-says at h)
  stage-says Parameter at h = further s at (2 * (length s - at)) _ at _ _ (parameter_step at (drop at s)) (omega arith) (omega arith) refl (parameter-says at h)

  pub step-says : (u : Url) → u.at ≤ length s → Says s u.at (left s u) (reading_from s u) (step_at s u)
  unfolding reading_from step_at
  step-says u h = stage-says u.stage u.at h

  -- in the words of a reader's loop: the step gave a setting, or told the end
  pub reading_step : (u : Url) (f : Found) → u.at ≤ length s → step_at s u ≡ given f → Gives s u.at (left s u) (reading_from s u) f
  reading_step u f h e = subst (Says s u.at (left s u) (reading_from s u)) e (step-says u h)

  pub reading-over : (u : Url) → u.at ≤ length s → step_at s u ≡ over → reading_from s u ≡ ends 0
  reading-over u h e = subst (Says s u.at (left s u) (reading_from s u)) e (step-says u h)

  pub reading-refused : (u : Url) (r : Refusal) → u.at ≤ length s → step_at s u ≡ refused r → reading_from s u ≡ ends (refusal_number r)
  reading-refused u r h e = subst (Says s u.at (left s u) (reading_from s u)) e (step-says u h)

  pub reading-end : (u : Url) (e : Option Refusal) → u.at ≤ length s → step_at s u ≡ Err e → reading_from s u ≡ ends (end_number e)
  reading-end u None h q = reading-over u h q
  reading-end u (Some r) h q = reading-refused u r h q

  -- behind the prefix, the whole is left
  pub reading-start : (at : ℕ) → reading_from s (url Credentials at) ≡ uri (drop at s)
  unfolding reading_from stage_reading
  reading-start at = refl

  pub left-start : (at : ℕ) → left s (url Credentials at) ≡ 2 * (length s - at) + 2
  unfolding left extra
  left-start at = refl

  -- no more settings than that come
  settings-below : (n : ℕ) (u : Url) → u.at ≤ length s → left s u < n → length (reading_from s u).settings ≤ left s u
  settings-below zero u h l = absurd (omega arith)
  settings-below (suc n) u h l = by (step_at s u) (step-says u h) (settings-below n)
    where
      by : (step : UrlStep) → Says s u.at (left s u) (reading_from s u) step
          → ((w : Url) → w.at ≤ length s → left s w < n → length (reading_from s w).settings ≤ left s w) → length (reading_from s u).settings ≤ left s u
      by (Ok f) g below =
          let b : left s f.next < left s u = g.falls in
          let r : length (reading_from s f.next).settings ≤ left s f.next = below f.next g.inside (omega arith) in
          rw g.reads (omega (arith, b, r))
      by (Err None) e below = rw e (omega arith)
      by (Err (Some r)) e below = rw e (omega arith)

  pub settings-most : (u : Url) → u.at ≤ length s → length (reading_from s u).settings ≤ left s u
  settings-most u h = settings-below (suc (left s u)) u h (omega arith)

-- at most two settings for each byte, and two more
pub uri-most : (t : List ℕ) → length (uri t).settings ≤ 2 * length t + 2
uri-most t =
    let m : length (reading_from t (url Credentials 0)).settings ≤ left t (url Credentials 0) = settings-most t (url Credentials 0) (omega arith) in
    subst (λ (r : Reading). length r.settings ≤ 2 * length t + 2) (reading-start t 0) (omega (arith, m, left-start t 0))
