-- A setter that is not refused, and what is shown then: the new value under its key, and every other setting as it was.
-- Assumes nothing.
use Rattle.std.specs.Prelude.{Some}
use Prim.Native.Nat.{ℕ, ◌<◌}
use mathlib.Core.Path.{◌≡◌, refl, ap, ◌∙◌}
use mathlib.Core.Bool.{Bool, true, false}
use mathlib.Core.List.{List, [], ◌∷◌, ◌++◌}
use native.Mathlib.Omega.{arith}
use native.Mathlib.Numerals.{add-one}
use borrow.Author.Tests.{lt-ltb, eq-eqb, eqb-true}
use lib.Dec.{eqb}
use lib.ListN.{length}
use lib.Seq.{take-suc-set}
use Rattle.byte.specs.Byte.{pick}
use Rattle.address.specs.declared.Address.{Address}
use Rattle.lists.specs.declared.Addresses.{Addresses}
use Rattle.lists.specs.declared.Ports.{Ports}
use Rattle.lists.specs.Lists.{address_kept, port_kept}
use Rattle.config.specs.declared.Config.{Config}
use Rattle.config.specs.Values.{addresses_shown, ports_shown, shown}
use Rattle.setters.specs.Setter.{Value, refusal, changed, set}
use Rattle.setter_laws.specs.Shown.{set_shown}
use Rattle.setter_laws.proofs.Numbers.{judged}

-- lists of sixteen places, as every record's are: proofs/Placed
pub record Placed (c : Config) : Type 0 where
  pub addresses : length c.hostaddr.list ≡ 16
  pub ports : length c.port.list ≡ 16

addresses-seen : (a : Addresses) (x : Address) → length a.list ≡ 16 → a.count < 16 → addresses_shown (address_kept a x).addresses ≡ addresses_shown a ++ (x ∷ [])
unfolding address_kept
addresses-seen a x n l = rw (lt-ltb a.count 16 l, add-one, take-suc-set a.list a.count x (omega (arith, n)))

ports-seen : (p : Ports) (x : ℕ) → length p.list ≡ 16 → p.count < 16 → ports_shown (port_kept p x).ports ≡ ports_shown p ++ (x ∷ [])
unfolding port_kept
ports-seen p x n l = rw (lt-ltb p.count 16 l, add-one, take-suc-set p.list p.count x (omega (arith, n)))

listed : {A B : Type 0} (f : A → B) (q : Bool) (new old : A) (b : B) → (q ≡ true → f new ≡ b) → f (pick q new old) ≡ pick q b (f old)
listed f true new old b h = h refl
listed f false new old b h = refl

module _ (b : List ℕ) (key : ℕ) (v : Value) (c : Config) (p : Placed c) (done : (set key v c).number ≡ 0) where
  stored : (set key v c).config ≡ changed key v c
  unfolding set
  stored = rw (eq-eqb (refusal key v c) 0 done)

  addresses-now : addresses_shown (pick (eqb key 9) (address_kept c.hostaddr v.address).addresses c.hostaddr) ≡ pick (eqb key 9) (addresses_shown c.hostaddr ++ (v.address ∷ [])) (addresses_shown c.hostaddr)
  addresses-now =
      listed addresses_shown (eqb key 9) (address_kept c.hostaddr v.address).addresses c.hostaddr (addresses_shown c.hostaddr ++ (v.address ∷ []))
      (λ (e : eqb key 9 ≡ true). addresses-seen c.hostaddr v.address p.addresses (((judged key v c).zero done).1 (eqb-true key 9 e)))

  ports-now : ports_shown (pick (eqb key 10) (port_kept c.port v.number).ports c.port) ≡ pick (eqb key 10) (ports_shown c.port ++ (v.number ∷ [])) (ports_shown c.port)
  ports-now =
      listed ports_shown (eqb key 10) (port_kept c.port v.number).ports c.port (ports_shown c.port ++ (v.number ∷ []))
      (λ (e : eqb key 10 ≡ true). ports-seen c.port v.number p.ports (((judged key v c).zero done).2 (eqb-true key 10 e)))

  changed-seen : shown b (changed key v c) ≡ set_shown key v (shown b c)
  unfolding changed shown set_shown
  changed-seen =
      λ i.
      record {
        user = (shown b c).user;
        password = (shown b c).password;
        dbname = (shown b c).dbname;
        options = (shown b c).options;
        application_name = (shown b c).application_name;
        ssl_mode = pick (eqb key 6) v.mode c.ssl_mode;
        ssl_negotiation = pick (eqb key 7) v.negotiation c.ssl_negotiation;
        host = (shown b c).host;
        hostaddr = addresses-now i;
        port = ports-now i;
        connect_timeout = pick (eqb key 11) (Some v.number) c.connect_timeout;
        tcp_user_timeout = pick (eqb key 12) (Some v.number) c.tcp_user_timeout;
        keepalives = pick (eqb key 13) v.switch c.keepalives;
        keepalives_idle = pick (eqb key 14) v.number c.keepalives_idle;
        keepalives_interval = pick (eqb key 15) (Some v.number) c.keepalives_interval;
        keepalives_retries = pick (eqb key 16) (Some v.number) c.keepalives_retries;
        target_session_attrs = pick (eqb key 17) v.target c.target_session_attrs;
        channel_binding = pick (eqb key 18) v.binding c.channel_binding;
        load_balance_hosts = pick (eqb key 19) v.balance c.load_balance_hosts;
      }

  -- the new value is shown, and every other setting as it was
  pub set-seen : shown b (set key v c).config ≡ set_shown key v (shown b c)
  set-seen = ap (shown b) stored ∙ changed-seen
