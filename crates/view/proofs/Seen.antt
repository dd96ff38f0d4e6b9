-- A setting applied to a record, its value packed behind the buffer, and what is shown then, is that setting given to what was shown.
-- Assumes nothing.
use Prim.Native.Nat.{ℕ, ◌-◌, ◌^◌, ◌≤◌}
use mathlib.Core.Path.{◌≡◌, refl, sym, ap, subst, ◌∙◌}
use mathlib.Core.Bool.{Bool, true, false}
use mathlib.Core.List.{List, [], ◌∷◌, ◌++◌, map, map-append}
use native.Mathlib.Omega.{arith}
use borrow.Author.Tests.{eqb-true, le-leb}
use lib.Dec.{eqb}
use lib.ListN.{length, take, get_or, length-append, length-map}
use Rattle.byte.specs.Byte.{pick}
use Rattle.names.specs.Find.{word_number}
use Rattle.std.specs.Prelude.{Result, Ok, Err, ⊤}
use Rattle.number.specs.Number.{unsigned_of}
use Rattle.split.specs.Split.{split}
use Rattle.address.specs.declared.Address.{Address}
use Rattle.lists.specs.declared.Fault.{Fault}
use Rattle.lists.specs.declared.Host.{Host}
use Rattle.lists.specs.declared.Hosts.{Hosts}
use Rattle.lists.specs.declared.Addresses.{Addresses}
use Rattle.lists.specs.declared.Ports.{Ports}
use Rattle.lists.specs.Fault.{is_fine}
use Rattle.lists.specs.Append.{Piece, good, Slots, append_all, pieces_from, listed}
use Rattle.lists.specs.Lists.{MoreHosts, MoreAddresses, MorePorts, port_slots, more_ports, address_slots, more_addresses, host_slots, more_hosts, port_piece, address_piece, host_piece, host_pushed, ports_after, addresses_after, hosts_after, host_after}
use Rattle.config.specs.declared.Config.{Config}
use Rattle.config.specs.Config.{defaults}
use Rattle.config.specs.Values.{HostValue, host_shown, hosts_shown, addresses_shown, ports_shown, shown}
use Rattle.config.specs.Sound.{counted, text_in, all_in, hosts_in, sound}
use Rattle.apply.specs.Apply.{ssl_mode_of, ssl_negotiation_of, target_session_attrs_of, channel_binding_of, load_balance_hosts_of, word_fault, number_fault, seconds_in, time_after, retries_after, idle_after, keepalives_after, fault_of, after}
use Rattle.view.specs.Given.{list_refused, entries_of, host_value, host_pieces, one_host_piece, address_pieces, port_pieces, refused, given}
use Rattle.view.proofs.Append.{Room, entries, Grown, count_entries, append-fault, append-entries, append-one, pieces-anywhere, refused-seen, entries-seen}
use Rattle.view.proofs.Places.{Laid, laid-whole, laid-pieces, text-on, text-grows, text-seen, text-in, hosts-grow, hosts-shown, hosts-in, all-on, all_append}

-- a record whose lists have sixteen places with at most sixteen counted, and whose set texts and counted hosts lie in the first n bytes
pub record In (n : ℕ) (c : Config) : Type 0 where
  pub user : text_in n c.user ≡ true
  pub password : text_in n c.password ≡ true
  pub dbname : text_in n c.dbname ≡ true
  pub options : text_in n c.options ≡ true
  pub application_name : text_in n c.application_name ≡ true
  pub host : hosts_in n c.host ≡ true
  pub hosts : Room (host_slots c.host)
  pub addresses : Room (address_slots c.hostaddr)
  pub ports : Room (port_slots c.port)

-- the default record lies in no bytes at all
pub defaults-in : In 0 defaults
unfolding defaults text_in hosts_in all_in
defaults-in =
    record {
      user = refl;
      password = refl;
      dbname = refl;
      options = refl;
      application_name = refl;
      host = refl;
      hosts = record { places = refl; counted = omega arith };
      addresses = record { places = refl; counted = omega arith };
      ports = record { places = refl; counted = omega arith };
    }

-- what lies in n bytes lies in more
pub in_on : (n m : ℕ) (c : Config) → n ≤ m → In n c → In m c
unfolding hosts_in
in_on n m c l h =
    record {
      user = text-on n m l c.user h.user;
      password = text-on n m l c.password h.password;
      dbname = text-on n m l c.dbname h.dbname;
      options = text-on n m l c.options h.options;
      application_name = text-on n m l c.application_name h.application_name;
      host = all-on n m l (take c.host.count c.host.list) h.host;
      hosts = h.hosts;
      addresses = h.addresses;
      ports = h.ports;
    }

-- such a record is sound for a buffer of n bytes: a report takes it
pub in-sound : (n : ℕ) (c : Config) → In n c → sound n c ≡ true
unfolding sound counted
in-sound n c h =
    rw (
      le-leb c.host.count 16 h.hosts.counted,
      le-leb c.hostaddr.count 16 h.addresses.counted,
      le-leb c.port.count 16 h.ports.counted,
      h.user,
      h.password,
      h.dbname,
      h.options,
      h.application_name,
      h.host,
    )

-- bytes appended behind change nothing that is shown
pub shown-grows : (b x : List ℕ) (c : Config) → In (length b) c → shown (b ++ x) c ≡ shown b c
unfolding shown hosts_in
shown-grows b x c h =
    rw (
      text-grows b x c.user h.user,
      text-grows b x c.password h.password,
      text-grows b x c.dbname h.dbname,
      text-grows b x c.options h.options,
      text-grows b x c.application_name h.application_name,
      hosts-grow b x (take c.host.count c.host.list) h.host,
    )

-- x is what is packed for a value v of some kind: v itself for the five texts and for hosts
pub record Packs (kind : ℕ) (v x : List ℕ) : Type 0 where
  pub texts : 1 ≤ kind → kind ≤ 5 → x ≡ v
  pub hosts : kind ≡ 8 → x ≡ v
  pub one : kind ≡ 20 → x ≡ v

-- the lists: each is the old one with pieces appended
hosts-are : (h : Hosts) (at : ℕ) (v : List ℕ) → hosts_after h at v ≡ more_hosts (append_all Fault.ManyHosts (host_slots h) (pieces_from host_piece at (split 44 v)))
unfolding hosts_after listed
hosts-are h at v = refl

host-is : (h : Hosts) (at : ℕ) (v : List ℕ) → host_after h at v ≡ more_hosts (append_all Fault.ManyHosts (host_slots h) (pieces_from host_piece at (v ∷ [])))
unfolding host_after host_pushed pieces_from
host-is h at v = ap more_hosts (append-one Fault.ManyHosts (host_slots h) (host_piece at v))

addresses-are : (a : Addresses) (v : List ℕ) → addresses_after a v ≡ more_addresses (append_all Fault.ManyHostaddrs (address_slots a) (address_pieces v))
unfolding addresses_after listed
addresses-are a v = ap (λ (ps : List (Piece Address)). more_addresses (append_all Fault.ManyHostaddrs (address_slots a) ps)) (pieces-anywhere address_piece 0 (split 44 v))

ports-are : (p : Ports) (v : List ℕ) → ports_after p v ≡ more_ports (append_all Fault.ManyPorts (port_slots p) (port_pieces v))
unfolding ports_after listed
ports-are p v = ap (λ (ps : List (Piece ℕ)). more_ports (append_all Fault.ManyPorts (port_slots p) ps)) (pieces-anywhere port_piece 0 (split 44 v))

-- pieces of any type appended: the fault by the entries shown, and the entries where there is none
module _ {A : Type 0} (full : Fault) (s : Slots A) (room : Room s) (ps : List (Piece A)) where
  list-fault : (append_all full s ps).fault ≡ list_refused full (length (entries s)) ps
  list-fault = append-fault full s s ps ∙ ap (λ (n : ℕ). list_refused full n ps) (sym (count_entries s room))

  list-grown : is_fine (list_refused full (length (entries s)) ps) ≡ true → Grown s ps (append_all full s ps).slots
  list-grown fine = append-entries full s s ps room (ap (λ (n : ℕ). is_fine (list_refused full n ps)) (sym (count_entries s room)) ∙ fine)

-- hosts that are laid behind b: what was counted is shown as before, what is new as its bytes say
module _ (h : Hosts) (room : Room (host_slots h)) (b x : List ℕ) (ws : List (List ℕ)) (l : Laid (b ++ x) (length b) ws) where
  abbrev laid_hosts : List (Piece HostValue)
  laid_hosts = map (λ (w : List ℕ). good (host_value w)) ws

  abbrev placed_hosts : List (Piece Host)
  placed_hosts = pieces_from host_piece (length b) ws

  same-fault : list_refused Fault.ManyHosts (length (entries (host_slots h))) placed_hosts ≡ list_refused Fault.ManyHosts (length (hosts_shown b h)) laid_hosts
  same-fault =
      sym (refused-seen (host_shown (b ++ x)) Fault.ManyHosts (length (entries (host_slots h))) placed_hosts)
      ∙ ap (list_refused Fault.ManyHosts (length (entries (host_slots h)))) (hosts-shown (b ++ x) (length b) ws l)
      ∙ ap (λ (n : ℕ). list_refused Fault.ManyHosts n laid_hosts) (sym (length-map (take h.count h.list) (host_shown b)))

  hosts-fault : (append_all Fault.ManyHosts (host_slots h) placed_hosts).fault ≡ list_refused Fault.ManyHosts (length (hosts_shown b h)) laid_hosts
  hosts-fault = list-fault Fault.ManyHosts (host_slots h) room placed_hosts ∙ same-fault

-- a list of hosts, seen with x packed behind b
record Hosted (b x : List ℕ) (l : List HostValue) (h : Hosts) : Type 0 where
  values : hosts_shown (b ++ x) h ≡ l
  inside : hosts_in (length (b ++ x)) h ≡ true
  room : Room (host_slots h)

module _ (b x : List ℕ) (h : Hosts) (room : Room (host_slots h)) (within : hosts_in (length b) h ≡ true) where
  longer : length b ≤ length (b ++ x)
  longer = rw length-append (omega arith)

  hosted-still : Hosted b x (hosts_shown b h) h
  unfolding hosts_in
  hosted-still =
      record {
        values = hosts-grow b x (entries (host_slots h)) within;
        inside = all-on (length b) (length (b ++ x)) longer (entries (host_slots h)) within;
        room = room;
      }

  hosted-more : (ws : List (List ℕ)) → Laid (b ++ x) (length b) ws
      → is_fine (list_refused Fault.ManyHosts (length (hosts_shown b h)) (map (λ (w : List ℕ). good (host_value w)) ws)) ≡ true
      → Hosted b x (hosts_shown b h ++ entries_of (map (λ (w : List ℕ). good (host_value w)) ws)) (more_hosts (append_all Fault.ManyHosts (host_slots h) (pieces_from host_piece (length b) ws))).hosts
  unfolding hosts_in
  hosted-more ws l fine =
      let ps : List (Piece Host) = pieces_from host_piece (length b) ws in
      let g = list-grown Fault.ManyHosts (host_slots h) room ps (ap is_fine (same-fault h room b x ws l) ∙ fine) in
      record {
        values =
            ap (map (host_shown (b ++ x))) g.0
            ∙ map-append (host_shown (b ++ x)) (entries (host_slots h)) (entries_of ps)
            ∙ rw (hosts-grow b x (entries (host_slots h)) within, ← entries-seen (host_shown (b ++ x)) ps, hosts-shown (b ++ x) (length b) ws l);
        inside =
            ap (all_in (length (b ++ x))) g.0
            ∙ all_append (length (b ++ x)) (entries (host_slots h)) (entries_of ps) (all-on (length b) (length (b ++ x)) longer (entries (host_slots h)) within) (hosts-in (b ++ x) (length b) ws l);
        room = g.1;
      }

-- the two ways in which a setting adds hosts, and the others, which add none
module _ (b v x : List ℕ) (h : Hosts) (room : Room (host_slots h)) (within : hosts_in (length b) h ≡ true) where
  hosted : (q r : Bool) → (q ≡ true → x ≡ v) → (r ≡ true → x ≡ v)
      → (q ≡ true → is_fine (list_refused Fault.ManyHosts (length (hosts_shown b h)) (host_pieces v)) ≡ true)
      → (r ≡ true → is_fine (list_refused Fault.ManyHosts (length (hosts_shown b h)) (one_host_piece v)) ≡ true)
      → Hosted b x (pick q (hosts_shown b h ++ entries_of (host_pieces v)) (pick r (hosts_shown b h ++ entries_of (one_host_piece v)) (hosts_shown b h)))
      (pick q (hosts_after h (length b) v).hosts (pick r (host_after h (length b) v).hosts h))
  hosted true r k m f g =
      rw (hosts-are h (length b) v) (hosted-more b x h room within (split 44 v) (subst (λ (y : List ℕ). Laid (b ++ y) (length b) (split 44 v)) (sym (k refl)) (laid-pieces b v)) (f refl))
  hosted false true k m f g =
      rw (host-is h (length b) v) (hosted-more b x h room within (v ∷ []) (subst (λ (y : List ℕ). Laid (b ++ y) (length b) (v ∷ [])) (sym (m refl)) (laid-whole b v)) (g refl))
  hosted false false k m f g = hosted-still b x h room within

-- a list of addresses or ports, with more or as it was
record Listed {A : Type 0} (l : List A) (s : Slots A) : Type 0 where
  values : entries s ≡ l
  room : Room s

addressed : (v : List ℕ) (a : Addresses) → Room (address_slots a) → (q : Bool)
    → (q ≡ true → is_fine (list_refused Fault.ManyHostaddrs (length (addresses_shown a)) (address_pieces v)) ≡ true)
    → Listed (pick q (addresses_shown a ++ entries_of (address_pieces v)) (addresses_shown a)) (address_slots (pick q (addresses_after a v).addresses a))
addressed v a room true f =
    let g = list-grown Fault.ManyHostaddrs (address_slots a) room (address_pieces v) (f refl) in
    rw (addresses-are a v) (record { values = g.0; room = g.1 })
addressed v a room false f = record { values = refl; room = room }

ported : (v : List ℕ) (p : Ports) → Room (port_slots p) → (q : Bool)
    → (q ≡ true → is_fine (list_refused Fault.ManyPorts (length (ports_shown p)) (port_pieces v)) ≡ true)
    → Listed (pick q (ports_shown p ++ entries_of (port_pieces v)) (ports_shown p)) (port_slots (pick q (ports_after p v).ports p))
ported v p room true f =
    let g = list-grown Fault.ManyPorts (port_slots p) room (port_pieces v) (f refl) in
    rw (ports-are p v) (record { values = g.0; room = g.1 })
ported v p room false f = record { values = refl; room = room }

-- the faults of each kind, by those of the four kinds that ask what stands in a list already
abbrev tabled : List ℕ → Result ⊤ Fault → Result ⊤ Fault → Result ⊤ Fault → Result ⊤ Fault → List (Result ⊤ Fault)
tabled v hosts addresses ports host =
    Err Fault.UnknownKey ∷
    Ok tt ∷
    Ok tt ∷
    Ok tt ∷
    Ok tt ∷
    Ok tt ∷
    word_fault (word_number 6 v) ∷
    word_fault (word_number 7 v) ∷
    hosts ∷
    addresses ∷
    ports ∷
    number_fault (seconds_in v) ∷
    number_fault (seconds_in v) ∷
    number_fault (unsigned_of (2 ^ 64 - 1) v) ∷
    number_fault (seconds_in v) ∷
    number_fault (seconds_in v) ∷
    number_fault (unsigned_of (2 ^ 32 - 1) v) ∷
    word_fault (word_number 17 v) ∷
    word_fault (word_number 18 v) ∷
    word_fault (word_number 19 v) ∷
    host ∷
    []

-- a setting is refused by what is shown
pub seen-fault : (b v : List ℕ) (kind : ℕ) (c : Config) → In (length b) c → fault_of kind v (length b) c ≡ refused kind v (shown b c)
unfolding fault_of refused shown
seen-fault b v kind c h = λ i. get_or (tabled v (hosts i) (addresses i) (ports i) (host i)) kind (Err Fault.UnknownKey)
  where
    hosts : (hosts_after c.host (length b) v).fault ≡ list_refused Fault.ManyHosts (length (hosts_shown b c.host)) (host_pieces v)
    hosts = ap (λ (m : MoreHosts). m.fault) (hosts-are c.host (length b) v) ∙ hosts-fault c.host h.hosts b v (split 44 v) (laid-pieces b v)

    addresses : (addresses_after c.hostaddr v).fault ≡ list_refused Fault.ManyHostaddrs (length (addresses_shown c.hostaddr)) (address_pieces v)
    addresses =
        ap (λ (m : MoreAddresses). m.fault) (addresses-are c.hostaddr v)
        ∙ list-fault Fault.ManyHostaddrs (address_slots c.hostaddr) h.addresses (address_pieces v)

    ports : (ports_after c.port v).fault ≡ list_refused Fault.ManyPorts (length (ports_shown c.port)) (port_pieces v)
    ports = ap (λ (m : MorePorts). m.fault) (ports-are c.port v) ∙ list-fault Fault.ManyPorts (port_slots c.port) h.ports (port_pieces v)

    host : (host_after c.host (length b) v).fault ≡ list_refused Fault.ManyHosts (length (hosts_shown b c.host)) (one_host_piece v)
    host = ap (λ (m : MoreHosts). m.fault) (host-is c.host (length b) v) ∙ hosts-fault c.host h.hosts b v (v ∷ []) (laid-whole b v)

module _ (b v x : List ℕ) (kind : ℕ) (c : Config) (h : In (length b) c) (p : Packs kind v x) (fine : is_fine (refused kind v (shown b c)) ≡ true) where
  is-text : (k : ℕ) → 1 ≤ k → k ≤ 5 → eqb kind k ≡ true → x ≡ v
  is-text k lo hi e = let q : kind ≡ k = eqb-true kind k e in p.texts (omega arith) (omega arith)

  fine-at : (k : ℕ) → eqb kind k ≡ true → is_fine (refused k v (shown b c)) ≡ true
  fine-at k e = subst (λ (j : ℕ). is_fine (refused j v (shown b c)) ≡ true) (eqb-true kind k e) fine

  hosts-now : Hosted b x
      (pick (eqb kind 8) (hosts_shown b c.host ++ entries_of (host_pieces v)) (pick (eqb kind 20) (hosts_shown b c.host ++ entries_of (one_host_piece v)) (hosts_shown b c.host)))
      (pick (eqb kind 8) (hosts_after c.host (length b) v).hosts (pick (eqb kind 20) (host_after c.host (length b) v).hosts c.host))
  unfolding refused shown
  hosts-now =
      hosted b v x c.host h.hosts h.host (eqb kind 8) (eqb kind 20) (λ (e : eqb kind 8 ≡ true). p.hosts (eqb-true kind 8 e)) (λ (e : eqb kind 20 ≡ true). p.one (eqb-true kind 20 e))
      (fine-at 8) (fine-at 20)

  addresses-now : Listed (pick (eqb kind 9) (addresses_shown c.hostaddr ++ entries_of (address_pieces v)) (addresses_shown c.hostaddr)) (address_slots (pick (eqb kind 9) (addresses_after c.hostaddr v).addresses c.hostaddr))
  unfolding refused shown
  addresses-now = addressed v c.hostaddr h.addresses (eqb kind 9) (fine-at 9)

  ports-now : Listed (pick (eqb kind 10) (ports_shown c.port ++ entries_of (port_pieces v)) (ports_shown c.port)) (port_slots (pick (eqb kind 10) (ports_after c.port v).ports c.port))
  unfolding refused shown
  ports-now = ported v c.port h.ports (eqb kind 10) (fine-at 10)

  -- what is shown after a setting is the setting given to what was shown
  pub seen : shown (b ++ x) (after kind v (length b) c) ≡ given kind v (shown b c)
  unfolding after given shown
  seen =
      λ i.
      record {
        user = text-seen b x v c.user h.user (eqb kind 1) (is-text 1 (omega arith) (omega arith)) i;
        password = text-seen b x v c.password h.password (eqb kind 2) (is-text 2 (omega arith) (omega arith)) i;
        dbname = text-seen b x v c.dbname h.dbname (eqb kind 3) (is-text 3 (omega arith) (omega arith)) i;
        options = text-seen b x v c.options h.options (eqb kind 4) (is-text 4 (omega arith) (omega arith)) i;
        application_name = text-seen b x v c.application_name h.application_name (eqb kind 5) (is-text 5 (omega arith) (omega arith)) i;
        ssl_mode = pick (eqb kind 6) (ssl_mode_of (word_number 6 v)) c.ssl_mode;
        ssl_negotiation = pick (eqb kind 7) (ssl_negotiation_of (word_number 7 v)) c.ssl_negotiation;
        host = hosts-now.values i;
        hostaddr = addresses-now.values i;
        port = ports-now.values i;
        connect_timeout = pick (eqb kind 11) (time_after c.connect_timeout (seconds_in v)) c.connect_timeout;
        tcp_user_timeout = pick (eqb kind 12) (time_after c.tcp_user_timeout (seconds_in v)) c.tcp_user_timeout;
        keepalives = pick (eqb kind 13) (keepalives_after c.keepalives (unsigned_of (2 ^ 64 - 1) v)) c.keepalives;
        keepalives_idle = pick (eqb kind 14) (idle_after c.keepalives_idle (seconds_in v)) c.keepalives_idle;
        keepalives_interval = pick (eqb kind 15) (time_after c.keepalives_interval (seconds_in v)) c.keepalives_interval;
        keepalives_retries = pick (eqb kind 16) (retries_after c.keepalives_retries (unsigned_of (2 ^ 32 - 1) v)) c.keepalives_retries;
        target_session_attrs =
            pick (eqb kind 17) (target_session_attrs_of (word_number 17 v)) c.target_session_attrs;
        channel_binding = pick (eqb kind 18) (channel_binding_of (word_number 18 v)) c.channel_binding;
        load_balance_hosts = pick (eqb kind 19) (load_balance_hosts_of (word_number 19 v)) c.load_balance_hosts;
      }

  -- and the record lies in what is packed then
  pub still-in : In (length (b ++ x)) (after kind v (length b) c)
  unfolding after
  still-in =
      record {
        user = text-in b x v c.user h.user (eqb kind 1) (is-text 1 (omega arith) (omega arith));
        password = text-in b x v c.password h.password (eqb kind 2) (is-text 2 (omega arith) (omega arith));
        dbname = text-in b x v c.dbname h.dbname (eqb kind 3) (is-text 3 (omega arith) (omega arith));
        options = text-in b x v c.options h.options (eqb kind 4) (is-text 4 (omega arith) (omega arith));
        application_name = text-in b x v c.application_name h.application_name (eqb kind 5) (is-text 5 (omega arith) (omega arith));
        host = hosts-now.inside;
        hosts = hosts-now.room;
        addresses = addresses-now.room;
        ports = ports-now.room;
      }
