-- What a report tells: read back, it gives all that was shown, of the password whether it is set. Equal has what follows for two reports.
-- Assumes nothing.
use Prim.Native.Nat.{ℕ, ◌+◌, ◌<◌}
use mathlib.Core.Path.{◌≡◌, refl, ap, ◌∙◌}
use mathlib.Core.Bool.{Bool, true, false}
use mathlib.Core.List.{List, [], ◌∷◌, map}
use Rattle.std.specs.Prelude.{Option, Some, None}
use native.Mathlib.Omega.{arith}
use lib.ListN.{get_or}
use Rattle.byte.specs.Byte.{pick}
use Rattle.names.specs.Names.{words_of}
use Rattle.names.specs.Find.{word_number}
use Rattle.split.specs.Split.{split}
use Rattle.address.specs.declared.Address.{Address}
use Rattle.draw.specs.Parts.{joined}
use Rattle.escape.specs.Escape.{text_value}
use Rattle.line.specs.Line.{secret_value, word_value, number_value, address_value}
use Rattle.field.specs.Field.{mode_number, negotiation_number, target_number, binding_number, balance_number, optional, named_host, switch_value}
use Rattle.config.specs.declared.SslMode.{SslMode}
use Rattle.config.specs.declared.SslNegotiation.{SslNegotiation}
use Rattle.config.specs.declared.TargetSessionAttrs.{TargetSessionAttrs}
use Rattle.config.specs.declared.ChannelBinding.{ChannelBinding}
use Rattle.config.specs.declared.LoadBalanceHosts.{LoadBalanceHosts}
use Rattle.config.specs.Values.{HostValue, Values}
use Rattle.view.specs.Hidden.{only_set, hidden}
use Rattle.report.specs.Report.{values, report}
use Rattle.telling.specs.Bound.{All, Maybe}
use Rattle.telling.specs.Ranged.{Bytes, Small, HostsBytes, SmallAddresses, Ranged}
use Rattle.telling.specs.ReadBack.{values_of, first_back, only_back, mode_back, negotiation_back, target_back, binding_back, balance_back, text_back, host_back, number_back, address_back, switch_back, rows_back, read_back}
use Rattle.telling.proofs.Free.{word_end, text-end, secret-end, number-end, named_end, kind-all-end}
use Rattle.telling.proofs.Rows.{FreeValues, FreeAll, values-back}
use Rattle.telling.proofs.Back.{text-back, host-back, number-back, word_back, kind-back}

-- no value has a line's end in it
texts-end : (t : Option (List ℕ)) → FreeValues (optional text_value t)
texts-end None = tt
texts-end (Some x) = (text-end x, tt)

secrets-end : (t : Option (List ℕ)) → FreeValues (optional (λ (x : List ℕ). secret_value) t)
secrets-end None = tt
secrets-end (Some x) = (secret-end, tt)

numbers-end : (t : Option ℕ) → Maybe Small t → FreeValues (optional number_value t)
numbers-end None h = tt
numbers-end (Some n) h = (number-end n h, tt)

hosts-end : (hs : List HostValue) → FreeValues (map named_host hs)
hosts-end [] = tt
hosts-end (h ∷ hs) = (named_end h, hosts-end hs)

addresses-end : (l : List Address) → SmallAddresses l → FreeValues (map address_value l)
addresses-end [] h = tt
addresses-end (a ∷ l) h = (kind-all-end a.kind h.0, addresses-end l h.1)

ports-end : (ps : List ℕ) → All Small ps → FreeValues (map number_value ps)
ports-end [] h = tt
ports-end (p ∷ ps) h = (number-end p h.0, ports-end ps h.1)

switch-small : (on : Bool) → Small (pick on 1 0)
switch-small true = omega arith
switch-small false = omega arith

mode-few : (m : SslMode) → mode_number m < 4
mode-few SslMode.Disable = omega arith
mode-few SslMode.Prefer = omega arith
mode-few SslMode.Require = omega arith

negotiation-few : (m : SslNegotiation) → negotiation_number m < 4
negotiation-few SslNegotiation.Postgres = omega arith
negotiation-few SslNegotiation.Direct = omega arith

target-few : (m : TargetSessionAttrs) → target_number m < 4
target-few TargetSessionAttrs.Any = omega arith
target-few TargetSessionAttrs.ReadWrite = omega arith
target-few TargetSessionAttrs.ReadOnly = omega arith

binding-few : (m : ChannelBinding) → binding_number m < 4
binding-few ChannelBinding.Disable = omega arith
binding-few ChannelBinding.Prefer = omega arith
binding-few ChannelBinding.Require = omega arith

balance-few : (m : LoadBalanceHosts) → balance_number m < 4
balance-few LoadBalanceHosts.Disable = omega arith
balance-few LoadBalanceHosts.Random = omega arith

-- what may be unset, and lists, read back
module _ {A : Type 0} (f : A → List (List ℕ)) (g : List ℕ → A) where
  option_back : (p : A → Type 0) → ((x : A) → p x → g (joined (f x)) ≡ x) → (t : Option A) → Maybe p t → first_back g (map joined (optional f t)) ≡ t
  option_back p back None h = refl
  option_back p back (Some x) h = ap Some (back x h)

secret-back : (t : Option (List ℕ)) → first_back {A = List ℕ} (λ (x : List ℕ). []) (map joined (optional (λ (x : List ℕ). secret_value) t)) ≡ only_set t
secret-back None = refl
secret-back (Some x) = refl

hosts-back : (hs : List HostValue) → HostsBytes hs → map host_back (map joined (map named_host hs)) ≡ hs
hosts-back [] b = refl
hosts-back (h ∷ hs) b = λ i. host-back h b.0 i ∷ hosts-back hs b.1 i

addresses-back : (l : List Address) → SmallAddresses l → map address_back (map joined (map address_value l)) ≡ l
addresses-back [] h = refl
addresses-back (a ∷ l) h = λ i. record { kind = kind-back a.kind h.0 i } ∷ addresses-back l h.1 i

ports-back : (ps : List ℕ) → All Small ps → map number_back (map joined (map number_value ps)) ≡ ps
ports-back [] h = refl
ports-back (p ∷ ps) h = λ i. number-back p h.0 i ∷ ports-back ps h.1 i

switch_back-switch_value : (on : Bool) → switch_back (joined (switch_value on)) ≡ on
switch_back-switch_value true = rw (number-back 1 (omega arith))
switch_back-switch_value false = rw (number-back 0 (omega arith))

mode-back : (m : SslMode) → mode_back (word_number 6 (joined (word_value 6 (mode_number m)))) ≡ m
unfolding words_of
mode-back SslMode.Disable = rw (word_back 6 0 (omega arith) (omega arith))
mode-back SslMode.Prefer = rw (word_back 6 1 (omega arith) (omega arith))
mode-back SslMode.Require = rw (word_back 6 2 (omega arith) (omega arith))

negotiation-back : (m : SslNegotiation) → negotiation_back (word_number 7 (joined (word_value 7 (negotiation_number m)))) ≡ m
unfolding words_of
negotiation-back SslNegotiation.Postgres = rw (word_back 7 0 (omega arith) (omega arith))
negotiation-back SslNegotiation.Direct = rw (word_back 7 1 (omega arith) (omega arith))

target-back : (m : TargetSessionAttrs) → target_back (word_number 17 (joined (word_value 17 (target_number m)))) ≡ m
unfolding words_of
target-back TargetSessionAttrs.Any = rw (word_back 17 0 (omega arith) (omega arith))
target-back TargetSessionAttrs.ReadWrite = rw (word_back 17 1 (omega arith) (omega arith))
target-back TargetSessionAttrs.ReadOnly = rw (word_back 17 2 (omega arith) (omega arith))

binding-back : (m : ChannelBinding) → binding_back (word_number 18 (joined (word_value 18 (binding_number m)))) ≡ m
unfolding words_of
binding-back ChannelBinding.Disable = rw (word_back 18 0 (omega arith) (omega arith))
binding-back ChannelBinding.Prefer = rw (word_back 18 1 (omega arith) (omega arith))
binding-back ChannelBinding.Require = rw (word_back 18 2 (omega arith) (omega arith))

balance-back : (m : LoadBalanceHosts) → balance_back (word_number 19 (joined (word_value 19 (balance_number m)))) ≡ m
unfolding words_of
balance-back LoadBalanceHosts.Disable = rw (word_back 19 0 (omega arith) (omega arith))
balance-back LoadBalanceHosts.Random = rw (word_back 19 1 (omega arith) (omega arith))

module _ (v : Values) (r : Ranged v) where
  free-values : FreeAll (values v)
  unfolding values
  free-values = (
    texts-end v.user,
    (
      secrets-end v.password,
      (
        texts-end v.dbname,
        (
          texts-end v.options,
          (
            texts-end v.application_name,
            (
              (word_end 6 (mode_number v.ssl_mode) (omega arith) (mode-few v.ssl_mode), tt),
              (
                (word_end 7 (negotiation_number v.ssl_negotiation) (omega arith) (negotiation-few v.ssl_negotiation), tt),
                (
                  hosts-end v.host,
                  (
                    addresses-end v.hostaddr r.hostaddr,
                    (
                      ports-end v.port r.port,
                      (
                        numbers-end v.connect_timeout r.connect,
                        (
                          numbers-end v.tcp_user_timeout r.user-time,
                          (
                            (number-end (pick v.keepalives 1 0) (switch-small v.keepalives), tt),
                            (
                              (number-end v.keepalives_idle r.idle, tt),
                              (
                                numbers-end v.keepalives_interval r.interval,
                                (
                                  numbers-end v.keepalives_retries r.retries,
                                  (
                                    (word_end 17 (target_number v.target_session_attrs) (omega arith) (target-few v.target_session_attrs), tt),
                                    (
                                      (word_end 18 (binding_number v.channel_binding) (omega arith) (binding-few v.channel_binding), tt),
                                      (
                                        (word_end 19 (balance_number v.load_balance_hosts) (omega arith) (balance-few v.load_balance_hosts), tt),
                                        tt,
                                      ),
                                    ),
                                  ),
                                ),
                              ),
                            ),
                          ),
                        ),
                      ),
                    ),
                  ),
                ),
              ),
            ),
          ),
        ),
      ),
    ),
  )

  -- the values of the key at place i
  key-values : (i : ℕ) → i < 19 → values_of (1 + i) (split 10 (report v)) ≡ map joined (get_or (values v) i [])
  unfolding report values
  key-values i h = values-back (values v) i (omega arith) (omega arith) free-values

  -- Read back, a report gives what was shown.
  pub told : read_back (report v) ≡ hidden v
  unfolding read_back rows_back hidden values
  told =
      λ i. record {
        user = (ap (first_back text_back) (key-values 0 (omega arith)) ∙ option_back text_value text_back Bytes text-back v.user r.user) i;
        password = (ap (first_back {A = List ℕ} (λ (x : List ℕ). [])) (key-values 1 (omega arith)) ∙ secret-back v.password) i;
        dbname = (ap (first_back text_back) (key-values 2 (omega arith)) ∙ option_back text_value text_back Bytes text-back v.dbname r.dbname) i;
        options = (ap (first_back text_back) (key-values 3 (omega arith)) ∙ option_back text_value text_back Bytes text-back v.options r.options) i;
        application_name = (ap (first_back text_back) (key-values 4 (omega arith)) ∙ option_back text_value text_back Bytes text-back v.application_name r.name) i;
        ssl_mode = (ap (only_back (λ (x : List ℕ). mode_back (word_number 6 x))) (key-values 5 (omega arith)) ∙ mode-back v.ssl_mode) i;
        ssl_negotiation = (ap (only_back (λ (x : List ℕ). negotiation_back (word_number 7 x))) (key-values 6 (omega arith)) ∙ negotiation-back v.ssl_negotiation) i;
        host = (ap (map host_back) (key-values 7 (omega arith)) ∙ hosts-back v.host r.host) i;
        hostaddr = (ap (map address_back) (key-values 8 (omega arith)) ∙ addresses-back v.hostaddr r.hostaddr) i;
        port = (ap (map number_back) (key-values 9 (omega arith)) ∙ ports-back v.port r.port) i;
        connect_timeout = (ap (first_back number_back) (key-values 10 (omega arith)) ∙ option_back number_value number_back Small number-back v.connect_timeout r.connect) i;
        tcp_user_timeout = (ap (first_back number_back) (key-values 11 (omega arith)) ∙ option_back number_value number_back Small number-back v.tcp_user_timeout r.user-time) i;
        keepalives = (ap (only_back switch_back) (key-values 12 (omega arith)) ∙ switch_back-switch_value v.keepalives) i;
        keepalives_idle = (ap (only_back number_back) (key-values 13 (omega arith)) ∙ number-back v.keepalives_idle r.idle) i;
        keepalives_interval = (ap (first_back number_back) (key-values 14 (omega arith)) ∙ option_back number_value number_back Small number-back v.keepalives_interval r.interval) i;
        keepalives_retries = (ap (first_back number_back) (key-values 15 (omega arith)) ∙ option_back number_value number_back Small number-back v.keepalives_retries r.retries) i;
        target_session_attrs = (ap (only_back (λ (x : List ℕ). target_back (word_number 17 x))) (key-values 16 (omega arith)) ∙ target-back v.target_session_attrs) i;
        channel_binding = (ap (only_back (λ (x : List ℕ). binding_back (word_number 18 x))) (key-values 17 (omega arith)) ∙ binding-back v.channel_binding) i;
        load_balance_hosts = (ap (only_back (λ (x : List ℕ). balance_back (word_number 19 x))) (key-values 18 (omega arith)) ∙ balance-back v.load_balance_hosts) i;
      }
