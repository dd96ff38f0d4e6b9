-- The texts at the edges that document 01 marks P: what each gives, and what it leaves in a decode buffer that is two bytes longer and held sevens.
-- Assumes nothing.
use Rattle.std.specs.Prelude.{ℕ, ◌+◌, ◌-◌, List, [], ◌∷◌, ◌++◌, length, replicate, Option, Some}
use Prim.Native.String.{String}
use Rattle.byte.specs.Ascii.{bytes}
use Rattle.lists.specs.declared.Place.{Place}
use Rattle.lists.specs.declared.HostKind.{HostKind}
use Rattle.lists.specs.declared.Host.{Host}
use Rattle.lists.specs.declared.Hosts.{Hosts}
use Rattle.lists.specs.declared.Ports.{Ports}
use Rattle.config.specs.declared.Config.{Config}
use Rattle.config.specs.Config.{nowhere, unset, never, defaults}
use Rattle.outcome.specs.declared.Answer.{Answer}
use Rattle.outcome.specs.Outcome.{answer, left}

-- what a text gives: its whole answer, and the whole buffer
pub record Given : Type 0 where
  pub answers : Answer
  pub leaves : List ℕ

pub record Row : Type 0 where
  pub text : String
  pub gives : Given

-- a text run through the definitions that `reader::read` is proved equal to
unfoldable pub run : String → Given
run t = record { answers = answer (bytes t) (length (bytes t) + 2); leaves = left (bytes t) (replicate (length (bytes t) + 2) 7) }

-- a text, a host and lists that are set, and a record with the defaults for all else
abbrev pub set : ℕ → ℕ → Option Place
set start len = Some (record { start = start; len = len })

abbrev pub tcp : ℕ → ℕ → Host
tcp start len = record { kind = HostKind.Tcp (record { start = start; len = len }) }

abbrev pub hosts : List Host → Hosts
hosts hs = record { list = hs ++ replicate (16 - length hs) (record { kind = HostKind.Tcp nowhere }); count = length hs }

abbrev pub ports : List ℕ → Ports
ports ps = record { list = ps ++ replicate (16 - length ps) 0; count = length ps }

abbrev pub config : Option Place → Option Place → List Host → List ℕ → Option ℕ → Config
config user dbname hs ps timeout =
    record {
      user = user;
      password = defaults.password;
      dbname = dbname;
      options = defaults.options;
      application_name = defaults.application_name;
      ssl_mode = defaults.ssl_mode;
      ssl_negotiation = defaults.ssl_negotiation;
      host = hosts hs;
      hostaddr = defaults.hostaddr;
      port = ports ps;
      connect_timeout = timeout;
      tcp_user_timeout = defaults.tcp_user_timeout;
      keepalives = defaults.keepalives;
      keepalives_idle = defaults.keepalives_idle;
      keepalives_interval = defaults.keepalives_interval;
      keepalives_retries = defaults.keepalives_retries;
      target_session_attrs = defaults.target_session_attrs;
      channel_binding = defaults.channel_binding;
      load_balance_hosts = defaults.load_balance_hosts;
    }

-- the buffer: what is packed, zeros up to the text's length, and two sevens
abbrev pub buffer : String → String → List ℕ
buffer text packed = bytes packed ++ replicate (length (bytes text) - length (bytes packed)) 0 ++ (7 ∷ 7 ∷ [])

abbrev pub accepts : String → ℕ → Config → String → Row
accepts t count c packed = record { text = t; gives = record { answers = record { number = 0; key = 0; count = count; config = c }; leaves = buffer t packed } }

abbrev pub refuses : String → ℕ → ℕ → ℕ → Row
refuses t number key count = record { text = t; gives = record { answers = record { number = number; key = key; count = count; config = defaults }; leaves = buffer t "" } }

-- 01's worked example: two hosts, a password with a space, and a port list that ends with a comma
abbrev pub worked : String
worked = "host=db1,/run/pg user=ann password='a b' port=6000,"

-- its report, a line each
abbrev pub worked_lines : List String
worked_lines =
    "user=ann" ∷
    "password=_" ∷
    "sslmode=prefer" ∷
    "sslnegotiation=postgres" ∷
    "host=tcp:db1" ∷
    "host=unix:/run/pg" ∷
    "port=6000" ∷
    "port=5432" ∷
    "keepalives=1" ∷
    "keepalives_idle=7200" ∷
    "target_session_attrs=any" ∷
    "channel_binding=prefer" ∷
    "load_balance_hosts=disable" ∷
    []

-- lines, "each ended by byte 0x0A"
abbrev pub printed : List String → List ℕ
printed [] = []
printed (l ∷ ls) = bytes l ++ (0x0A ∷ []) ++ printed ls

-- "So a bad first setting wins over broken syntax behind it."
abbrev pub broken_behind : Row
broken_behind = refuses "port=x user" 5 10 0

abbrev pub table : List Row
table =
    accepts "" 0 defaults "" ∷
    accepts "=x" 0 defaults "" ∷
    accepts "user= dbname=x" 1 (config (set 0 8) unset [] [] never) "dbname=x" ∷
    accepts "user=''" 1 (config (set 0 0) unset [] [] never) "" ∷
    refuses "user=\\" 8 0 0 ∷
    refuses "user='a\\" 9 0 0 ∷
    accepts "user='a'dbname=b" 2 (config (set 0 1) (set 1 1) [] [] never) "ab" ∷
    accepts "port=65535" 1 (config unset unset [] (65535 ∷ []) never) "" ∷
    refuses "port=65536" 5 10 0 ∷
    accepts "connect_timeout=5 connect_timeout=0" 2 (config unset unset [] [] (Some 5)) "" ∷
    accepts "postgres://," 4 (config unset unset (tcp 0 0 ∷ tcp 0 0 ∷ []) (5432 ∷ 5432 ∷ []) never) "" ∷
    accepts "postgres://@h" 3 (config (set 0 0) unset (tcp 0 1 ∷ []) (5432 ∷ []) never) "h" ∷
    accepts "postgres:///?host=a,b" 1 (config unset unset (tcp 0 3 ∷ []) [] never) "a,b" ∷
    []
