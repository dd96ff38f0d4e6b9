-- The most settings that a text within the limit can have: 4,085 commas behind the prefix give 8,172.
-- Assumes nothing.
use Prim.Native.Nat.{ℕ}
use mathlib.Core.Path.{◌≡◌, refl}
use mathlib.Core.List.{List, ◌++◌}
use lib.ListN.{length, replicate}
use Rattle.byte.specs.Ascii.{bytes}
use Rattle.byte.specs.Byte as Byte
use Rattle.byte.specs.Same as Same
use Rattle.utf8.specs.Utf8 as Utf8
use Rattle.percent.specs.Percent as Percent
use Rattle.names.specs.Find as Find
use Rattle.split.specs.Split as Split
use Rattle.url_parser.specs.Uri as Uri
use Rattle.outcome.specs.Outcome.{reading}

abbrev commas : List ℕ
commas = bytes "postgres://" ++ replicate 4085 44

pub within : length commas ≡ 4096
within = refl

pub settings-reached : length (reading commas).settings ≡ 8172
unfolding reading Byte.between Byte.part_of Same.same Same.stands_at Utf8.well_from Utf8.char_at Percent.piece_of Percent.piece_at Percent.decoded_from Percent.decoded Find.start_len Find.prefix_len Split.first_at Split.split Uri.first_of Uri.text Uri.host_fits Uri.host Uri.params Uri.dbname Uri.database Uri.path Uri.port Uri.closes Uri.bracketed Uri.chunk Uri.chunks Uri.ends_hosts Uri.host_chunks Uri.hosts Uri.uri
settings-reached = refl
