-- Texts whose readings agree in everything but values set under password, by computation: there are such texts, accepted and refused, of either form.
-- Assumes nothing.
use Prim.Native.String.{String}
use mathlib.Core.Path.{◌≡◌, refl}
use mathlib.Core.List.{List, [], ◌∷◌, map}
use Rattle.byte.specs.Ascii.{bytes}
use Rattle.byte.specs.Byte as Byte
use Rattle.byte.specs.Digit as Digit
use Rattle.byte.specs.Put as Put
use Rattle.byte.specs.Same as Same
use Rattle.space.specs.Space as Space
use Rattle.utf8.specs.Utf8 as Utf8
use Rattle.percent.specs.Percent as Percent
use Rattle.names.specs.Find as Find
use Rattle.setting.specs.Setting as Setting
use Rattle.number.specs.Digits as Digits
use Rattle.number.specs.Number as Number
use Rattle.integer.specs.Integer as Integer
use Rattle.split.specs.Split as Split
use Rattle.lists.specs.Append as Append
use Rattle.lists.specs.Lists as Lists
use Rattle.config.specs.Config as Config
use Rattle.apply.specs.Apply as Apply
use Rattle.keyvalue.specs.KeyValue as KeyValue
use Rattle.keyvalue.specs.Scan as Scan
use Rattle.url_parser.specs.Uri as Uri
use Rattle.taking.specs.Taking as Taking
use Rattle.outcome.specs.Outcome as Reader
use Rattle.setting.specs.Setting.{Reading}
use Rattle.view.specs.Hidden as Hidden
use Rattle.outcome.specs.Outcome.{reading}

abbrev Pair : Type 0
Pair = String × String

abbrev table : List Pair
table =
    ("user=ann password='a b' port=1", "user=ann password=secret port=1")
    ∷ ("password=a password=b port=x", "password='' password=c port=x")
    ∷ ("postgres://u:one@h/d", "postgres://u:%41two@h/d")
    ∷ ("postgres://u@h?password=a", "postgresql://u@h?pass%77ord=b")
    ∷ []

abbrev veiled : String → Reading
veiled t = record { settings = map Hidden.veil (reading (bytes t)).settings; end = (reading (bytes t)).end }

pub alike : map (λ (p : Pair). veiled p.0) table ≡ map (λ (p : Pair). veiled p.1) table
unfolding Hidden.veil Byte.between Byte.part_of Digit.digit_of Put.put Same.same Same.stands_at Space.spaces Space.within Space.is_space Utf8.least Utf8.greatest Utf8.two Utf8.three Utf8.four Utf8.longer Utf8.char_of Utf8.char_at Utf8.well_from Percent.piece_of Percent.piece_at Percent.decoded_from Percent.decoded Find.among Find.number_in Find.key_number Find.word_number Find.start_len Find.prefix_len Setting.kind_of Setting.value_of Digits.all_digits Digits.value_from Digits.value_in Number.digits_in Number.unsigned_of Integer.signed_of Split.first_at Split.split Append.append_from Append.pieces_from Append.listed Lists.port_piece Lists.host_of Lists.host_piece Lists.host_pushed Lists.ports_after Lists.hosts_after Lists.host_after Config.defaults Apply.seconds_in Apply.fault_of Apply.after Apply.applied KeyValue.unescaped_from KeyValue.quoted_at KeyValue.simple_at KeyValue.value_at KeyValue.sign_at KeyValue.key_at KeyValue.parameter_at KeyValue.reads KeyValue.key_value_from KeyValue.key_value Scan.run_from Scan.starts_space Scan.space_len Scan.ends_key Scan.key_len Scan.piece_len Scan.starts_quote Uri.first_of Uri.text Uri.host_fits Uri.host Uri.value Uri.parameter Uri.parameters_from Uri.parameters Uri.params Uri.dbname Uri.database Uri.path Uri.port Uri.closes Uri.bracketed Uri.chunk Uri.chunks Uri.ends_hosts Uri.host_chunks Uri.hosts Uri.password Uri.credentials Uri.uri Reader.reading Taking.keeps Reader.kept Reader.outcome Reader.outcome_of Reader.answer Reader.filled Reader.left
alike = refl
