-- "Those marked P are the set to prove, gathered into a single table under a single statement": every row of the table holds, by computation.
-- Assumes nothing.
use mathlib.Core.Path.{◌≡◌, refl}
use mathlib.Core.List.{map}
use Rattle.byte.specs.Byte as Byte
use Rattle.byte.specs.Digit as Digit
use Rattle.byte.specs.Put as Put
use Rattle.byte.specs.Same as Same
use Rattle.space.specs.Space as Space
use Rattle.utf8.specs.Utf8 as Utf8
use Rattle.percent.specs.Percent as Percent
use Rattle.names.specs.Find as Find
use Rattle.names.specs.Names as Names
use Rattle.setting.specs.Setting as Setting
use Rattle.number.specs.Digits as Digits
use Rattle.number.specs.Number as Number
use Rattle.integer.specs.Integer as Integer
use Rattle.decimal.specs.Decimal as Decimal
use Rattle.split.specs.Split as Split
use Rattle.lists.specs.Append as Append
use Rattle.lists.specs.Lists as Lists
use Rattle.config.specs.Config as Config
use Rattle.config.specs.Values as Values
use Rattle.config.specs.Values.{shown}
use Rattle.apply.specs.Apply as Apply
use Rattle.keyvalue.specs.KeyValue as KeyValue
use Rattle.keyvalue.specs.Scan as Scan
use Rattle.url_parser.specs.Uri as Uri
use Rattle.taking.specs.Taking as Taking
use Rattle.outcome.specs.Outcome as Reader
use Rattle.draw.specs.Parts as Parts
use Rattle.escape.specs.Escape as Escape
use Rattle.line.specs.Line as Line
use Rattle.report.specs.Report as Report
use Rattle.report.specs.Report.{report}
use Rattle.demands.specs.Table.{Row, run, table, worked, worked_lines, printed, broken_behind, buffer}

pub edges : map (λ (r : Row). run r.text) table ≡ map (λ (r : Row). r.gives) table
unfolding run Byte.between Byte.part_of Digit.digit_of Put.put Same.same Same.stands_at Space.spaces Space.within Space.is_space Utf8.least Utf8.greatest Utf8.two Utf8.three Utf8.four Utf8.longer Utf8.char_of Utf8.char_at Utf8.well_from Percent.piece_of Percent.piece_at Percent.decoded_from Percent.decoded Find.among Find.number_in Find.key_number Find.word_number Find.start_len Find.prefix_len Setting.kind_of Setting.value_of Digits.all_digits Digits.value_from Digits.value_in Number.digits_in Number.unsigned_of Integer.signed_of Split.first_at Split.split Append.append_from Append.pieces_from Append.listed Lists.port_piece Lists.host_of Lists.host_piece Lists.host_pushed Lists.ports_after Lists.hosts_after Lists.host_after Config.defaults Apply.seconds_in Apply.fault_of Apply.after Apply.applied KeyValue.unescaped_from KeyValue.quoted_at KeyValue.simple_at KeyValue.value_at KeyValue.sign_at KeyValue.key_at KeyValue.parameter_at KeyValue.reads KeyValue.key_value_from KeyValue.key_value Scan.run_from Scan.starts_space Scan.space_len Scan.ends_key Scan.key_len Scan.piece_len Scan.starts_quote Uri.first_of Uri.text Uri.host_fits Uri.host Uri.value Uri.parameter Uri.parameters_from Uri.parameters Uri.params Uri.dbname Uri.database Uri.path Uri.port Uri.closes Uri.bracketed Uri.chunk Uri.chunks Uri.ends_hosts Uri.host_chunks Uri.hosts Uri.password Uri.credentials Uri.uri Reader.reading Taking.keeps Reader.kept Reader.outcome Reader.outcome_of Reader.answer Reader.filled Reader.left
edges = refl

-- the worked example is accepted with four settings and "leaves `db1,/run/pganna b` in the first 17 buffer bytes"
pub worked-leaves : (run worked).leaves ≡ buffer worked "db1,/run/pganna b"
unfolding run Byte.between Byte.part_of Digit.digit_of Put.put Same.same Same.stands_at Space.spaces Space.within Space.is_space Utf8.least Utf8.greatest Utf8.two Utf8.three Utf8.four Utf8.longer Utf8.char_of Utf8.char_at Utf8.well_from Percent.piece_of Percent.piece_at Percent.decoded_from Percent.decoded Find.among Find.number_in Find.key_number Find.word_number Find.start_len Find.prefix_len Setting.kind_of Setting.value_of Digits.all_digits Digits.value_from Digits.value_in Number.digits_in Number.unsigned_of Integer.signed_of Split.first_at Split.split Append.append_from Append.pieces_from Append.listed Lists.port_piece Lists.host_of Lists.host_piece Lists.host_pushed Lists.ports_after Lists.hosts_after Lists.host_after Config.defaults Apply.seconds_in Apply.fault_of Apply.after Apply.applied KeyValue.unescaped_from KeyValue.quoted_at KeyValue.simple_at KeyValue.value_at KeyValue.sign_at KeyValue.key_at KeyValue.parameter_at KeyValue.reads KeyValue.key_value_from KeyValue.key_value Scan.run_from Scan.starts_space Scan.space_len Scan.ends_key Scan.key_len Scan.piece_len Scan.starts_quote Uri.first_of Uri.text Uri.host_fits Uri.host Uri.value Uri.parameter Uri.parameters_from Uri.parameters Uri.params Uri.dbname Uri.database Uri.path Uri.port Uri.closes Uri.bracketed Uri.chunk Uri.chunks Uri.ends_hosts Uri.host_chunks Uri.hosts Uri.password Uri.credentials Uri.uri Reader.reading Taking.keeps Reader.kept Reader.outcome Reader.outcome_of Reader.answer Reader.filled Reader.left
worked-leaves = refl

pub worked-count : (run worked).answers.count ≡ 4
unfolding run Byte.between Byte.part_of Digit.digit_of Put.put Same.same Same.stands_at Space.spaces Space.within Space.is_space Utf8.least Utf8.greatest Utf8.two Utf8.three Utf8.four Utf8.longer Utf8.char_of Utf8.char_at Utf8.well_from Percent.piece_of Percent.piece_at Percent.decoded_from Percent.decoded Find.among Find.number_in Find.key_number Find.word_number Find.start_len Find.prefix_len Setting.kind_of Setting.value_of Digits.all_digits Digits.value_from Digits.value_in Number.digits_in Number.unsigned_of Integer.signed_of Split.first_at Split.split Append.append_from Append.pieces_from Append.listed Lists.port_piece Lists.host_of Lists.host_piece Lists.host_pushed Lists.ports_after Lists.hosts_after Lists.host_after Config.defaults Apply.seconds_in Apply.fault_of Apply.after Apply.applied KeyValue.unescaped_from KeyValue.quoted_at KeyValue.simple_at KeyValue.value_at KeyValue.sign_at KeyValue.key_at KeyValue.parameter_at KeyValue.reads KeyValue.key_value_from KeyValue.key_value Scan.run_from Scan.starts_space Scan.space_len Scan.ends_key Scan.key_len Scan.piece_len Scan.starts_quote Uri.first_of Uri.text Uri.host_fits Uri.host Uri.value Uri.parameter Uri.parameters_from Uri.parameters Uri.params Uri.dbname Uri.database Uri.path Uri.port Uri.closes Uri.bracketed Uri.chunk Uri.chunks Uri.ends_hosts Uri.host_chunks Uri.hosts Uri.password Uri.credentials Uri.uri Reader.reading Taking.keeps Reader.kept Reader.outcome Reader.outcome_of Reader.answer Reader.filled Reader.left
worked-count = refl

-- and reports what document 01 prints, byte for byte
pub worked-report : report (shown (run worked).leaves (run worked).answers.config) ≡ printed worked_lines
unfolding run Byte.between Byte.part_of Digit.digit_of Put.put Same.same Same.stands_at Space.spaces Space.within Space.is_space Utf8.least Utf8.greatest Utf8.two Utf8.three Utf8.four Utf8.longer Utf8.char_of Utf8.char_at Utf8.well_from Percent.piece_of Percent.piece_at Percent.decoded_from Percent.decoded Find.among Find.number_in Find.key_number Find.word_number Find.start_len Find.prefix_len Setting.kind_of Setting.value_of Digits.all_digits Digits.value_from Digits.value_in Number.digits_in Number.unsigned_of Integer.signed_of Split.first_at Split.split Append.append_from Append.pieces_from Append.listed Lists.port_piece Lists.host_of Lists.host_piece Lists.host_pushed Lists.ports_after Lists.hosts_after Lists.host_after Config.defaults Apply.seconds_in Apply.fault_of Apply.after Apply.applied KeyValue.unescaped_from KeyValue.quoted_at KeyValue.simple_at KeyValue.value_at KeyValue.sign_at KeyValue.key_at KeyValue.parameter_at KeyValue.reads KeyValue.key_value_from KeyValue.key_value Scan.run_from Scan.starts_space Scan.space_len Scan.ends_key Scan.key_len Scan.piece_len Scan.starts_quote Uri.first_of Uri.text Uri.host_fits Uri.host Uri.value Uri.parameter Uri.parameters_from Uri.parameters Uri.params Uri.dbname Uri.database Uri.path Uri.port Uri.closes Uri.bracketed Uri.chunk Uri.chunks Uri.ends_hosts Uri.host_chunks Uri.hosts Uri.password Uri.credentials Uri.uri Reader.reading Taking.keeps Reader.kept Reader.outcome Reader.outcome_of Reader.answer Reader.filled Reader.left Values.place_shown Values.shown Report.values Report.report Line.lines_from Line.lines Line.line Line.secret_value Line.word_value Line.host_value Line.number_value Parts.joined Escape.escape Escape.text_value Names.key_name Names.word_name Names.words_of Decimal.decimal Decimal.decimal_by Decimal.fixed_digits Decimal.digit_byte
worked-report = refl

pub first-wins : run broken_behind.text ≡ broken_behind.gives
unfolding run Byte.between Byte.part_of Digit.digit_of Put.put Same.same Same.stands_at Space.spaces Space.within Space.is_space Utf8.least Utf8.greatest Utf8.two Utf8.three Utf8.four Utf8.longer Utf8.char_of Utf8.char_at Utf8.well_from Percent.piece_of Percent.piece_at Percent.decoded_from Percent.decoded Find.among Find.number_in Find.key_number Find.word_number Find.start_len Find.prefix_len Setting.kind_of Setting.value_of Digits.all_digits Digits.value_from Digits.value_in Number.digits_in Number.unsigned_of Integer.signed_of Split.first_at Split.split Append.append_from Append.pieces_from Append.listed Lists.port_piece Lists.host_of Lists.host_piece Lists.host_pushed Lists.ports_after Lists.hosts_after Lists.host_after Config.defaults Apply.seconds_in Apply.fault_of Apply.after Apply.applied KeyValue.unescaped_from KeyValue.quoted_at KeyValue.simple_at KeyValue.value_at KeyValue.sign_at KeyValue.key_at KeyValue.parameter_at KeyValue.reads KeyValue.key_value_from KeyValue.key_value Scan.run_from Scan.starts_space Scan.space_len Scan.ends_key Scan.key_len Scan.piece_len Scan.starts_quote Uri.first_of Uri.text Uri.host_fits Uri.host Uri.value Uri.parameter Uri.parameters_from Uri.parameters Uri.params Uri.dbname Uri.database Uri.path Uri.port Uri.closes Uri.bracketed Uri.chunk Uri.chunks Uri.ends_hosts Uri.host_chunks Uri.hosts Uri.password Uri.credentials Uri.uri Reader.reading Taking.keeps Reader.kept Reader.outcome Reader.outcome_of Reader.answer Reader.filled Reader.left
first-wins = refl
