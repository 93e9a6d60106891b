-- A reader of records, of which the clause of a private function speaks.
use Rattle.std.specs.Prelude.{ℕ, ◌≡◌, List, Some, None, false}
use Rattle.std.proofs.Common.{Bor}
use Rattle.csv.specs.Reading.{default_config, strip_bom, source_of, reader_config, reader_trim, reader_headers, reader_state, names_headers}
use Rattle.csv.specs.declared.reader.Reader.{Reader}
use Rattle.csv.specs.declared.reader.Trim.TheVariants as trim
use Rattle.csv.specs.declared.parser.State.TheVariants as state

-- it has read nothing yet of a text, drops one byte order mark, sets no header row apart and trims nothing
pub record IsReaderOf (text : List ℕ) (reader : Reader (Bor (List ℕ))) : Type 0 where
  pub config : reader_config reader ≡ default_config
  pub trim : reader_trim reader ≡ trim.None
  pub has_headers : names_headers reader ≡ false
  pub headers : reader_headers reader ≡ None
  pub state : reader_state reader ≡ state.StartRecord
  pub source : source_of (λ s. Some s.now) reader ≡ Some (strip_bom text)
