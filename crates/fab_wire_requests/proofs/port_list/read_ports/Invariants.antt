use Rattle.std.proofs.Common.{◌≡◌, ◌<◌, ℕ, List, Some}
use Rattle.csv.specs.Reading.{Reached, Ready, default_config, source_of, strip_bom}
use Rattle.csv.specs.declared.parser.State.TheVariants as state
use Rattle.csv.specs.declared.reader.Trim.TheVariants as trim
use Rattle.fab_wire_requests.proofs.PortListLemmas.{HasRead}
use Rattle.fab_wire_requests.proofs.port_list.read_ports.Given as goal

-- the reader gives what is left of the text, and the records before it are those read so far
abbrev pub invariant-loop-item : goal.invariant-loop-item
invariant-loop-item g l = (l.item-iterator.rdr.trim ≡ trim.None) × Ready l.item-iterator.rdr × (0 < l.item-iterator.left) × (l.item-iterator.rdr.config ≡ default_config)
    × (y : List ℕ) × (source_of (λ s. Some s.now) l.item-iterator.rdr ≡ Some y)
    × (recs : List (List (List ℕ))) × Reached default_config state.StartRecord (strip_bom l.fn.text) recs l.item-iterator.rdr.state y × HasRead l.columns recs l.rows.items
