use Rattle.fab_wire_base.proofs.TableLemmas.{found-at}
use Rattle.fab_wire_base.proofs.laws.found_path_matches.Goals as goal

pub returns : goal.returns
returns c path found e = (found-at path found e).matches
