use Rattle.fab_store_rows.specs.Standing.{Stands}
use Rattle.fab_store_rows.proofs.Determined.{one_list}
use Rattle.fab_store_rows.proofs.laws.one_list_of_rows.Goals as goal

pub returns : goal.returns
returns c = λ w. one_list (Stands w)
