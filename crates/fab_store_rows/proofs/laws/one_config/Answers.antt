use Rattle.fab_store_rows.proofs.Determined.{one_config}
use Rattle.fab_store_rows.proofs.laws.one_config.Goals as goal

pub returns : goal.returns
returns c = one_config
