use Rattle.fab_store_drafts.specs.There.{IsTouched, IsClearAt}
use Rattle.fab_store_drafts.proofs.Beside.{all_clear}
use Rattle.fab_store_drafts.proofs.clashes.has_no_clash.Goals as goal

pub returns : goal.returns
returns g c = all_clear (IsTouched c.args.config.now.mapping c.args.rows.now) (IsClearAt c.args.config.now.mapping) c.in_ok-names.names c.are_clear.result c.in_ok-names.ensures c.are_clear.ensures
