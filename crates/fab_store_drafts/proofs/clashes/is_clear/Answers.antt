use Rattle.fab_store_drafts.proofs.Beside.{clear_is}
use Rattle.fab_store_drafts.proofs.clashes.is_clear.Goals as goal

pub returns : goal.returns
returns g c = clear_is c.args.config.now c.args.users.now c.requires c.args.group.now c.mapping-mapping.result.now c.in_ok-names.names c.are_fine.result c.mapping-mapping.ensures c.in_ok-names.ensures c.are_fine.ensures
