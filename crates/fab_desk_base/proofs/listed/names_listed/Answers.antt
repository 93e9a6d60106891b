use Rattle.std.proofs.lemmas.Iterator.{items_from_collect}
use Rattle.std.proofs.lemmas.Iterator.Consumers.{YieldsList-from_copied, YieldsList-from_rest}
use Rattle.fab_desk_base.proofs.listed.names_listed.Goals as goal

pub returns : goal.returns
returns g c = items_from_collect c.collect.result c.collect.ensures.ran (YieldsList-from_copied (YieldsList-from_rest c.args.names c.copied.ensures.source))
