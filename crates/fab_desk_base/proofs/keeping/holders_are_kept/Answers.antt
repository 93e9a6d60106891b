use Rattle.fab_desk_base.proofs.KeptHosts.{keeps_hosts}
use Rattle.fab_desk_base.proofs.keeping.holders_are_kept.Goals as goal

pub returns : goal.returns
returns g c p w q r new is = keeps_hosts p w q r new is
