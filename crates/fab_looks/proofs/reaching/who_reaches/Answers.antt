use Rattle.std.proofs.Common.{subst}
use Rattle.fab_mapping.specs.Mappings.{MappingRows}
use Rattle.fab_reach_base.specs.Views.{seen}
use Rattle.fab_looks.specs.Inner.Serving.{IsIndexTo}
use Rattle.fab_looks.proofs.ReachersTold.{from_empty}
use Rattle.fab_looks.proofs.reaching.who_reaches.Goals as goal

pub add_hosts-requires-clause-served : goal.add_hosts-requires-clause-served
add_hosts-requires-clause-served g c = subst (λ (m : MappingRows). IsIndexTo m c.args.volume.now c.in_ok-served.served) c.mapping.ensures c.in_ok-served.ensures

pub returns : goal.returns
returns g c = from_empty (seen c.args.view.now) c.args.volume.now c.new-reachers.result c.add_hosts.new.reachers c.new-reachers.ensures.empty c.in_ok-add_hosts.ensures
