use Rattle.fab_looks.specs.Ways.{IsOwnMapping}
use Rattle.fab_looks_ways.proofs.Gains.{names_from}
use Rattle.fab_looks_ways.proofs.groups.own_groups.Goals as goal

pub returns : goal.returns
returns g c = names_from (IsOwnMapping c.args.policy.now c.args.world.now c.args.id c.args.volume.now) c.new-names.result c.add_groups.new.names c.new-names.ensures.empty c.in_ok-add_groups.ensures
