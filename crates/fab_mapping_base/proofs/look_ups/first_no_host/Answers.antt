use Rattle.std.proofs.Common.{All, subst, arith}
use Rattle.std.proofs.lemmas.List.{take_all}
use Rattle.std.proofs.lemmas.List.Elements.{All-more}
use Rattle.fab_inventory.specs.Inventories.{IsHost}
use Rattle.fab_mapping_base.proofs.look_ups.first_no_host.Goals as goal

pub loop-host-preserved : goal.loop-host-preserved
loop-host-preserved g c =
    All-more (IsHost c.args.inventory.now.holders) c.args.hosts.now c.loop-host.host-index c.host-item.result (omega arith) c.loop-host.invariant (subst (IsHost c.args.inventory.now.holders) c.host-item.is (c.is_host.ensures.0 c.if-not-is_host.false))

pub returns : goal.returns
returns g c = subst (All (IsHost c.args.inventory.now.holders)) (take_all c.loop-host.host-index c.args.hosts.now (omega (arith, c.loop-host-test.false))) c.loop-host.invariant
