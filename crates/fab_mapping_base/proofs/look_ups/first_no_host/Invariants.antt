use Rattle.std.proofs.Common.{take, All}
use Rattle.fab_inventory.specs.Inventories.{IsHost}
use Rattle.fab_mapping_base.proofs.look_ups.first_no_host.Given as goal

abbrev pub invariant-loop-host : goal.invariant-loop-host
invariant-loop-host g l = All (IsHost l.inventory.holders) (take l.host-index l.hosts)
