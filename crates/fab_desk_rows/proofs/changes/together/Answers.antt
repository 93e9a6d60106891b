use Rattle.fab_desk_rows.proofs.Together.{ports_only, addresses_only, holders_only, volumes_only, config_only, paths_only}
use Rattle.fab_desk_rows.proofs.changes.together.Goals as goal

pub returns : goal.returns
returns g c = λ w v counts parts plans.
    let lists = c.args.parts.inventory in
    let config = c.args.parts.config in
    let paths = c.args.parts.paths in record {
      removed = record {
        counts = counts.removed;
        ports = ports_only w v lists.taken.entries.items parts.inventory.takes.entries;
        addresses = addresses_only w v lists.taken.addresses.items parts.inventory.takes.addresses;
        holders = holders_only w v lists.taken.holders.items parts.inventory.takes.holders;
        volumes = volumes_only w v lists.taken.volumes.items parts.inventory.takes.volumes;
        config = config_only w v config.taken.items parts.config.takes;
        plans = λ _ _. plans.plans.removed;
        approvals = plans.approvals.removed;
        undo = plans.undo.removed;
        paths = paths_only w v paths.taken.items parts.paths.takes;
      };
      added = record {
        counts = counts.added;
        ports = ports_only v w lists.added.entries.items parts.inventory.adds.entries;
        addresses = addresses_only v w lists.added.addresses.items parts.inventory.adds.addresses;
        holders = holders_only v w lists.added.holders.items parts.inventory.adds.holders;
        volumes = volumes_only v w lists.added.volumes.items parts.inventory.adds.volumes;
        config = config_only v w config.added.items parts.config.adds;
        plans = λ _ _. plans.plans.added;
        approvals = plans.approvals.added;
        undo = plans.undo.added;
        paths = paths_only v w paths.added.items parts.paths.adds;
      };
    }
