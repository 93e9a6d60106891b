use Rattle.std.proofs.Common.{ap}
use Rattle.fab_world.specs.Worlds.{WorldRows}
use Rattle.fab_desk_commands.specs.Nexts.{next_world}
use Rattle.fab_desk_rows.proofs.CountRows.{new_counted}
use Rattle.fab_desk_rows.proofs.counts.counts_moved.Goals as goal

pub returns : goal.returns
returns g c =
    let w = c.args.world.now in
    let v = next_world w c.args.next.now in
    let now = ap (λ (x : WorldRows). x.revision) c.world.view_is in record {
      removed = new_counted w v c.world.inside.revision c.revision_after-revision.result c.in_ok-removed.removed.items now c.revision_after-revision.ensures c.in_ok-removed.ensures;
      added = new_counted v w c.revision_after-revision.result c.world.inside.revision c.in_ok-added.added.items c.revision_after-revision.ensures now c.in_ok-added.ensures;
    }
