use Rattle.std.proofs.Common.{sym, subst}
use Rattle.fab_reach_base.specs.Records.{Records}
use Rattle.fab_reach_base.specs.Views.{seen}
use Rattle.fab_desk_base.specs.Keeping.{KeepsHosts}
use Rattle.fab_world.specs.Worlds.{WorldRows, records_of}
use Rattle.fab_desk_rows.proofs.parts.parts_moved.Goals as goal

pub path_rows_moved-requires-clause-keeps : goal.path_rows_moved-requires-clause-keeps
path_rows_moved-requires-clause-keeps g c =
    let after = seen c.view_after-after.result in
    subst (λ (before : Records). KeepsHosts before after) (sym c.of-before.ensures)
    (subst (λ (world : WorldRows). KeepsHosts (records_of world) after) (sym c.world.view_is)
    (subst (KeepsHosts (records_of c.args.world.now)) (sym c.view_after-after.ensures) c.requires.keeps))
