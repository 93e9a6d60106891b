use Rattle.std.proofs.Common.{sym, subst, rules}
use Rattle.fab_zoning.specs.Steps.{CanDropZone}
use Rattle.fab_zoning.specs.Soundness.{IsSound}
use Rattle.fab_zoning.proofs.Changes.{with_zones_dropped}
use Rattle.fab_zoning.proofs.Keeping.{drop_zone_keeps}
use Rattle.fab_zoning.proofs.zoning.Zoning.drop_zone.Goals as goal

pub returns-clause-sound : goal.returns-clause-sound
returns-clause-sound g c sound =
    let can : CanDropZone c.args.self.now c.args.name.now = record { known = search rules; unused = search rules } in
    subst IsSound (sym (with_zones_dropped _ _ c.self.view_is c.args.name.now _ c.take_out.ensures)) (drop_zone_keeps c.args.self.now sound c.args.name.now can)
