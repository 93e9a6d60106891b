use Rattle.std.proofs.Common.{sym, subst}
use Rattle.fab_zoning.specs.Soundness.{IsSound}
use Rattle.fab_zoning.proofs.Changes.{with_sets_dropped}
use Rattle.fab_zoning.proofs.Keeping.{drop_set_keeps}
use Rattle.fab_zoning.proofs.zoning.Zoning.drop_set.Goals as goal

pub returns-clause-sound : goal.returns-clause-sound
returns-clause-sound g c sound = subst IsSound (sym (with_sets_dropped _ _ c.self.view_is c.args.name.now _ c.take_out.ensures)) (drop_set_keeps c.args.self.now sound c.args.name.now)
