use Rattle.std.proofs.Common.{None, sym, subst}
use Rattle.fab_zoning.specs.Soundness.{IsSound, IsSoundActive}
use Rattle.fab_zoning.proofs.Keeping.{none_active}
use Rattle.fab_zoning.proofs.zoning.Zoning.deactivate.Goals as goal

pub returns-clause-sound : goal.returns-clause-sound
returns-clause-sound g c sound = let s = subst IsSound (sym c.self.view_is) sound in record { definitions = s.definitions; active = subst (IsSoundActive None) (sym c.new.ensures) none_active }
