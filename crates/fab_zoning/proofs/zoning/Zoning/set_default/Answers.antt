use Rattle.std.proofs.Common.{sym, subst}
use Rattle.fab_zoning.specs.Soundness.{IsSound}
use Rattle.fab_zoning.proofs.zoning.Zoning.set_default.Goals as goal

pub returns-clause-sound : goal.returns-clause-sound
returns-clause-sound g c sound = let s = subst IsSound (sym c.self.view_is) sound in record { definitions = s.definitions; active = s.active }
