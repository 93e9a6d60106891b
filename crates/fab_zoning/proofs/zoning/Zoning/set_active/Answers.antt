use Rattle.std.proofs.Common.{Some, sym, subst}
use Rattle.fab_zoning.specs.Soundness.{IsSound, IsSoundActive}
use Rattle.fab_zoning.proofs.Keeping.{listed_active}
use Rattle.fab_zoning.proofs.zoning.Zoning.set_active.Goals as goal

pub returns-clause-sound : goal.returns-clause-sound
returns-clause-sound g c sound =
    let s = subst IsSound (sym c.self.view_is) sound in
    record {
      definitions = s.definitions;
      active = subst (IsSoundActive (Some c.args.name)) (sym c.in_ok-self-inside.ensures) (listed_active c.args.name c.args.rows.now c.requires.some c.requires.few c.requires.plain);
    }
