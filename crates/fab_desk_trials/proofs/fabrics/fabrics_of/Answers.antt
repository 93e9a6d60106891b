use Rattle.std.proofs.Common.{◌↔◌, Contains}
use Rattle.fab_reach_base.specs.fab_names.declared.fabric.Fabric.TheVariants.{A, B}
use Rattle.fab_desk_base.specs.Commands.{NamesFabric}
use Rattle.fab_desk_trials.proofs.fabrics.fabrics_of.Goals as goal

pub returns : goal.returns
returns g c w are f = elim f as (λ f. Contains c.chosen.result.now f ↔ NamesFabric w c.args.command.now f) [
  | A ↦ (λ h. (c.names_fabric-a.ensures w are).0 (c.chosen.ensures.a.0 h), λ h. c.chosen.ensures.a.1 ((c.names_fabric-a.ensures w are).1 h))
  | B ↦ (λ h. (c.names_fabric-b.ensures w are).0 (c.chosen.ensures.b.0 h), λ h. c.chosen.ensures.b.1 ((c.names_fabric-b.ensures w are).1 h))
]
