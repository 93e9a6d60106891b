use Rattle.std.proofs.Common.{sym, ap, ◌∙◌}
use Rattle.std.specs.FinMap as map
use Rattle.fab_mapping.specs.Mappings.{MappingRows}
use Rattle.fab_reach_base.specs.Views.{seen}
use Rattle.fab_reach_moves.proofs.HeadsAfter.{exposed_there}
use Rattle.fab_reach_moves.proofs.heads.is_exposed_before.Goals as goal

pub returns-in-Some : goal.returns-in-Some
returns-in-Some g c = exposed_there (seen c.args.before.now) c.args.name.now c.in-Some.group.now c.is_exposed.result (ap (λ (m : MappingRows). map.get m.groups c.args.name.now) (sym c.mapping.ensures) ∙ sym c.in-Some.ensures) c.is_exposed.ensures
