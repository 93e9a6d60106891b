use Rattle.std.proofs.Common.{sym, ap, ◌∙◌}
use Rattle.std.specs.FinMap as map
use Rattle.fab_reach_base.specs.fab_mapping.Mappings.{MappingRows}
use Rattle.fab_store_drafts.proofs.Beside.{clear_at_is}
use Rattle.fab_store_drafts.proofs.clashes.is_clear_at.Goals as goal

pub returns : goal.returns
returns g c =
    clear_at_is c.args.config.now.mapping c.args.name.now c.in-Some.group.now c.is_clear.result (ap (λ (m : MappingRows). map.get m.groups c.args.name.now) (sym c.mapping.ensures) ∙ sym c.in-Some.ensures)
    (sym c.is_exposed.ensures ∙ c.if-not-is_exposed.false) c.is_clear.ensures
