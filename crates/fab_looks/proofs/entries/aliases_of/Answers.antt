use Rattle.std.proofs.Common.{ap, ◌∙◌}
use Rattle.fab_reach_base.specs.fab_names.Orders.{member_cmp}
use Rattle.fab_reach_base.specs.Records.{zoning_at}
use Rattle.fab_world.specs.Worlds.{WorldRows}
use Rattle.fab_reach_base.specs.fab_zoning.Zonings.{FabricZoning}
use Rattle.fab_looks.proofs.Keys.{set_keys}
use Rattle.fab_looks.proofs.entries.aliases_of.Goals as goal

pub returns : goal.returns
returns g c =
    set_keys member_cmp c.aliases.result (zoning_at c.args.world.now.config c.args.fabric).aliases
    (c.aliases.ensures.aliases ∙ ap (λ (z : FabricZoning). z.aliases) c.zoning.ensures ∙ ap (λ (v : WorldRows). (zoning_at v.config c.args.fabric).aliases) c.world.view_is)
