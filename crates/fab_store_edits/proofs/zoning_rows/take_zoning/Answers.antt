use Rattle.std.proofs.Common.{ap, subst}
use Rattle.fab_reach_base.specs.fab_names.declared.fabric.Fabric.TheVariants.{A, B}
use Rattle.fab_reach_base.specs.Records.{ConfigRows}
use Rattle.fab_store_rows.specs.declared.config_row.ConfigRow.TheVariants as config
use Rattle.fab_store_edits.specs.Inner.Edits.{IsTaken}
use Rattle.fab_store_rows.specs.Tidy.{IsTidy}
use Rattle.fab_reach_base.specs.fab_zoning.Zonings.{FabricZoning}
use Rattle.fab_store_edits.proofs.ZoningMoves.{take_zoning_at, tidy_with}
use Rattle.fab_store_edits.proofs.zoning_rows.take_zoning.Goals as goal

pub returns-in-A-clause-taken : goal.returns-in-A-clause-taken
returns-in-A-clause-taken g c =
    subst (λ (old : ConfigRows). IsTaken (config.Zoning c.args.row.now) old (record { a = c.take_item_of.new.zoning; b = c.config.inside.b; mapping = c.config.inside.mapping })) c.config.view_is
    (take_zoning_at (record { a = c.config.inside.a; b = c.config.inside.b; mapping = c.config.inside.mapping }) c.take_item_of.new.zoning A c.args.row.now c.in-A.is c.take_item_of.ensures.taken)

pub returns-in-A-clause-tidy : goal.returns-in-A-clause-tidy
returns-in-A-clause-tidy g c =
    subst (λ (old : ConfigRows). IsTidy old → IsTidy (record { a = c.take_item_of.new.zoning; b = c.config.inside.b; mapping = c.config.inside.mapping })) c.config.view_is (tidy_with (record { a = c.config.inside.a; b = c.config.inside.b; mapping = c.config.inside.mapping }) c.take_item_of.new.zoning A (ap (λ (u : FabricZoning). u.fabric) c.take_item_of.ensures.taken.rest) c.take_item_of.ensures.some)

pub returns-in-B-clause-taken : goal.returns-in-B-clause-taken
returns-in-B-clause-taken g c =
    subst (λ (old : ConfigRows). IsTaken (config.Zoning c.args.row.now) old (record { a = c.config.inside.a; b = c.take_item_of-in-B.new.zoning; mapping = c.config.inside.mapping })) c.config.view_is
    (take_zoning_at (record { a = c.config.inside.a; b = c.config.inside.b; mapping = c.config.inside.mapping }) c.take_item_of-in-B.new.zoning B c.args.row.now c.in-B.is c.take_item_of-in-B.ensures.taken)

pub returns-in-B-clause-tidy : goal.returns-in-B-clause-tidy
returns-in-B-clause-tidy g c =
    subst (λ (old : ConfigRows). IsTidy old → IsTidy (record { a = c.config.inside.a; b = c.take_item_of-in-B.new.zoning; mapping = c.config.inside.mapping })) c.config.view_is (tidy_with (record { a = c.config.inside.a; b = c.config.inside.b; mapping = c.config.inside.mapping }) c.take_item_of-in-B.new.zoning B (ap (λ (u : FabricZoning). u.fabric) c.take_item_of-in-B.ensures.taken.rest) c.take_item_of-in-B.ensures.some)
