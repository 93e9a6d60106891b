use Rattle.std.proofs.Common.{OnOk, subst}
use Rattle.fab_reach_base.specs.fab_names.declared.fabric.Fabric.TheVariants.{A, B}
use Rattle.fab_reach_base.specs.Records.{ConfigRows}
use Rattle.fab_store_rows.specs.declared.config_row.ConfigRow.TheVariants as config
use Rattle.fab_store_edits.specs.Inner.Edits.{NoRow, IsPut}
use Rattle.fab_store_rows.specs.Tidy.{IsTidy}
use Rattle.fab_store_edits.proofs.Answering.{on_ok}
use Rattle.fab_store_edits.proofs.ZoningMoves.{put_zoning_at, tidy_with}
use Rattle.fab_store_edits.proofs.zoning_rows.put_zoning.Goals as goal

pub returns-in-A-clause-put : goal.returns-in-A-clause-put
returns-in-A-clause-put g c =
    subst (λ (old : ConfigRows). OnOk c.put_item_in.result (IsPut NoRow (config.Zoning c.args.row.now) old (record { a = c.put_item_in.new.zoning; b = c.config.inside.b; mapping = c.config.inside.mapping }))) c.config.view_is
    (on_ok c.put_item_in.result (put_zoning_at (record { a = c.config.inside.a; b = c.config.inside.b; mapping = c.config.inside.mapping }) c.put_item_in.new.zoning A c.args.row.now c.in-A.is) c.put_item_in.ensures.put)

pub returns-in-A-clause-tidy : goal.returns-in-A-clause-tidy
returns-in-A-clause-tidy g c =
    subst (λ (old : ConfigRows). IsTidy old → IsTidy (record { a = c.put_item_in.new.zoning; b = c.config.inside.b; mapping = c.config.inside.mapping })) c.config.view_is (tidy_with (record { a = c.config.inside.a; b = c.config.inside.b; mapping = c.config.inside.mapping }) c.put_item_in.new.zoning A c.put_item_in.ensures.fabric c.put_item_in.ensures.some)

pub returns-in-B-clause-put : goal.returns-in-B-clause-put
returns-in-B-clause-put g c =
    subst (λ (old : ConfigRows). OnOk c.put_item_in-in-B.result (IsPut NoRow (config.Zoning c.args.row.now) old (record { a = c.config.inside.a; b = c.put_item_in-in-B.new.zoning; mapping = c.config.inside.mapping }))) c.config.view_is
    (on_ok c.put_item_in-in-B.result (put_zoning_at (record { a = c.config.inside.a; b = c.config.inside.b; mapping = c.config.inside.mapping }) c.put_item_in-in-B.new.zoning B c.args.row.now c.in-B.is) c.put_item_in-in-B.ensures.put)

pub returns-in-B-clause-tidy : goal.returns-in-B-clause-tidy
returns-in-B-clause-tidy g c =
    subst (λ (old : ConfigRows). IsTidy old → IsTidy (record { a = c.config.inside.a; b = c.put_item_in-in-B.new.zoning; mapping = c.config.inside.mapping })) c.config.view_is (tidy_with (record { a = c.config.inside.a; b = c.config.inside.b; mapping = c.config.inside.mapping }) c.put_item_in-in-B.new.zoning B c.put_item_in-in-B.ensures.fabric c.put_item_in-in-B.ensures.some)
