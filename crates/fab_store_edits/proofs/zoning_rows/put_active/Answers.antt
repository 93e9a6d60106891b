use Rattle.std.proofs.Common.{OnOk, subst}
use Rattle.fab_reach_base.specs.fab_names.declared.fabric.Fabric.TheVariants.{A, B}
use Rattle.fab_reach_base.specs.Records.{ConfigRows}
use Rattle.fab_store_rows.specs.declared.config_row.ConfigRow.TheVariants as config
use Rattle.fab_store_edits.specs.Inner.Edits.{NoRow, IsPut}
use Rattle.fab_store_rows.specs.Tidy.{IsTidy}
use Rattle.fab_store_edits.proofs.Answering.{on_ok}
use Rattle.fab_store_edits.proofs.Answering.{either_one}
use Rattle.fab_store_edits.proofs.ZoningMoves.{put_active_at, rows_tidy, same_tidy}
use Rattle.fab_store_edits.proofs.zoning_rows.put_active.Goals as goal

pub returns-in-A-clause-put : goal.returns-in-A-clause-put
returns-in-A-clause-put g c =
    subst (λ (old : ConfigRows). OnOk c.add_active.result (IsPut NoRow (config.Active c.args.row.now) old (record { a = c.add_active.new.self; b = c.config.inside.b; mapping = c.config.inside.mapping }))) c.config.view_is
    (on_ok c.add_active.result (put_active_at (record { a = c.config.inside.a; b = c.config.inside.b; mapping = c.config.inside.mapping }) c.add_active.new.self A c.args.row.now c.in-A.is) c.add_active.ensures.ok)

pub returns-in-A-clause-tidy : goal.returns-in-A-clause-tidy
returns-in-A-clause-tidy g c =
    subst (λ (old : ConfigRows). IsTidy old → IsTidy (record { a = c.add_active.new.self; b = c.config.inside.b; mapping = c.config.inside.mapping })) c.config.view_is (either_one c.add_active.result (rows_tidy (record { a = c.config.inside.a; b = c.config.inside.b; mapping = c.config.inside.mapping }) c.add_active.new.self A _) (same_tidy (record { a = c.config.inside.a; b = c.config.inside.b; mapping = c.config.inside.mapping }) c.add_active.new.self A) c.add_active.ensures.ok c.add_active.ensures.err)

pub returns-in-B-clause-put : goal.returns-in-B-clause-put
returns-in-B-clause-put g c =
    subst (λ (old : ConfigRows). OnOk c.add_active-in-B.result (IsPut NoRow (config.Active c.args.row.now) old (record { a = c.config.inside.a; b = c.add_active-in-B.new.self; mapping = c.config.inside.mapping }))) c.config.view_is
    (on_ok c.add_active-in-B.result (put_active_at (record { a = c.config.inside.a; b = c.config.inside.b; mapping = c.config.inside.mapping }) c.add_active-in-B.new.self B c.args.row.now c.in-B.is) c.add_active-in-B.ensures.ok)

pub returns-in-B-clause-tidy : goal.returns-in-B-clause-tidy
returns-in-B-clause-tidy g c =
    subst (λ (old : ConfigRows). IsTidy old → IsTidy (record { a = c.config.inside.a; b = c.add_active-in-B.new.self; mapping = c.config.inside.mapping })) c.config.view_is (either_one c.add_active-in-B.result (rows_tidy (record { a = c.config.inside.a; b = c.config.inside.b; mapping = c.config.inside.mapping }) c.add_active-in-B.new.self B _) (same_tidy (record { a = c.config.inside.a; b = c.config.inside.b; mapping = c.config.inside.mapping }) c.add_active-in-B.new.self B) c.add_active-in-B.ensures.ok c.add_active-in-B.ensures.err)
