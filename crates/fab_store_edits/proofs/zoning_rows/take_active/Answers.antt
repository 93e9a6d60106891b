use Rattle.std.proofs.Common.{subst}
use Rattle.fab_reach_base.specs.fab_names.declared.fabric.Fabric.TheVariants.{A, B}
use Rattle.fab_reach_base.specs.Records.{ConfigRows}
use Rattle.fab_store_rows.specs.declared.config_row.ConfigRow.TheVariants as config
use Rattle.fab_store_edits.specs.Inner.Edits.{IsTaken}
use Rattle.fab_store_rows.specs.Tidy.{IsTidy}
use Rattle.fab_store_edits.proofs.ZoningMoves.{take_active_at, rows_tidy}
use Rattle.fab_store_edits.proofs.zoning_rows.take_active.Goals as goal

pub returns-in-A-clause-taken : goal.returns-in-A-clause-taken
returns-in-A-clause-taken g c =
    subst (λ (old : ConfigRows). IsTaken (config.Active c.args.row.now) old (record { a = c.take_active.new.self; b = c.config.inside.b; mapping = c.config.inside.mapping })) c.config.view_is
    (take_active_at (record { a = c.config.inside.a; b = c.config.inside.b; mapping = c.config.inside.mapping }) c.take_active.new.self A c.args.row.now c.in-A.is c.take_active.ensures)

pub returns-in-A-clause-tidy : goal.returns-in-A-clause-tidy
returns-in-A-clause-tidy g c =
    subst (λ (old : ConfigRows). IsTidy old → IsTidy (record { a = c.take_active.new.self; b = c.config.inside.b; mapping = c.config.inside.mapping })) c.config.view_is (rows_tidy (record { a = c.config.inside.a; b = c.config.inside.b; mapping = c.config.inside.mapping }) c.take_active.new.self A _ c.take_active.ensures)

pub returns-in-B-clause-taken : goal.returns-in-B-clause-taken
returns-in-B-clause-taken g c =
    subst (λ (old : ConfigRows). IsTaken (config.Active c.args.row.now) old (record { a = c.config.inside.a; b = c.take_active-in-B.new.self; mapping = c.config.inside.mapping })) c.config.view_is
    (take_active_at (record { a = c.config.inside.a; b = c.config.inside.b; mapping = c.config.inside.mapping }) c.take_active-in-B.new.self B c.args.row.now c.in-B.is c.take_active-in-B.ensures)

pub returns-in-B-clause-tidy : goal.returns-in-B-clause-tidy
returns-in-B-clause-tidy g c =
    subst (λ (old : ConfigRows). IsTidy old → IsTidy (record { a = c.config.inside.a; b = c.take_active-in-B.new.self; mapping = c.config.inside.mapping })) c.config.view_is (rows_tidy (record { a = c.config.inside.a; b = c.config.inside.b; mapping = c.config.inside.mapping }) c.take_active-in-B.new.self B _ c.take_active-in-B.ensures)
