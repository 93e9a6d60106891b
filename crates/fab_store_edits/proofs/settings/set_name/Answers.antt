use Rattle.std.proofs.Common.{sym, subst}
use Rattle.fab_reach_base.specs.fab_names.declared.fabric.Fabric.{Fabric}
use Rattle.fab_reach_base.specs.fab_names.declared.fabric.Fabric.TheVariants.{A, B}
use Rattle.fab_reach_base.specs.Records.{ConfigRows}
use Rattle.fab_store_rows.specs.declared.config_row.SettingRow.TheVariants.{ActiveSet}
use Rattle.fab_store_rows.specs.declared.config_row.ConfigRow.TheVariants as config
use Rattle.fab_store_edits.specs.Rows.{name_row}
use Rattle.fab_store_edits.specs.Inner.Edits.{Is, IsPut}
use Rattle.fab_store_rows.specs.Tidy.{IsTidy}
use Rattle.fab_store_edits.proofs.ZoningMoves.{tidy_with}
use Rattle.fab_store_edits.proofs.Refusing.{name_put, name_tidy}
use Rattle.fab_store_edits.proofs.settings.set_name.Goals as goal

pub returns-in-A-clause-set : goal.returns-in-A-clause-set
returns-in-A-clause-set g c =
    subst (λ (old : ConfigRows). IsPut (Is (name_row c.args.fabric old)) (config.Setting (ActiveSet c.args.fabric c.args.name)) old (record { a = c.set_active_name.new.self; b = c.config.inside.b; mapping = c.config.inside.mapping })) c.config.view_is
    (subst (λ (f : Fabric). IsPut (Is (name_row f (record { a = c.config.inside.a; b = c.config.inside.b; mapping = c.config.inside.mapping }))) (config.Setting (ActiveSet f c.args.name)) (record { a = c.config.inside.a; b = c.config.inside.b; mapping = c.config.inside.mapping }) (record { a = c.set_active_name.new.self; b = c.config.inside.b; mapping = c.config.inside.mapping })) (sym c.in-A.is)
    (name_put (record { a = c.config.inside.a; b = c.config.inside.b; mapping = c.config.inside.mapping }) A c.args.name c.set_active_name.new.self c.set_active_name.ensures))

pub returns-in-A-clause-tidy : goal.returns-in-A-clause-tidy
returns-in-A-clause-tidy g c =
    subst (λ (old : ConfigRows). IsTidy old → IsTidy (record { a = c.set_active_name.new.self; b = c.config.inside.b; mapping = c.config.inside.mapping })) c.config.view_is
    (let t = name_tidy c.config.inside.a c.set_active_name.new.self c.args.name c.set_active_name.ensures in tidy_with (record { a = c.config.inside.a; b = c.config.inside.b; mapping = c.config.inside.mapping }) c.set_active_name.new.self A t.0 t.1)

pub returns-in-B-clause-set : goal.returns-in-B-clause-set
returns-in-B-clause-set g c =
    subst (λ (old : ConfigRows). IsPut (Is (name_row c.args.fabric old)) (config.Setting (ActiveSet c.args.fabric c.args.name)) old (record { a = c.config.inside.a; b = c.set_active_name-in-B.new.self; mapping = c.config.inside.mapping })) c.config.view_is
    (subst (λ (f : Fabric). IsPut (Is (name_row f (record { a = c.config.inside.a; b = c.config.inside.b; mapping = c.config.inside.mapping }))) (config.Setting (ActiveSet f c.args.name)) (record { a = c.config.inside.a; b = c.config.inside.b; mapping = c.config.inside.mapping }) (record { a = c.config.inside.a; b = c.set_active_name-in-B.new.self; mapping = c.config.inside.mapping })) (sym c.in-B.is)
    (name_put (record { a = c.config.inside.a; b = c.config.inside.b; mapping = c.config.inside.mapping }) B c.args.name c.set_active_name-in-B.new.self c.set_active_name-in-B.ensures))

pub returns-in-B-clause-tidy : goal.returns-in-B-clause-tidy
returns-in-B-clause-tidy g c =
    subst (λ (old : ConfigRows). IsTidy old → IsTidy (record { a = c.config.inside.a; b = c.set_active_name-in-B.new.self; mapping = c.config.inside.mapping })) c.config.view_is
    (let t = name_tidy c.config.inside.b c.set_active_name-in-B.new.self c.args.name c.set_active_name-in-B.ensures in tidy_with (record { a = c.config.inside.a; b = c.config.inside.b; mapping = c.config.inside.mapping }) c.set_active_name-in-B.new.self B t.0 t.1)
