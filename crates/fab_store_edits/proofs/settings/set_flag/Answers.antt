use Rattle.std.proofs.Common.{sym, ap, ◌∙◌, subst}
use Rattle.fab_reach_base.specs.fab_names.declared.fabric.Fabric.{Fabric}
use Rattle.fab_reach_base.specs.fab_names.declared.fabric.Fabric.TheVariants.{A, B}
use Rattle.fab_reach_base.specs.fab_zoning.declared.flag.DefaultFlag.{DefaultFlag}
use Rattle.fab_reach_base.specs.fab_zoning.Zonings.{FabricZoning}
use Rattle.fab_reach_base.specs.Records.{ConfigRows}
use Rattle.fab_store_rows.specs.declared.config_row.SettingRow.TheVariants.{DefaultZone}
use Rattle.fab_store_rows.specs.declared.config_row.ConfigRow.TheVariants as config
use Rattle.fab_store_edits.specs.Rows.{flag_row}
use Rattle.fab_store_edits.specs.Inner.Edits.{Is, IsPut}
use Rattle.fab_store_rows.specs.Tidy.{HasNoEmptySet, IsTidy}
use Rattle.fab_store_edits.proofs.ZoningMoves.{tidy_with}
use Rattle.fab_store_edits.proofs.Refusing.{flag_put}
use Rattle.fab_store_edits.proofs.settings.set_flag.Goals as goal

pub returns-in-A-clause-set : goal.returns-in-A-clause-set
returns-in-A-clause-set g c =
    subst (λ (old : ConfigRows). IsPut (Is (flag_row c.args.fabric old)) (config.Setting (DefaultZone c.args.fabric c.args.permit)) old (record { a = c.set_default.new.self; b = c.config.inside.b; mapping = c.config.inside.mapping })) c.config.view_is
    (subst (λ (f : Fabric). IsPut (Is (flag_row f (record { a = c.config.inside.a; b = c.config.inside.b; mapping = c.config.inside.mapping }))) (config.Setting (DefaultZone f c.args.permit)) (record { a = c.config.inside.a; b = c.config.inside.b; mapping = c.config.inside.mapping }) (record { a = c.set_default.new.self; b = c.config.inside.b; mapping = c.config.inside.mapping })) (sym c.in-A.is)
    (flag_put (record { a = c.config.inside.a; b = c.config.inside.b; mapping = c.config.inside.mapping }) A c.args.permit c.set_default.new.self (c.set_default.ensures.set ∙ ap (λ (fl : DefaultFlag). record c.config.inside.a { flag = fl }) c.permitting.ensures)))

pub returns-in-A-clause-tidy : goal.returns-in-A-clause-tidy
returns-in-A-clause-tidy g c =
    subst (λ (old : ConfigRows). IsTidy old → IsTidy (record { a = c.set_default.new.self; b = c.config.inside.b; mapping = c.config.inside.mapping })) c.config.view_is
    (tidy_with (record { a = c.config.inside.a; b = c.config.inside.b; mapping = c.config.inside.mapping }) c.set_default.new.self A (ap (λ (u : FabricZoning). u.fabric) c.set_default.ensures.set) (λ h. subst HasNoEmptySet (sym c.set_default.ensures.set) (record { aliases = h.aliases; zones = h.zones; sets = h.sets })))

pub returns-in-B-clause-set : goal.returns-in-B-clause-set
returns-in-B-clause-set g c =
    subst (λ (old : ConfigRows). IsPut (Is (flag_row c.args.fabric old)) (config.Setting (DefaultZone c.args.fabric c.args.permit)) old (record { a = c.config.inside.a; b = c.set_default-in-B.new.self; mapping = c.config.inside.mapping })) c.config.view_is
    (subst (λ (f : Fabric). IsPut (Is (flag_row f (record { a = c.config.inside.a; b = c.config.inside.b; mapping = c.config.inside.mapping }))) (config.Setting (DefaultZone f c.args.permit)) (record { a = c.config.inside.a; b = c.config.inside.b; mapping = c.config.inside.mapping }) (record { a = c.config.inside.a; b = c.set_default-in-B.new.self; mapping = c.config.inside.mapping })) (sym c.in-B.is)
    (flag_put (record { a = c.config.inside.a; b = c.config.inside.b; mapping = c.config.inside.mapping }) B c.args.permit c.set_default-in-B.new.self (c.set_default-in-B.ensures.set ∙ ap (λ (fl : DefaultFlag). record c.config.inside.b { flag = fl }) c.permitting-in-B.ensures)))

pub returns-in-B-clause-tidy : goal.returns-in-B-clause-tidy
returns-in-B-clause-tidy g c =
    subst (λ (old : ConfigRows). IsTidy old → IsTidy (record { a = c.config.inside.a; b = c.set_default-in-B.new.self; mapping = c.config.inside.mapping })) c.config.view_is
    (tidy_with (record { a = c.config.inside.a; b = c.config.inside.b; mapping = c.config.inside.mapping }) c.set_default-in-B.new.self B (ap (λ (u : FabricZoning). u.fabric) c.set_default-in-B.ensures.set) (λ h. subst HasNoEmptySet (sym c.set_default-in-B.ensures.set) (record { aliases = h.aliases; zones = h.zones; sets = h.sets })))
