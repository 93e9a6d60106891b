use Rattle.std.specs.BTreeMap.{get}
use Rattle.fab_names.specs.Orders.{fabric_cmp}
use Rattle.fab_names.specs.declared.fabric.Fabric.TheVariants.{A, B}
use Rattle.fab_reach_base.specs.fab_zoning.Zonings.{permits}
use Rattle.fab_reach_base.specs.Records.{zoning_at}
use Rattle.fab_store_load.specs.Kinds.{active_set_row, default_zone_row}
use Rattle.fab_store_load.proofs.Restored.{found, not_found}
use Rattle.fab_store_load.proofs.FabricRows.{names_say, permits_say, no_second, no_missing, setting_is}
use Rattle.fab_store_load.proofs.settings.settings_of.Goals as goal

pub returns-in_default-clause-none : goal.returns-in_default-clause-none
returns-in_default-clause-none g c w all = no_second active_set_row c.args.rows.now (λ x. (zoning_at w x).active) (names_say c.args.rows.now w all) (not_found fabric_cmp active_set_row c.args.rows.now c.in_ok-names.field-0 c.in_default.is c.in_ok-names.ensures)

pub returns-in_default-2-clause-none : goal.returns-in_default-2-clause-none
returns-in_default-2-clause-none g c w all = no_second default_zone_row c.args.rows.now (λ x. permits (zoning_at w x).flag) (permits_say c.args.rows.now w all) (not_found fabric_cmp default_zone_row c.args.rows.now c.in_ok-permits.field-0 c.in_default-2.is c.in_ok-permits.ensures)

pub returns-in_default-setting_of-clause-none : goal.returns-in_default-setting_of-clause-none
returns-in_default-setting_of-clause-none g c w all =
    no_missing c.args.rows.now w A (get fabric_cmp c.in-Some.names) (get fabric_cmp c.in-Some-2.permits)
    (found fabric_cmp active_set_row c.args.rows.now c.in_ok-names.field-0 c.in-Some.names c.in-Some.is c.in_ok-names.ensures)
    (found fabric_cmp default_zone_row c.args.rows.now c.in_ok-permits.field-0 c.in-Some-2.permits c.in-Some-2.is c.in_ok-permits.ensures) c.in_default-setting_of.ensures all

pub returns-in_default-setting_of-2-clause-none : goal.returns-in_default-setting_of-2-clause-none
returns-in_default-setting_of-2-clause-none g c w all =
    no_missing c.args.rows.now w B (get fabric_cmp c.in-Some.names) (get fabric_cmp c.in-Some-2.permits)
    (found fabric_cmp active_set_row c.args.rows.now c.in_ok-names.field-0 c.in-Some.names c.in-Some.is c.in_ok-names.ensures)
    (found fabric_cmp default_zone_row c.args.rows.now c.in_ok-permits.field-0 c.in-Some-2.permits c.in-Some-2.is c.in_ok-permits.ensures) c.in_default-setting_of-2.ensures all

pub returns-clause-a : goal.returns-clause-a
returns-clause-a g c =
    setting_is c.args.rows.now A (get fabric_cmp c.in-Some.names) (get fabric_cmp c.in-Some-2.permits) c.in-Some-setting_of.a.active c.in-Some-setting_of.a.flag
    (found fabric_cmp active_set_row c.args.rows.now c.in_ok-names.field-0 c.in-Some.names c.in-Some.is c.in_ok-names.ensures)
    (found fabric_cmp default_zone_row c.args.rows.now c.in_ok-permits.field-0 c.in-Some-2.permits c.in-Some-2.is c.in_ok-permits.ensures) c.in-Some-setting_of.ensures.0 c.in-Some-setting_of.ensures.1

pub returns-clause-b : goal.returns-clause-b
returns-clause-b g c =
    setting_is c.args.rows.now B (get fabric_cmp c.in-Some.names) (get fabric_cmp c.in-Some-2.permits) c.in-Some-setting_of-2.b.active c.in-Some-setting_of-2.b.flag
    (found fabric_cmp active_set_row c.args.rows.now c.in_ok-names.field-0 c.in-Some.names c.in-Some.is c.in_ok-names.ensures)
    (found fabric_cmp default_zone_row c.args.rows.now c.in_ok-permits.field-0 c.in-Some-2.permits c.in-Some-2.is c.in_ok-permits.ensures) c.in-Some-setting_of-2.ensures.0 c.in-Some-setting_of-2.ensures.1
