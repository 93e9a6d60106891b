use Rattle.fab_store_load.proofs.WholeRows.{whole_rows, sound_whole, fault_is_exact}
use Rattle.fab_store_load.proofs.config.config_of.Goals as goal

pub returns-in-Err-clause-exact : goal.returns-in-Err-clause-exact
returns-in-Err-clause-exact g c = fault_is_exact c.args.rows.now c.in-Err.fault c.in-Err.ensures.damaged

pub returns-in-Err-mapping_of-clause-exact : goal.returns-in-Err-mapping_of-clause-exact
returns-in-Err-mapping_of-clause-exact g c = fault_is_exact c.args.rows.now c.in-Err-mapping_of.fault c.in-Err-mapping_of.ensures.damaged

pub returns-clause-rows : goal.returns-clause-rows
returns-clause-rows g c =
    whole_rows c.args.rows.now (record { a = c.in-Ok.zonings.a; b = c.in-Ok.zonings.b; mapping = c.in-Ok-mapping_of.mapping }) c.in-Ok.ensures.setting_a c.in-Ok.ensures.setting_b c.in-Ok.ensures.a c.in-Ok.ensures.b c.in-Ok-mapping_of.ensures.host_groups c.in-Ok-mapping_of.ensures.groups

pub returns-clause-sound : goal.returns-clause-sound
returns-clause-sound g c =
    sound_whole (record { a = c.in-Ok.zonings.a; b = c.in-Ok.zonings.b; mapping = c.in-Ok-mapping_of.mapping }) c.in-Ok.ensures.fabrics c.in-Ok.ensures.sound c.in-Ok-mapping_of.ensures.sound
