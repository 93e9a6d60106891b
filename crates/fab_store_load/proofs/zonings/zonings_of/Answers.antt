use Rattle.std.proofs.Common.{sym, ◌∙◌}
use mathlib.Core.Bool.{true≢false}
use Rattle.fab_names.specs.declared.fabric.Fabric.TheVariants.{A, B}
use Rattle.fab_store_load.specs.Configs.{SettingSays}
use Rattle.fab_store_load.proofs.FabricRows.{zoning_says, setting_says, definitions_go_over, active_goes_over, one_name, found_setting, found_none}
use Rattle.fab_store_load.proofs.zonings.zonings_of.Goals as goal

pub returns-in_default-clause-damaged : goal.returns-in_default-clause-damaged
returns-in_default-clause-damaged g c w all sound = found_none _ c.in_ok-settings.field-0 c.in_default.is c.in_ok-settings.ensures.none w all

pub returns-then-not-has_sound_definitions-clause-damaged : goal.returns-then-not-has_sound_definitions-clause-damaged
returns-then-not-has_sound_definitions-clause-damaged g c w all sound =
    let over = definitions_go_over A c.args.rows.now w.a c.in_ok-a.a (zoning_says c.args.rows.now w all A) c.in_ok-a.ensures.rows c.in_ok-a.ensures.some sound.0 in
    true≢false (sym (c.has_sound_definitions.ensures.1 over) ∙ c.if-not-has_sound_definitions.true)

pub returns-then-not-has_sound_definitions-2-clause-damaged : goal.returns-then-not-has_sound_definitions-2-clause-damaged
returns-then-not-has_sound_definitions-2-clause-damaged g c w all sound =
    let over = definitions_go_over B c.args.rows.now w.b c.in_ok-b.b (zoning_says c.args.rows.now w all B) c.in_ok-b.ensures.rows c.in_ok-b.ensures.some sound.1 in
    true≢false (sym (c.has_sound_definitions-2.ensures.1 over) ∙ c.if-not-has_sound_definitions-2.true)

pub returns-then-not-has_sound_active-clause-damaged : goal.returns-then-not-has_sound_active-clause-damaged
returns-then-not-has_sound_active-clause-damaged g c w all sound =
    let s = c.in-Some.settings in
    let setting = found_setting (λ s. SettingSays A c.args.rows.now s.a.active s.a.flag) c.in_ok-settings.field-0 s c.in-Some.is c.in_ok-settings.ensures.a in
    let name = one_name A c.args.rows.now w.a.active s.a.active w.a.flag s.a.flag (setting_says c.args.rows.now w all A) setting ∙ sym c.in_ok-a.ensures.active in
    let over = active_goes_over A c.args.rows.now w.a c.in_ok-a.a (zoning_says c.args.rows.now w all A) c.in_ok-a.ensures.rows name sound.0 in
    true≢false (sym (c.has_sound_active.ensures.1 over) ∙ c.if-not-has_sound_active.true)

pub returns-then-not-has_sound_active-2-clause-damaged : goal.returns-then-not-has_sound_active-2-clause-damaged
returns-then-not-has_sound_active-2-clause-damaged g c w all sound =
    let s = c.in-Some.settings in
    let setting = found_setting (λ s. SettingSays B c.args.rows.now s.b.active s.b.flag) c.in_ok-settings.field-0 s c.in-Some.is c.in_ok-settings.ensures.b in
    let name = one_name B c.args.rows.now w.b.active s.b.active w.b.flag s.b.flag (setting_says c.args.rows.now w all B) setting ∙ sym c.in_ok-b.ensures.active in
    let over = active_goes_over B c.args.rows.now w.b c.in_ok-b.b (zoning_says c.args.rows.now w all B) c.in_ok-b.ensures.rows name sound.1 in
    true≢false (sym (c.has_sound_active-2.ensures.1 over) ∙ c.if-not-has_sound_active-2.true)
