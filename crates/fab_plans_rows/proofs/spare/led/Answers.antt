use Rattle.std.proofs.Common.{sym}
use Rattle.fab_store_rows.proofs.Determined.{tidy_of}
use Rattle.fab_store_drafts.proofs.fab_store_edits.Differing.{one_led}
use Rattle.fab_plans_rows.proofs.spare.led.Goals as goal

pub returns-in-Ok-true : goal.returns-in-Ok-true
returns-in-Ok-true g c to sound from_sound differs =
    let from = c.args.from in
    sym (one_led from to c.lead.new.config c.args.come.now c.args.go.now (tidy_of to sound.parts.zonings) (c.lead.ensures.tidy (tidy_of from from_sound.parts.zonings)) differs (c.in-Ok-true.ensures.led c.in-Ok-true.field-0-test))
