use Rattle.std.proofs.Common.{subst}
use Rattle.fab_world.specs.Worlds.{records_of}
use Rattle.fab_desk_trials.specs.Trials.{effect_world, IsStepReady}
use Rattle.fab_desk_machine.proofs.Moving.{has_none, none_moved}
use Rattle.fab_desk_machine.proofs.verdicts.moved_by.Goals as goal

pub returns-in-None : goal.returns-in-None
returns-in-None g c =
    let w = c.args.world.now in
    let n = c.args.caller.now in
    let k = c.args.command.now in
    let e = c.args.prepared.now.effect in
    let kept = subst (IsStepReady (g.B.PathBook.leads c.args.book.now) (records_of w) (records_of (effect_world w n k e))) c.in-None.is c.requires.step in
    has_none c.new.result _ c.new.ensures.empty (none_moved w n k e c.requires.effect kept)
