use Rattle.std.proofs.Common.{ap, ◌∙◌, sym, subst}
use Rattle.fab_reach_base.specs.Serving.{IsServing}
use Rattle.fab_reach_base.specs.Views.{seen}
use Rattle.fab_reach_books.specs.Rows.{IsRowDiff}
use Rattle.fab_world.specs.Worlds.{records_of}
use Rattle.fab_desk_trials.proofs.TriedEffects.{something}
use Rattle.fab_desk_trials.proofs.steps.step.Goals as goal

pub few_step-requires-clause-sound : goal.few_step-requires-clause-sound
few_step-requires-clause-sound g c =
    let after = something _ _ _ c.in-Some.after c.in-Some.is (c.moved_view.ensures c.args.caller.now c.args.command.now) in
    subst IsServing (sym after) (c.requires.tried.sound.serves c.requires.sound)

pub few_step-requires-clause-diff : goal.few_step-requires-clause-diff
few_step-requires-clause-diff g c =
    let w = c.args.world.now in
    let before = c.of-before.ensures ∙ ap records_of c.world.view_is in
    let after = something _ _ _ c.in-Some.after c.in-Some.is (c.moved_view.ensures c.args.caller.now c.args.command.now) in
    subst (λ r. IsRowDiff r (seen c.in-Some.after) c.in-Ok.diff.gone.items c.in-Ok.diff.come.items) (sym before)
    (subst (λ r. IsRowDiff (records_of w) r c.in-Ok.diff.gone.items c.in-Ok.diff.come.items) (sym after) (c.in-Ok.ensures c.args.caller.now c.args.command.now))
