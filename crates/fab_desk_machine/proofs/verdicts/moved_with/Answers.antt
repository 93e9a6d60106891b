use Rattle.std.proofs.Common.{MatchOption, ap, ◌∙◌, subst}
use Rattle.fab_reach_base.specs.Views.{seen}
use Rattle.fab_world.specs.Worlds.{records_of}
use Rattle.fab_desk_trials.specs.Trials.{KeepsRecords, AreRecordsAfter}
use Rattle.fab_world.proofs.WholeWorld.{ok_as}
use Rattle.fab_desk_machine.proofs.Moving.{has_none, none_moved, tenants_moved}
use Rattle.fab_desk_machine.proofs.verdicts.moved_with.Goals as goal

pub returns-in-Some : goal.returns-in-Some
returns-in-Some g c =
    let w = c.args.world.now in
    let n = c.args.caller.now in
    let k = c.args.command.now in
    let e = c.args.effect.now in
    let after = subst (λ o. MatchOption o (KeepsRecords w n k e) (λ view. AreRecordsAfter w n k e (seen view))) c.in-Some.is (c.moved_view.ensures n k) in
    ok_as c.moved_tenants.result (λ s h. tenants_moved w n k e c.requires.effect s (seen c.of.result) (seen c.in-Some.after) (c.of.ensures ∙ ap records_of c.world.view_is) after h) c.moved_tenants.ensures

pub returns-in-None : goal.returns-in-None
returns-in-None g c =
    let kept = subst (λ o. MatchOption o (KeepsRecords c.args.world.now c.args.caller.now c.args.command.now c.args.effect.now) (λ view. AreRecordsAfter c.args.world.now c.args.caller.now c.args.command.now c.args.effect.now (seen view))) c.in-None.is (c.moved_view.ensures c.args.caller.now c.args.command.now) in
    has_none c.new.result _ c.new.ensures.empty (none_moved c.args.world.now c.args.caller.now c.args.command.now c.args.effect.now c.requires.effect kept)
