use Rattle.std.proofs.Common.{◌↔◌, ℕ, List, Contains, sym, ap, subst}
use Rattle.fab_world.specs.Worlds.{WorldRows}
use Rattle.fab_desk_base.specs.Touching.{Touches}
use Rattle.fab_desk_trials.specs.Named.{plan_named, AreListed}
use Rattle.fab_desk_trials.proofs.ActsJudged.{judged_made}
use Rattle.fab_desk_trials.proofs.judge.judged_by.Goals as goal

pub returns : goal.returns
returns g c = judged_made c.args.policy.now c.args.world.now c.args.id c.args.caller.now c.args.moment c.args.command.now c.args.action c.fabrics_of-fabrics.result.now c.as_slice-touched.result.now c.author_of-author.result c.as_slice-approvals.result.now c.world.inside.revision c.decided.result
    (record {
      there = c.requires.there;
      action_is = c.requires.action;
      fabrics_are = c.fabrics_of-fabrics.ensures c.args.world.now c.requires.steps;
      touched_are = subst (λ xs. (t : List ℕ) → Contains xs t ↔ Touches c.args.world.now c.args.caller.now c.args.command.now t) (sym c.as_slice-touched.ensures.value) c.requires.touched;
      approvals_are = subst (AreListed c.args.world.now (plan_named c.args.command.now)) (sym c.as_slice-approvals.ensures.value) c.requires.approvals;
    })
    c.author_of-author.ensures
    (ap (λ (w : WorldRows). w.revision) c.world.view_is)
    c.decided.ensures
