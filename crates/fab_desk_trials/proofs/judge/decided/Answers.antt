use Rattle.std.proofs.Common.{None, Some, refl, sym, subst}
use Rattle.fab_policy.specs.declared.act.Act.{Act}
use Rattle.fab_desk_trials.specs.Made.{IsSaid}
use Rattle.fab_desk_trials.proofs.judge.decided.Goals as goal

pub returns-in_default : goal.returns-in_default
returns-in_default c =
    let act : Act = record { caller = c.args.id; action = c.args.action; fabrics = c.args.fabrics; touched = c.args.touched; moment = c.args.moment; plan = None; revision = c.args.revision } in (
      act,
      record {
        caller_is = refl;
        action_is = refl;
        fabrics_are = refl;
        touched_are = refl;
        moment_is = refl;
        plan = subst (λ o. IsSaid o c.args.approvals.now None) (sym c.in_default.is) tt;
        revision_is = refl;
      },
      c.decide.ensures,
    )

pub returns : goal.returns
returns c =
    let act : Act = record { caller = c.args.id; action = c.args.action; fabrics = c.args.fabrics; touched = c.args.touched; moment = c.args.moment; plan = Some (record { author = c.in-Some.author; approvals = c.args.approvals }); revision = c.args.revision } in (
      act,
      record {
        caller_is = refl;
        action_is = refl;
        fabrics_are = refl;
        touched_are = refl;
        moment_is = refl;
        plan = subst (λ o. IsSaid o c.args.approvals.now act.plan) (sym c.in-Some.is) (refl, refl);
        revision_is = refl;
      },
      c.decide-2.ensures,
    )
