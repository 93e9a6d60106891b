use Rattle.std.proofs.Common.{◌++◌, reverse, sym, ap, ◌∙◌, subst}
use Rattle.std.specs.BTreeMap.{get}
use Rattle.fab_reach_base.specs.fab_names.Orders.{name_cmp}
use Rattle.fab_world.specs.History.{LeadsBack, changes_of}
use Rattle.fab_world.proofs.WaysBack.{last_first, answer_as}
use Rattle.fab_world.proofs.history.has_sound_history.Goals as goal

pub returns-in-Some-undo_at : goal.returns-in-Some-undo_at
returns-in-Some-undo_at g c =
    let plans = get name_cmp c.args.plans.now in
    let rest = changes_of plans (reverse c.in-Some.pair.1.now) in
    let is = last_first plans c.loop-pair.left.now c.in-Some.pair.1.now c.in-Some.pair.0.now c.in-Some.ensures.cases.0 ∙ ap (λ ys. ys ++ rest) c.in-Some-undo_at.ensures in
    answer_as c.leads_back_by.result
    (λ leads h. (
      (λ t. c.loop-pair.invariant.1 (subst (λ xs. LeadsBack xs c.args.config.now) (sym is) (h.0 t))),
      λ way. h.1 (subst (λ xs. LeadsBack xs c.args.config.now) is (c.loop-pair.invariant.0 way)),
    ))
    c.leads_back_by.ensures

pub loop-pair-preserved : goal.loop-pair-preserved
loop-pair-preserved g c =
    let plans = get name_cmp c.args.plans.now in
    let rest = changes_of plans (reverse c.in-Some.pair.1.now) in
    let is = last_first plans c.loop-pair.left.now c.in-Some.pair.1.now c.in-Some.pair.0.now c.in-Some.ensures.cases.0 ∙ ap (λ ys. ys ++ rest) c.in_default-undo_at.ensures in (
      λ leads. subst (λ xs. LeadsBack xs c.args.config.now) is (c.loop-pair.invariant.0 leads),
      λ leads. c.loop-pair.invariant.1 (subst (λ xs. LeadsBack xs c.args.config.now) (sym is) leads),
    )
