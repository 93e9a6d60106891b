use Rattle.std.proofs.Common.{reverse, sym, subst}
use Rattle.std.specs.BTreeMap.{get}
use Rattle.fab_reach_base.specs.fab_names.Orders.{name_cmp}
use Rattle.fab_store_load.proofs.fab_store_rows.Determined.{tidy_of}
use Rattle.fab_world.specs.History.{LeadsBack, changes_of}
use Rattle.fab_world.proofs.WaysBack.{last_first}
use Rattle.fab_world.proofs.history.leads_back.Goals as goal

pub of-requires : goal.of-requires
of-requires g c = tidy_of c.args.now c.requires.parts.zonings

pub returns-then-not-branch : goal.returns-then-not-branch
returns-then-not-branch g c =
    let plans = get name_cmp c.args.plans.now in
    let is = last_first plans c.loop-pair.left.now c.in-Some.pair.1.now c.in-Some.pair.0.now c.in-Some.ensures.cases.0 in (
      λ t. absurd cc,
      λ leads. absurd (c.in_ok-undo_plan.ensures.none c.if-not-branch.true (changes_of plans (reverse c.in-Some.pair.1.now)) (subst (λ xs. LeadsBack xs c.loop-pair.draft) is (c.loop-pair.invariant.1.0 leads))),
    )

pub loop-pair-preserved : goal.loop-pair-preserved
loop-pair-preserved g c =
    let plans = get name_cmp c.args.plans.now in
    let is = last_first plans c.loop-pair.left.now c.in-Some.pair.1.now c.in-Some.pair.0.now c.in-Some.ensures.cases.0 in
    let way = c.in_ok-undo_plan.ensures.way c.if-not-branch.false (changes_of plans (reverse c.in-Some.pair.1.now)) in (
      c.in_ok-undo_plan.ensures.sound c.if-not-branch.false,
      (
        λ leads. way.0 (subst (λ xs. LeadsBack xs c.loop-pair.draft) is (c.loop-pair.invariant.1.0 leads)),
        λ leads. c.loop-pair.invariant.1.1 (subst (λ xs. LeadsBack xs c.loop-pair.draft) (sym is) (way.1 leads)),
      ),
    )
