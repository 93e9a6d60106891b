use Rattle.std.specs.BTreeMap.{get}
use Rattle.fab_reach_base.specs.fab_names.Orders.{name_cmp}
use Rattle.fab_world.specs.History.{changes_at}
use Rattle.fab_world.specs.Plans.{change_in}
use Rattle.fab_world.proofs.WaysBack.{answer_as, no_way, one_way, same_way}
use Rattle.fab_world.proofs.history.undo_plan.Goals as goal

pub returns-in-Some-clause-sound : goal.returns-in-Some-clause-sound
returns-in-Some-clause-sound g c = answer_as c.undo.result (λ led h t. (h t).is.sound) c.undo.ensures.done

pub returns-in-Some-clause-way : goal.returns-in-Some-clause-way
returns-in-Some-clause-way g c = answer_as c.undo.result (λ led h t. one_way c.args.draft.now (change_in c.in-Some.change.now) (changes_at (get name_cmp c.args.plans.now) c.args.name.now) c.in-Some.ensures c.undo.new.self (h t)) c.undo.ensures.done

pub returns-in-Some-clause-none : goal.returns-in-Some-clause-none
returns-in-Some-clause-none g c = answer_as c.undo.result (λ led h t. no_way c.args.draft.now (change_in c.in-Some.change.now) (changes_at (get name_cmp c.args.plans.now) c.args.name.now) c.in-Some.ensures (h t)) c.undo.ensures.none

pub returns-in-None-clause-way : goal.returns-in-None-clause-way
returns-in-None-clause-way g c = λ t others. same_way c.args.draft.now (changes_at (get name_cmp c.args.plans.now) c.args.name.now) others c.in-None.ensures
