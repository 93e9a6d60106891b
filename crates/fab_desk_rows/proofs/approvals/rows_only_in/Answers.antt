use Rattle.std.proofs.Common.{ℕ, List, ◌∷◌, [], ◌++◌, sym, ap, ◌∙◌, subst}
use Rattle.std.specs.BTreeMap.{get}
use Rattle.std.specs.List.Sorted.{IsStrictlySortedBy}
use Rattle.std.specs.Map.{keys_of}
use Rattle.std.specs.Map.Iter.{deref_pair}
use Rattle.std.proofs.lemmas.Map.Iter.{rest_more, rest_all}
use Rattle.fab_reach_base.proofs.fab_lemmas.Walks.{walked, walk_end}
use Rattle.fab_reach_base.specs.fab_names.Orders.{name_cmp}
use Rattle.fab_store_rows.specs.declared.record_row.ApprovalRow.{ApprovalRow}
use Rattle.fab_store_world.proofs.Picked.{picked_none}
use Rattle.fab_desk_rows.proofs.Given.{IsNew, row_at, SoFar, one_more, given_listed}
use Rattle.fab_desk_rows.proofs.approvals.rows_only_in.Goals as goal

pub loop-caller-init : goal.loop-caller-init
loop-caller-init g c =
    let n = c.args.plan.now in
    let others = get name_cmp c.args.others.now in
    ([], sym c.into_iter-caller-iterator.ensures.into_iter_gives.0, subst (SoFar n others []) (sym c.new-rows.ensures.items) (picked_none name_cmp (λ (r : ApprovalRow). r.caller) (IsNew n others) (row_at n others)))

pub loop-caller-preserved : goal.loop-caller-preserved
loop-caller-preserved g c =
    let i = c.loop-caller.invariant in
    let es = c.args.given.now.entries in
    let entry : List ℕ × ℕ = (c.in-Some.caller.now, c.in-Some.revision.now) in
    let next = rest_more deref_pair c.loop-caller.caller-iterator c.next.new.self c.next.result (c.in-Some.caller, c.in-Some.revision) c.in-Some.is c.next.ensures.steps in
    let sorted = subst (λ (xs : List (List ℕ × ℕ)). IsStrictlySortedBy name_cmp (keys_of xs)) {y = i.0 ++ entry ∷ c.next.new.self} (i.1 ∙ ap (λ (xs : List (List ℕ × ℕ)). i.0 ++ xs) next) c.into_iter-caller-iterator.ensures.into_iter_gives.5 in (
      i.0 ++ entry ∷ [],
      walked es i.0 c.loop-caller.caller-iterator c.next.new.self entry i.1 next,
      one_more c.args.plan.now (get name_cmp c.args.others.now) i.0 c.next.new.self entry c.loop-caller.rows.items c.push_approval.new.rows.items sorted c.in_ok-push_approval.ensures i.2,
    )

pub returns : goal.returns
returns g c =
    let i = c.loop-caller.invariant in
    given_listed c.args.plan.now (get name_cmp c.args.others.now) c.args.given.now i.0 c.loop-caller.rows.items c.into_iter-caller-iterator.ensures.into_iter_gives.5
    (walk_end c.args.given.now.entries i.0 c.loop-caller.caller-iterator i.1 (rest_all deref_pair c.loop-caller.caller-iterator c.next.new.self c.next.result c.in-None.is c.next.ensures.steps)) i.2
