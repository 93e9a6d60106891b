use Rattle.std.proofs.Common.{ℕ, List, [], ◌∷◌, ◌++◌, sym, subst, refl}
use Rattle.std.specs.Map.Iter.{deref_pair}
use Rattle.std.proofs.lemmas.Map.Iter.{rest_more, rest_all}
use Rattle.fab_reach_base.proofs.fab_lemmas.SeenMaps.{entries_made}
use Rattle.fab_reach_base.proofs.fab_lemmas.Walks.{walked, walk_end}
use Rattle.fab_reach_base.proofs.fab_names.OrderLaws.{name_total, name_exact}
use Rattle.fab_policy.specs.declared.act.Approval.{Approval}
use Rattle.fab_desk_base.specs.Showing.{AreEntries}
use Rattle.fab_desk_base.proofs.Entries.{entries_more}
use Rattle.fab_desk_base.proofs.listed.approvals_listed.Goals as goal

pub loop-caller-init : goal.loop-caller-init
loop-caller-init g c = ([], sym c.into_iter-caller-iterator.ensures.into_iter_gives.0, subst (AreEntries []) (sym c.new-items.ensures.items) tt)

pub loop-caller-preserved : goal.loop-caller-preserved
loop-caller-preserved g c =
    let i = c.loop-caller.invariant in
    let entry : List ℕ × ℕ = (c.in-Some.caller.now, c.in-Some.revision.now) in
    let approval : Approval = record { caller = c.in-Some.caller.now; revision = c.in-Some.revision.now } in (
      i.0 ++ entry ∷ [],
      walked c.args.approvals.now.entries i.0 c.loop-caller.caller-iterator c.next.new.self entry i.1 (rest_more deref_pair c.loop-caller.caller-iterator c.next.new.self c.next.result (c.in-Some.caller, c.in-Some.revision) c.in-Some.is c.next.ensures.steps),
      subst (AreEntries (i.0 ++ entry ∷ [])) (sym c.in_ok-push.ensures.items) (entries_more i.0 c.loop-caller.items.items entry approval i.2 refl refl),
    )

pub returns : goal.returns
returns g c =
    let i = c.loop-caller.invariant in
    let entries = c.args.approvals.now.entries in
    let whole = walk_end entries i.0 c.loop-caller.caller-iterator i.1 (rest_all deref_pair c.loop-caller.caller-iterator c.next.new.self c.next.result c.in-None.is c.next.ensures.steps) in
    subst (λ es. AreEntries es c.loop-caller.items.items) (sym (entries_made name_total name_exact entries c.len-count.ensures.ordered)) (subst (λ es. AreEntries es c.loop-caller.items.items) whole i.2)
