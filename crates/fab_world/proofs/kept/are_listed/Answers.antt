use Rattle.std.proofs.Common.{◌≡◌, ℕ, List, [], ◌∷◌, ◌++◌, true, refl, sym, ◌∙◌}
use mathlib.Core.Bool.{true≢false}
use Rattle.std.specs.BTreeSet.{contains}
use Rattle.std.specs.Map.Iter.{deref_pair}
use Rattle.std.proofs.lemmas.Map.Iter.{rest_more, rest_all}
use Rattle.fab_reach_base.proofs.fab_lemmas.Walks.{walked, walk_end}
use Rattle.fab_reach_base.specs.fab_names.Orders.{name_cmp}
use Rattle.fab_reach_base.proofs.Scanning.{none_yet, one_more}
use Rattle.fab_world.specs.PlanRecords.{PlanRecord}
use Rattle.fab_world.specs.Plans.{IsActive}
use Rattle.fab_world.proofs.Listing.{stands_there, all_there}
use Rattle.fab_world.proofs.kept.are_listed.Goals as goal

pub loop-name-init : goal.loop-name-init
loop-name-init g c = ([], sym c.into_iter-name-iterator.ensures.into_iter_gives.0, none_yet (λ (e : List ℕ × PlanRecord). IsActive e.1 → contains name_cmp c.args.names.now e.0 ≡ true))

pub loop-name-preserved : goal.loop-name-preserved
loop-name-preserved g c =
    let i = c.loop-name.invariant in (
      i.0 ++ (c.in-Some.name.now, c.in-Some.plan.now) ∷ [],
      walked c.args.plans.now.entries i.0 c.loop-name.name-iterator c.next.new.self (c.in-Some.name.now, c.in-Some.plan.now) i.1 (rest_more deref_pair c.loop-name.name-iterator c.next.new.self c.next.result (c.in-Some.name, c.in-Some.plan) c.in-Some.is c.next.ensures.steps),
      one_more (λ (e : List ℕ × PlanRecord). IsActive e.1 → contains name_cmp c.args.names.now e.0 ≡ true) i.0 (c.in-Some.name.now, c.in-Some.plan.now) i.2 (c.is_listed.ensures.0 c.if-not-is_listed.false),
    )

pub returns-then-not-is_listed : goal.returns-then-not-is_listed
returns-then-not-is_listed g c =
    let i = c.loop-name.invariant in (
      λ t. absurd (true≢false (sym t)),
      λ h.
          let there = stands_there c.args.plans.now.entries c.into_iter-name-iterator.ensures.into_iter_gives.5 i.0 c.loop-name.name-iterator c.next.new.self (c.in-Some.name.now, c.in-Some.plan.now) i.1
          (rest_more deref_pair c.loop-name.name-iterator c.next.new.self c.next.result (c.in-Some.name, c.in-Some.plan) c.in-Some.is c.next.ensures.steps) in
          absurd (true≢false (sym (c.is_listed.ensures.1 (λ active. h c.in-Some.name.now (c.in-Some.plan.now, there, active))) ∙ c.if-not-is_listed.true)),
    )

pub returns : goal.returns
returns g c =
    let i = c.loop-name.invariant in
    let end = walk_end c.args.plans.now.entries i.0 c.loop-name.name-iterator i.1 (rest_all deref_pair c.loop-name.name-iterator c.next.new.self c.next.result c.in-None.is c.next.ensures.steps) in (
      λ t name h. all_there c.args.plans.now.entries c.into_iter-name-iterator.ensures.into_iter_gives.5 (λ (e : List ℕ × PlanRecord). IsActive e.1 → contains name_cmp c.args.names.now e.0 ≡ true) i.0 end i.2 name h.0 h.1 h.2,
      λ h. refl,
    )
