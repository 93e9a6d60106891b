use Rattle.std.proofs.Common.{ℕ, List, [], ◌∷◌, ◌++◌, sym, ap}
use Rattle.std.specs.BTreeMap.{is_at}
use Rattle.std.specs.Map.{lookup}
use Rattle.fab_reach_base.proofs.fab_lemmas.Walks.{walked, walk_end}
use Rattle.fab_reach_base.specs.fab_names.Orders.{name_cmp}
use Rattle.fab_desk_commands.proofs.Copies.{nothing_yet, entry_more, stands_there, is_copy}
use Rattle.fab_desk_commands.proofs.turning.copied.Goals as goal

pub loop-caller-init : goal.loop-caller-init
loop-caller-init g c = (
  [],
  sym c.into_iter-caller-iterator.ensures.into_iter_gives.0,
  nothing_yet c.args.approvals.now c.new-copy.result (λ q. ap (λ (es : List (List ℕ × ℕ)). lookup (is_at (name_cmp q)) es) c.new-copy.ensures.empty),
)

pub loop-caller-preserved : goal.loop-caller-preserved
loop-caller-preserved g c =
    let e : List ℕ × ℕ = (c.in-Some.caller.now, c.in-Some.revision.now) in
    let i = c.loop-caller.invariant in
    let there = stands_there c.args.approvals.now c.into_iter-caller-iterator.ensures.into_iter_gives.5 i.0 c.loop-caller.caller-iterator c.next.new.self e i.1 c.in-Some.ensures.steps in (
      i.0 ++ e ∷ [],
      walked c.args.approvals.now.entries i.0 c.loop-caller.caller-iterator c.next.new.self e i.1 c.in-Some.ensures.steps,
      entry_more c.args.approvals.now c.loop-caller.copy c.insert.new.self i.0 e there c.in_ok-insert.ensures.updates.0 i.2,
    )

pub returns : goal.returns
returns g c =
    let i = c.loop-caller.invariant in
    is_copy c.args.approvals.now c.into_iter-caller-iterator.ensures.into_iter_gives.5 c.loop-caller.copy i.0 (walk_end c.args.approvals.now.entries i.0 c.loop-caller.caller-iterator i.1 c.in-None.ensures.steps.0) i.2
