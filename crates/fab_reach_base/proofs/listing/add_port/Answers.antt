use Rattle.std.proofs.Common.{◌∷◌, [], ◌++◌, ℕ, sym, ◌∙◌, subst}
use Rattle.fab_mapping.proofs.fab_mapping_base.fab_lemmas.Walks.{walked, walk_end}
use Rattle.fab_mapping.specs.Mappings.{MappingRows}
use Rattle.fab_reach_base.specs.Orders.{Has}
use Rattle.fab_reach_base.specs.Reach.{PathOf}
use Rattle.fab_reach_base.specs.Views.{seen}
use Rattle.fab_reach_base.specs.Gathering.{IsTargeted}
use Rattle.fab_reach_base.proofs.Adding.{before_more, before_skip}
use Rattle.fab_reach_base.proofs.Gathering.{HasPort, no_port, pair_of, port_added, not_served_from}
use Rattle.fab_reach_base.proofs.listing.add_port.Goals as goal

pub returns-in_default-clause-ok : goal.returns-in_default-clause-ok
returns-in_default-clause-ok g c =
    not_served_from (seen c.args.view.now) c.args.served.now c.args.host.now c.args.p.now (Has c.args.paths.now) c.requires.index c.requires.p c.requires.host (sym c.in_default.ensures.value)

pub loop-target-preserved-else-len-most : goal.loop-target-preserved-else-len-most
loop-target-preserved-else-len-most g c =
    let i = c.loop-target.invariant in (
      i.0 ++ c.in-Some-target.target.now ∷ [],
      walked c.into_iter-target-iterator.result i.0 c.loop-target.target-iterator c.next.new.self c.in-Some-target.target.now i.1 c.in-Some-target.ensures.steps,
      before_more (PathOf (seen c.args.view.now) c.args.p.now.name) i.0 c.in-Some-target.target.now (Has c.args.paths.now) (Has c.loop-target.paths) (Has c.add_pair.new.paths) i.2
          (pair_of (seen c.args.view.now) c.args.p.now.name c.in-Some-target.target.now c.in-Some-port.q (Has c.loop-target.paths) (Has c.add_pair.new.paths) (sym c.in-Some-port.ensures.port) c.in_ok-add_pair.ensures),
    )

pub loop-target-preserved : goal.loop-target-preserved
loop-target-preserved g c =
    let i = c.loop-target.invariant in (
      i.0 ++ c.in-Some-target.target.now ∷ [],
      walked c.into_iter-target-iterator.result i.0 c.loop-target.target-iterator c.next.new.self c.in-Some-target.target.now i.1 c.in-Some-target.ensures.steps,
      before_skip (PathOf (seen c.args.view.now) c.args.p.now.name) i.0 c.in-Some-target.target.now (Has c.args.paths.now) (Has c.loop-target.paths) i.2
          (no_port (seen c.args.view.now) c.args.p.now.name c.in-Some-target.target.now (sym c.in_default-port.ensures.port)),
    )

pub returns-clause-ok : goal.returns-clause-ok
returns-clause-ok g c =
    let i = c.loop-target.invariant in
    port_added (seen c.args.view.now) c.args.served.now c.args.host.now c.args.p.now c.in-Some.groups.now c.in_ok-targets.targets i.0 (Has c.args.paths.now) (Has c.loop-target.paths) c.requires.index c.requires.p c.requires.host
    (sym c.in-Some.ensures.value)
    (subst (λ (m : MappingRows). (q : ℕ) → (HasPort c.in_ok-targets.targets q → IsTargeted m c.in-Some.groups.now q) × (IsTargeted m c.in-Some.groups.now q → HasPort c.in_ok-targets.targets q)) c.mapping.ensures c.in_ok-targets.ensures)
    (walk_end c.into_iter-target-iterator.result i.0 c.loop-target.target-iterator i.1 c.in-None.ensures.steps.0 ∙ c.into_iter-target-iterator.ensures.into_iter_gives.0) i.2
