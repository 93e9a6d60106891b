use Rattle.std.proofs.Common.{◌∙◌, ℕ, [], ◌∷◌, ◌++◌, refl}
use Rattle.fab_lemmas.proofs.Walks.{walked, walk_end}
use Rattle.fab_reach_base.proofs.Adding.{before_none, before_more}
use Rattle.fab_reach_index.specs.Indexes.{IsHeldBy}
use Rattle.fab_reach_books.specs.Inner.Sets.{HasPortIn}
use Rattle.fab_reach.proofs.Regroups.{ports_all}
use Rattle.fab_reach.proofs.regrouped.add_ports_after.Goals as goal

pub loop-host-init : goal.loop-host-init
loop-host-init g c = ([], refl, λ w v a d. before_none (λ h (p : ℕ). IsHeldBy v h p) (HasPortIn c.args.ports.now))

pub loop-host-preserved : goal.loop-host-preserved
loop-host-preserved g c =
    let i = c.loop-host.invariant in (
      i.0 ++ c.in-Some.host.now ∷ [],
      walked c.into_iter-host-iterator.result i.0 c.loop-host.host-iterator c.next.new.self c.in-Some.host.now i.1 c.in-Some.ensures.steps,
      λ w v a d. before_more (λ h (p : ℕ). IsHeldBy v h p) i.0 c.in-Some.host.now (HasPortIn c.args.ports.now) (HasPortIn c.loop-host.ports) (HasPortIn c.add_held_after.new.ports) (i.2 w v a d) (c.in_ok-add_held_after.ensures w v a d),
    )

pub returns : goal.returns
returns g c w v a d =
    let i = c.loop-host.invariant in
    ports_all v c.args.hosts.now i.0 (HasPortIn c.args.ports.now) (HasPortIn c.loop-host.ports)
    (walk_end c.into_iter-host-iterator.result i.0 c.loop-host.host-iterator i.1 c.in-None.ensures.steps.0 ∙ c.into_iter-host-iterator.ensures.into_iter_gives.0) (i.2 w v a d)
