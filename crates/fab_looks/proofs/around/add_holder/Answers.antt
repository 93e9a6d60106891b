use Rattle.std.proofs.Common.{◌≡◌, None, Some, sym, subst}
use Rattle.std.specs.FinMap as fin
use Rattle.fab_reach_base.specs.fab_inventory.Ports.{port_at}
use Rattle.fab_world.specs.Worlds.{WorldRows}
use Rattle.fab_looks.proofs.Ports.{holder_added, holder_lost, holder_unheld, no_holder}
use Rattle.fab_looks.proofs.around.add_holder.Goals as goal

pub returns-in_default-holder : goal.returns-in_default-holder
returns-in_default-holder g c =
    let x = c.in-Some.known in
    let is = sym (subst (λ (v : WorldRows). Some x ≡ port_at v.inventory.ports c.args.port.now) c.world.view_is c.in-Some.ensures.port) in
    no_holder c.args.policy.now c.args.world.now c.args.id c.args.port.now c.args.queries.now.items
    (holder_unheld c.args.policy.now c.args.world.now c.args.id c.args.port.now x is c.in_default-holder.is)

pub returns-in_default-holder-2 : goal.returns-in_default-holder-2
returns-in_default-holder-2 g c =
    let x = c.in-Some.known in
    let h = c.in-Some-holder.name in
    let is = sym (subst (λ (v : WorldRows). Some x ≡ port_at v.inventory.ports c.args.port.now) c.world.view_is c.in-Some.ensures.port) in
    no_holder c.args.policy.now c.args.world.now c.args.id c.args.port.now c.args.queries.now.items
    (holder_lost c.args.policy.now c.args.world.now c.args.id c.args.port.now x h is c.in-Some-holder.is (sym (subst (λ (v : WorldRows). None ≡ fin.get v.inventory.holders h) c.world.view_is c.in_default-holder-2.ensures.holder)))

pub returns : goal.returns
returns g c =
    let x = c.in-Some.known in
    let h = c.in-Some-holder.name in
    let y = c.in-Some-holder-2.holder in
    holder_added c.args.policy.now c.args.world.now c.args.id c.args.port.now x h y c.args.queries.now.items c.add_open.new.queries.items
    (sym (subst (λ (v : WorldRows). Some x ≡ port_at v.inventory.ports c.args.port.now) c.world.view_is c.in-Some.ensures.port))
    c.in-Some-holder.is
    (sym (subst (λ (v : WorldRows). Some y ≡ fin.get v.inventory.holders h) c.world.view_is c.in-Some-holder-2.ensures.holder))
    c.in_ok-add_open.ensures
