use Rattle.std.proofs.Common.{◌≡◌, Some, refl, sym, subst}
use Rattle.fab_reach_base.specs.fab_inventory.Ports.{port_at}
use Rattle.fab_world.specs.Worlds.{WorldRows}
use Rattle.fab_looks_ways.proofs.pairing.pair_of.Goals as goal

pub returns-clause-pair : goal.returns-clause-pair
returns-clause-pair g c =
    let p = c.in-Some.p in
    let q = c.in-Some-port.q in
    let e = c.args.ends.now in (
      refl,
      (
        p,
        q,
        sym (subst (λ (v : WorldRows). Some p ≡ port_at v.inventory.ports e.initiator) c.world.view_is c.in-Some.ensures.port),
        sym (subst (λ (v : WorldRows). Some q ≡ port_at v.inventory.ports e.target) c.world.view_is c.in-Some-port.ensures.port),
        c.in_ok-tie.ensures.tie,
      ),
    )
