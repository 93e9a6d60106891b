use Rattle.std.proofs.Common.{sym, subst, ℕ}
use Rattle.fab_reach_pairs.proofs.LooseLoops.{of_host}
use Rattle.fab_reach_base.specs.Views.{seen}
use Rattle.fab_reach_books.specs.Inner.Sets.{HasPairIn, HasPortIn}
use Rattle.fab_mapping.specs.Mappings.{MappingRows}
use Rattle.fab_reach_base.specs.Gathering.{IsTargeted}
use Rattle.fab_reach_pairs.proofs.loose.add_of_host.Goals as goal

pub returns : goal.returns
returns g c = of_host (seen c.args.view.now) c.args.fabric c.args.index.now.held c.args.host.now c.in-Some.ports.now c.in_ok-initiators.initiators c.in_ok-offered.offered c.in_ok-targets.targets c.args.groups.now (HasPairIn c.args.pairs.now) (HasPairIn c.add_product.new.pairs)
    (sym c.in-Some.ensures.value) c.in_ok-initiators.ensures
    (subst (λ (m : MappingRows). (q : ℕ) → (HasPortIn c.in_ok-offered.offered q → IsTargeted m c.args.groups.now q) × (IsTargeted m c.args.groups.now q → HasPortIn c.in_ok-offered.offered q)) c.mapping.ensures c.in_ok-offered.ensures)
    c.in_ok-targets.ensures c.in_ok-add_product.ensures
