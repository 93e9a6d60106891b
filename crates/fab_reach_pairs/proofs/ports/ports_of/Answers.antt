use Rattle.fab_reach_base.specs.Views.{seen}
use Rattle.fab_reach_books.specs.Inner.Sets.{HasPortIn}
use Rattle.fab_reach_books.proofs.SetLoops.{adds_both, from_nothing}
use Rattle.fab_reach_pairs.specs.Owning.{IsKnownPort, NamesPortIn}
use Rattle.fab_reach_pairs.proofs.ports.ports_of.Goals as goal
use Rattle.std.proofs.Common.{◌⊎◌}

pub returns : goal.returns
returns g c =
    let w = seen c.args.before.now in
    from_nothing (λ p. IsKnownPort w p ⊎ NamesPortIn c.args.come.now p) c.new-ports.result c.add_all_named.new.ports c.new-ports.ensures.empty
    (adds_both (IsKnownPort w) (NamesPortIn c.args.come.now) (HasPortIn c.new-ports.result) (HasPortIn c.add_known.new.ports) (HasPortIn c.add_all_named.new.ports) c.in_ok-add_known.ensures c.in_ok-add_all_named.ensures)
