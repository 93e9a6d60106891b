use Rattle.std.proofs.Common.{◌≡◌, true, false}
use Rattle.std.specs.BTreeSet.{contains}
use Rattle.fab_names.specs.Orders.{name_cmp}
use Rattle.fab_reach_pairs.proofs.OfInitiators.{kept_targets_are}
use Rattle.fab_reach_books.proofs.SetLoops.{names_from_nothing}
use Rattle.fab_reach_pairs.proofs.initiators.kept_targets.Goals as goal

pub returns : goal.returns
returns g c = kept_targets_are c.args.touched.now c.args.mapping.now c.args.groups.now c.add_kept.new.names c.in_ok-targets.targets
    (names_from_nothing (λ n. (contains name_cmp c.args.groups.now n ≡ true) × (contains name_cmp c.args.touched.now n ≡ false)) c.new-kept.result c.add_kept.new.names c.new-kept.ensures.empty c.in_ok-add_kept.ensures)
    c.in_ok-targets.ensures
