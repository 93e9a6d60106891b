use Rattle.std.specs.Ordering.{nat_cmp}
use Rattle.fab_names.specs.Orders.{name_cmp}
use Rattle.fab_reach_base.specs.Views.{seen}
use Rattle.fab_reach_books.specs.Inner.Sets.{HasName}
use Rattle.fab_reach_index.specs.Indexes.{IsTargetOf}
use Rattle.fab_reach_pairs.proofs.Leading.{leads_by}
use Rattle.fab_reach_pairs.proofs.Going.{targets_go}
use Rattle.fab_reach_pairs.proofs.patching.target_patch.Goals as goal

pub returns : goal.returns
returns g c v t touched =
    let w = seen c.args.before.now in
    leads_by nat_cmp name_cmp (IsTargetOf w) (λ q n. HasName c.args.touched.now n × IsTargetOf w q n) (λ q n. HasName c.args.touched.now n × IsTargetOf v q n) (IsTargetOf v) c.args.index.now.targeted c.in_ok-gone.gone c.in_ok-come.come c.in_ok-groups.groups c.requires.targeted c.in_ok-gone.ensures (c.in_ok-come.ensures v t) (targets_go w v c.args.touched.now touched) c.in_ok-groups.ensures
