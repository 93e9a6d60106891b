use Rattle.fab_names.specs.Orders.{name_cmp}
use Rattle.fab_reach_base.specs.Views.{seen}
use Rattle.fab_reach_books.specs.Inner.Sets.{HasName}
use Rattle.fab_reach_index.specs.Indexes.{IsHostServed}
use Rattle.fab_reach_pairs.proofs.Leading.{leads_by}
use Rattle.fab_reach_pairs.proofs.Going.{groups_go}
use Rattle.fab_reach_pairs.proofs.patching.group_patch.Goals as goal

pub returns : goal.returns
returns g c v t touched =
    let w = seen c.args.before.now in
    leads_by name_cmp name_cmp (IsHostServed w) (λ q n. HasName c.args.touched.now n × IsHostServed w q n) (λ q n. HasName c.args.touched.now n × IsHostServed v q n) (IsHostServed v) c.args.index.now.groups c.in_ok-gone.gone c.in_ok-come.come c.in_ok-groups.groups c.requires.groups c.in_ok-gone.ensures (c.in_ok-come.ensures v t) (groups_go w v c.args.touched.now touched) c.in_ok-groups.ensures
