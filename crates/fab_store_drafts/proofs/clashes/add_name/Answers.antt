use Rattle.std.proofs.Common.{◌≡◌, sym}
use Rattle.std.specs.BTreeSet.{contains}
use Rattle.fab_reach_base.proofs.fab_lemmas.Adding.{adds_as, tree_adds_one}
use Rattle.fab_reach_base.specs.fab_names.Orders.{name_cmp}
use Rattle.fab_reach_base.proofs.fab_names.OrderLaws.{name_total, name_exact}
use Rattle.fab_store_drafts.proofs.clashes.add_name.Goals as goal

pub returns : goal.returns
returns g c =
    adds_as (λ x. x ≡ c.args.name) (λ x. c.args.name ≡ x) (contains name_cmp c.args.names.now) (contains name_cmp c.insert.new.self) (λ x e. sym e) (λ x e. sym e)
    (tree_adds_one name_total name_exact c.args.names.now c.insert.new.self c.args.name c.in_ok-insert.ensures.updates.0)
