use Rattle.std.proofs.Common.{sym, subst}
use Rattle.std.specs.BTreeSet.{contains}
use Rattle.fab_reach_base.proofs.fab_lemmas.Adding.{adds_as}
use Rattle.fab_reach_base.specs.fab_names.Orders.{name_cmp}
use Rattle.fab_reach_base.proofs.Same.{same_some}
use Rattle.fab_store_edits.proofs.Answering.{on_ok}
use Rattle.fab_store_drafts.specs.Inner.Nearby.{SharesHost, SharesHostOf}
use Rattle.fab_store_drafts.proofs.nearby.add_sharing_of.Goals as goal

pub returns-in-Some : goal.returns-in-Some
returns-in-Some g c =
    let u = c.args.users.now in
    let hosts = c.in-Some.hosts.now in
    on_ok c.add_sharing.result (adds_as (SharesHost u hosts) (SharesHostOf c.args.mapping.now u c.args.name.now) (contains name_cmp c.args.near.now) (contains name_cmp c.add_sharing.new.near)
    (λ k h. (hosts, sym c.in-Some.ensures, h)) (λ k w. subst (λ x. SharesHost u x k) (same_some w.1 (sym c.in-Some.ensures)) w.2)) c.add_sharing.ensures
