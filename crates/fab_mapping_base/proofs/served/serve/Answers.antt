use Rattle.std.proofs.Common.{cond, sym, ap, ◌∙◌, Some, None, rules}
use Rattle.std.specs.BTreeMap as tree
use Rattle.std.specs.BTreeMap.{is_at}
use Rattle.fab_inventory.specs.fab_names.Orders.{name_cmp}
use Rattle.fab_mapping_base.specs.ClashSearch.{Index}
use Rattle.fab_mapping_base.proofs.Serving.{adds_service, one_key}
use Rattle.fab_mapping_base.proofs.served.serve.Goals as goal

pub returns-in_ok-insert-in-Some : goal.returns-in_ok-insert-in-Some
returns-in_ok-insert-in-Some g c =
    adds_service c.args.served.now (c.get_mut.follows.lender c.insert.new.self) c.args.host c.args.place (Some c.in-Some.places.now) c.insert.new.self
    (sym c.in-Some.ensures.value) c.in_ok-insert-in-Some.ensures.updates.0 ((c.get_mut.follows.holds c.insert.new.self).3 (search rules)).0

pub returns-in_ok-insert-in-None-2 : goal.returns-in_ok-insert-in-None-2
returns-in_ok-insert-in-None-2 g c =
    adds_service c.args.served.now c.insert-in-None-2.new.self c.args.host c.args.place None c.insert-in-None.new.self
    (sym c.in-None.ensures.value)
    (one_key c.new-places.result c.insert-in-None.new.self c.args.place c.new-places.ensures.empty c.in_ok-insert-in-None.ensures.updates.0)
    (λ q. c.in_ok-insert-in-None-2.ensures.updates.0 q ∙ ap (λ (m : Index). cond (is_at (name_cmp c.args.host) q) (Some c.insert-in-None.new.self) (tree.get name_cmp m q)) c.get_mut.follows.holds-at-none)
