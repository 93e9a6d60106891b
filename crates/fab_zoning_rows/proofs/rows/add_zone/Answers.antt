use Rattle.std.proofs.Common.{◌≡◌, not, cond, sym, ap, ◌∙◌, Some, None, rules}
use Rattle.std.specs.BTreeMap as tree
use Rattle.std.specs.BTreeMap.{is_at}
use Rattle.std.proofs.lemmas.Result.{err_from_is_err_and}
use Rattle.std.proofs.lemmas.Map.Steps.{set_value_same}
use Rattle.fab_inventory.specs.fab_names.Orders.{name_cmp, member_cmp}
use Rattle.fab_inventory.specs.fab_lemmas.MapsOfSets.{in_tree}
use Rattle.fab_zoning_rows.proofs.RowSets.{ByMember, insert_seen, contains_seen, one_key}
use Rattle.fab_zoning_rows.proofs.rows.add_zone.Goals as goal

-- a set that stayed as it was is written back
pub returns-in_err-insert-in-Some-clause-err : goal.returns-in_err-insert-in-Some-clause-err
returns-in_err-insert-in-Some-clause-err g c =
    let p = err_from_is_err_and c.from_residual.result c.from_residual.ensures.1 in
    let same : c.insert.new.self ≡ c.in-Some.zones.now = λ i. record { keys = c.in_err-insert-in-Some.ensures.err i } in
    rw p.1
    ((c.get_mut.follows.holds c.insert.new.self).0
    ∙ set_value_same (is_at (member_cmp c.args.member)) c.args.zones_by_member.now.entries c.insert.new.self (sym c.in-Some.ensures.value ∙ ap Some (sym same)))

pub returns-in_ok-insert-in-Some-clause-is_new : goal.returns-in_ok-insert-in-Some-clause-is_new
returns-in_ok-insert-in-Some-clause-is_new g c =
    c.in_ok-insert-in-Some.ensures.added
    ∙ ap not (ap (λ o. in_tree name_cmp o c.args.zone) c.in-Some.ensures.value ∙ sym (contains_seen c.args.zones_by_member.now c.get_mut.ensures.ordered c.args.zone c.args.member))

pub returns-in_ok-insert-in-Some-clause-ok : goal.returns-in_ok-insert-in-Some-clause-ok
returns-in_ok-insert-in-Some-clause-ok g c =
    insert_seen c.args.zones_by_member.now (c.get_mut.follows.lender c.insert.new.self) c.args.zone c.args.member (Some c.in-Some.zones.now) c.insert.new.self
    c.get_mut.ensures.ordered (c.get_mut.follows.holds c.insert.new.self).4 (sym c.in-Some.ensures.value)
    c.in_ok-insert-in-Some.ensures.updates.0
    ((c.get_mut.follows.holds c.insert.new.self).3 (search rules)).0

pub returns-in_ok-insert-in-None-2-clause-is_new : goal.returns-in_ok-insert-in-None-2-clause-is_new
returns-in_ok-insert-in-None-2-clause-is_new g c =
    ap not (sym (contains_seen c.args.zones_by_member.now c.get_mut.ensures.ordered c.args.zone c.args.member ∙ ap (λ o. in_tree name_cmp o c.args.zone) (sym c.in-None.ensures.value)))

pub returns-in_ok-insert-in-None-2-clause-ok : goal.returns-in_ok-insert-in-None-2-clause-ok
returns-in_ok-insert-in-None-2-clause-ok g c =
    insert_seen c.args.zones_by_member.now c.insert-in-None-2.new.self c.args.zone c.args.member None c.insert-in-None.new.self
    c.get_mut.ensures.ordered c.insert-in-None-2.ensures.ordered (sym c.in-None.ensures.value)
    (one_key c.new-zones.result c.insert-in-None.new.self c.args.zone c.new-zones.ensures.empty c.in_ok-insert-in-None.ensures.updates.0)
    (λ q. c.in_ok-insert-in-None-2.ensures.updates.0 q ∙ ap (λ (m : ByMember). cond (is_at (member_cmp c.args.member) q) (Some c.insert-in-None.new.self) (tree.get member_cmp m q)) c.get_mut.follows.holds-at-none)
