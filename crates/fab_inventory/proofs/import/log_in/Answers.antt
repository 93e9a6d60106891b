use Rattle.std.proofs.Common.{◌≡◌, ◌+◌, ap, ◌∙◌, subst, take, List, ◌∷◌, [], ◌++◌, arith, Some, cond}
use Rattle.std.specs.Ordering.{nat_cmp}
use Rattle.std.specs.BTreeMap.{get, is_at}
use Rattle.fab_inventory.specs.declared.port.PortRow.{PortRow}
use Rattle.fab_inventory.specs.declared.port.Known.{Known}
use Rattle.fab_inventory.specs.Imports.{ListsIn, logged_in}
use Rattle.fab_inventory.proofs.Steps.{lists_push, one_more, in_take, at_index}
use Rattle.fab_inventory.proofs.import.log_in.Goals as goal

pub loop-row-preserved : goal.loop-row-preserved
loop-row-preserved g c =
    let xs : List PortRow = take c.loop-row.row-index c.args.rows.now in
    let r : PortRow = c.row-item.result in
    let e : xs ++ r ∷ [] ≡ take (c.loop-row.row-index + 1) c.args.rows.now = one_more c.args.rows.now c.loop-row.row-index r (omega arith) c.row-item.is in
    let known : c.logged_in-known.result ≡ logged_in c.args.fabric r (get nat_cmp c.args.ports.now r.name) = c.logged_in-known.ensures ∙ ap (logged_in c.args.fabric r) c.get.ensures.value in
    subst (λ ys. ListsIn c.args.fabric ys (get nat_cmp c.args.ports.now) (get nat_cmp c.args.next.now) (get nat_cmp c.insert.new.self)) e
    (lists_push c.args.fabric xs r (get nat_cmp c.args.ports.now) (get nat_cmp c.args.next.now) (get nat_cmp c.loop-row.next) (get nat_cmp c.insert.new.self) c.loop-row.invariant
    (λ s in_s same. c.requires s r (in_take c.args.rows.now c.loop-row.row-index s in_s) (at_index c.args.rows.now c.loop-row.row-index r (omega arith) c.row-item.is) same)
    (λ q. c.in_ok-insert.ensures.updates.0 q ∙ ap (λ (k : Known). cond (is_at (nat_cmp r.name) q) (Some k) (get nat_cmp c.loop-row.next q)) known))
