use Rattle.std.proofs.Common.{ℕ, List, [], ◌∷◌, ◌++◌, ◌∙◌, refl, sym, subst}
use Rattle.std.specs.FinMap as map
use Rattle.std.specs.Map.Iter.{deref_pair}
use Rattle.std.specs.Ordering.{nat_cmp}
use Rattle.std.proofs.lemmas.Map.Iter.{rest_more, rest_all}
use Rattle.fab_reach_base.specs.fab_lemmas.Lists.{IsListOf}
use Rattle.fab_reach_base.proofs.fab_lemmas.SeenEntries.{sorted}
use Rattle.fab_reach_base.proofs.fab_lemmas.Walks.{walked, walk_end}
use Rattle.fab_reach_base.specs.fab_inventory.declared.port.Known.{Known}
use Rattle.fab_world.specs.fab_store_rows.Standing.{IsKnown}
use Rattle.fab_world.specs.fab_store_rows.declared.inventory_row.InventoryRow.TheVariants as row
use Rattle.fab_store_world.specs.Inventories.{port_order, port_row, entry_order, entry_row, address_order, address_row}
use Rattle.fab_store_world.specs.InventoryGathering.{IsRowOfEntries}
use Rattle.fab_store_world.specs.InventoryKeys.{port_by_key, entry_by_key, address_by_key}
use Rattle.fab_store_world.proofs.NamedRows.{listed_none, listed_more}
use Rattle.fab_store_world.proofs.inventories.add_ports.Goals as goal

pub loop-name-init : goal.loop-name-init
loop-name-init g c = (
  [],
  sym (c.into_iter-name-iterator.ensures.into_iter_gives ∙ c.ports-name-items.ensures),
  listed_none port_row (λ r. ¬ IsKnown c.args.other.now (row.Port r)) port_by_key c.args.ports.now.items c.requires.ports,
  listed_none entry_row (λ r. ¬ IsKnown c.args.other.now (row.Entry r)) entry_by_key c.args.entries.now.items c.requires.entries,
  listed_none address_row (λ r. ¬ IsKnown c.args.other.now (row.Address r)) address_by_key c.args.addresses.now.items c.requires.addresses,
)

pub loop-name-preserved : goal.loop-name-preserved
loop-name-preserved g c =
    let i = c.loop-name.invariant in
    let v = c.args.inventory.now.ports in
    let w = c.args.other.now in
    let e : ℕ × Known = (c.in-Some.name.now, c.in-Some.known.now) in
    let it = c.loop-name.name-iterator in
    let more = c.next.new.self in
    let next = rest_more deref_pair it more c.next.result (c.in-Some.name, c.in-Some.known) c.in-Some.is c.next.ensures.steps in
    let in_order = sorted nat_cmp (map.entries v) (map.entries_sorted v) in (
      i.0 ++ e ∷ [],
      walked (map.entries v) i.0 it more e i.1 next,
      listed_more port_row (λ r. ¬ IsKnown w (row.Port r)) port_by_key i.0 e (map.entries v) it more (port_row e.0 e.1) c.loop-name.ports.items c.push_port.new.ports.items i.1 next in_order refl c.in_ok-push_port.ensures.ports i.2,
      listed_more entry_row (λ r. ¬ IsKnown w (row.Entry r)) entry_by_key i.0 e (map.entries v) it more (entry_row e.0 e.1) c.loop-name.entries.items c.push_port.new.entries.items i.1 next in_order refl c.in_ok-push_port.ensures.entries i.3,
      listed_more address_row (λ r. ¬ IsKnown w (row.Address r)) address_by_key i.0 e (map.entries v) it more (address_row e.0 e.1) c.loop-name.addresses.items c.push_port.new.addresses.items i.1 next in_order refl c.in_ok-push_port.ensures.addresses i.4,
    )

pub returns-clause-ports : goal.returns-clause-ports
returns-clause-ports g c =
    let i = c.loop-name.invariant in
    let all = walk_end (map.entries c.args.inventory.now.ports) i.0 c.loop-name.name-iterator i.1 (rest_all deref_pair c.loop-name.name-iterator c.next.new.self c.next.result c.in-None.is c.next.ensures.steps) in
    subst (λ (es : List (ℕ × Known)). IsListOf port_order (IsRowOfEntries port_row (λ r. ¬ IsKnown c.args.other.now (row.Port r)) es) c.loop-name.ports.items) all i.2

pub returns-clause-entries : goal.returns-clause-entries
returns-clause-entries g c =
    let i = c.loop-name.invariant in
    let all = walk_end (map.entries c.args.inventory.now.ports) i.0 c.loop-name.name-iterator i.1 (rest_all deref_pair c.loop-name.name-iterator c.next.new.self c.next.result c.in-None.is c.next.ensures.steps) in
    subst (λ (es : List (ℕ × Known)). IsListOf entry_order (IsRowOfEntries entry_row (λ r. ¬ IsKnown c.args.other.now (row.Entry r)) es) c.loop-name.entries.items) all i.3

pub returns-clause-addresses : goal.returns-clause-addresses
returns-clause-addresses g c =
    let i = c.loop-name.invariant in
    let all = walk_end (map.entries c.args.inventory.now.ports) i.0 c.loop-name.name-iterator i.1 (rest_all deref_pair c.loop-name.name-iterator c.next.new.self c.next.result c.in-None.is c.next.ensures.steps) in
    subst (λ (es : List (ℕ × Known)). IsListOf address_order (IsRowOfEntries address_row (λ r. ¬ IsKnown c.args.other.now (row.Address r)) es) c.loop-name.addresses.items) all i.4
