use Rattle.std.proofs.Common.{[], ◌∷◌, ◌++◌, sym, ap, ◌∙◌}
use Rattle.std.specs.Map.Iter.{deref_pair}
use Rattle.std.proofs.lemmas.Map.Iter.{rest_more, rest_all}
use Rattle.fab_lemmas.proofs.Walks.{walked, walk_end}
use Rattle.fab_reach_base.specs.Views.{seen}
use Rattle.fab_reach_books.proofs.RowsTold.{tells_none, tells_more, ports_told, port_at_entry}
use Rattle.fab_reach_books.specs.declared.row.Row.TheVariants as row
use Rattle.fab_reach_books.proofs.differing.add_ports.Goals as goal

pub loop-name-init : goal.loop-name-init
loop-name-init g c =
    let v = seen c.args.other.now in
    (c.ports-name-items.result, c.ports-name-items.ensures, [], sym c.into_iter-name-iterator.ensures.into_iter_gives, tells_none v (port_at_entry v) c.args.rows.now.items)

pub loop-name-preserved : goal.loop-name-preserved
loop-name-preserved g c =
    let i = c.loop-name.invariant in
    let v = seen c.args.other.now in (
      i.0,
      i.1,
      i.2 ++ (c.in-Some.name.now, c.in-Some.known.now) ∷ [],
      walked i.0 i.2 c.loop-name.name-iterator c.next.new.self (c.in-Some.name.now, c.in-Some.known.now) i.3 (rest_more deref_pair c.loop-name.name-iterator c.next.new.self c.next.result (c.in-Some.name, c.in-Some.known) c.in-Some.is c.next.ensures.steps),
      tells_more v (port_at_entry v) i.2 (c.in-Some.name.now, c.in-Some.known.now) (row.Port c.port_row.result) c.args.rows.now.items c.loop-name.rows.items c.push_port.new.rows.items (ap row.Port c.port_row.ensures) i.4 c.in_ok-push_port.ensures,
    )

pub returns : goal.returns
returns g c =
    let i = c.loop-name.invariant in
    ports_told (seen c.args.other.now) (seen c.args.view.now) i.2 c.args.rows.now.items c.loop-name.rows.items
    (walk_end i.0 i.2 c.loop-name.name-iterator i.3 (rest_all deref_pair c.loop-name.name-iterator c.next.new.self c.next.result c.in-None.is c.next.ensures.steps) ∙ i.1) i.4
