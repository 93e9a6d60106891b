use Rattle.std.proofs.Common.{[], ◌++◌, subst, sym}
use Rattle.fab_store_tables.proofs.LinesAdded.{adds_then, lines_none}
use Rattle.fab_store_tables.specs.Listing.{AreLinesOf, inventory_rows, config_rows, record_rows}
use Rattle.fab_store_tables.proofs.printing.lines_of_rows.Goals as goal

pub returns : goal.returns
returns g c =
    let t = c.args.rows.now in
    let l0 = c.new-lines.result.items in
    let l1 = c.add_inventory.new.lines.items in
    let l2 = c.add_config.new.lines.items in
    let l3 = c.add_records.new.lines.items in
    adds_then (inventory_rows t) (config_rows t ++ record_rows t) l0 l1 l3 c.in_ok-add_inventory.ensures (adds_then (config_rows t) (record_rows t) l1 l2 l3 c.in_ok-add_config.ensures c.in_ok-add_records.ensures)
    [] (subst (AreLinesOf []) (sym c.new-lines.ensures.items) lines_none)
