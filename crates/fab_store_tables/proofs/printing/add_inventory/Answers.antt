use Rattle.std.proofs.Common.{◌++◌, map, subst}
use Rattle.fab_store_tables.proofs.LinesAdded.{adds_then}
use Rattle.fab_store_tables.specs.Listing.{Adds}
use Rattle.fab_store_tables.specs.Rows.{count, port, address, holder, volume}
use Rattle.fab_store_tables.proofs.printing.add_inventory.Goals as goal

pub returns : goal.returns
returns g c =
    let t = c.args.rows.now in
    let l0 = c.args.lines.now.items in
    let l1 = c.add_lines.new.lines.items in
    let l2 = c.add_lines-2.new.lines.items in
    let l3 = c.add_lines-3.new.lines.items in
    let l4 = c.add_lines-4.new.lines.items in
    let l5 = c.add_lines-5.new.lines.items in
    let a1 : Adds (map count t.counts.items) l0 l1 = subst (λ xs. Adds (map count xs) l0 l1) c.as_slice.ensures.value c.in_ok-add_lines.ensures in
    let a2 : Adds (map port t.ports.items) l1 l2 = subst (λ xs. Adds (map port xs) l1 l2) c.as_slice-2.ensures.value c.in_ok-add_lines-2.ensures in
    let a3 : Adds (map address t.addresses.items) l2 l3 = subst (λ xs. Adds (map address xs) l2 l3) c.as_slice-3.ensures.value c.in_ok-add_lines-3.ensures in
    let a4 : Adds (map holder t.holders.items) l3 l4 = subst (λ xs. Adds (map holder xs) l3 l4) c.as_slice-4.ensures.value c.in_ok-add_lines-4.ensures in
    let a5 : Adds (map volume t.volumes.items) l4 l5 = subst (λ xs. Adds (map volume xs) l4 l5) c.as_slice-5.ensures.value c.in_ok-add_lines-5.ensures in
    let last = map holder t.holders.items ++ map volume t.volumes.items in
    let rest = map address t.addresses.items ++ last in
    adds_then (map count t.counts.items) (map port t.ports.items ++ rest) l0 l1 l5 a1 (adds_then (map port t.ports.items) rest l1 l2 l5 a2
    (adds_then (map address t.addresses.items) last l2 l3 l5 a3 (adds_then (map holder t.holders.items) (map volume t.volumes.items) l3 l4 l5 a4 a5)))
