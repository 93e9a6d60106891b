use Rattle.std.proofs.Common.{◌++◌, map, subst}
use Rattle.fab_store_tables.proofs.LinesAdded.{adds_then}
use Rattle.fab_store_tables.specs.Listing.{Adds}
use Rattle.fab_store_tables.specs.Rows.{config_row, plan, approval}
use Rattle.fab_store_tables.proofs.printing.add_config.Goals as goal

pub returns : goal.returns
returns g c =
    let t = c.args.rows.now in
    let l0 = c.args.lines.now.items in
    let l1 = c.add_lines.new.lines.items in
    let l2 = c.add_lines-2.new.lines.items in
    let l3 = c.add_lines-3.new.lines.items in
    let a1 : Adds (map config_row t.config.items) l0 l1 = subst (λ xs. Adds (map config_row xs) l0 l1) c.as_slice.ensures.value c.in_ok-add_lines.ensures in
    let a2 : Adds (map plan t.plans.items) l1 l2 = subst (λ xs. Adds (map plan xs) l1 l2) c.as_slice-2.ensures.value c.in_ok-add_lines-2.ensures in
    let a3 : Adds (map approval t.approvals.items) l2 l3 = subst (λ xs. Adds (map approval xs) l2 l3) c.as_slice-3.ensures.value c.in_ok-add_lines-3.ensures in
    adds_then (map config_row t.config.items) (map plan t.plans.items ++ (map approval t.approvals.items)) l0 l1 l3 a1 (adds_then (map plan t.plans.items) (map approval t.approvals.items) l1 l2 l3 a2 (a3))
