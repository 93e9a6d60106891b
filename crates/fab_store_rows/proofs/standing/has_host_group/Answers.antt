use Rattle.std.proofs.Common.{sym, ◌∙◌}
use Rattle.std.specs.Cmp.Lexicographic.{bytes_decides}
use Rattle.std.specs.FinMap as map
use Rattle.fab_store_rows.specs.Standing.{IsHostHead}
use Rattle.fab_store_rows.proofs.RowsFound.{found_has}
use Rattle.fab_store_rows.proofs.standing.has_host_group.Goals as goal

pub returns-in-Some : goal.returns-in-Some
returns-in-Some g c =
    let row = c.args.row.now in
    let found = c.in-Some.group.now in
    let both = bytes_decides c.tenant.result row.tenant in
    found_has (IsHostHead row) (map.get c.args.mapping.now.host_groups row.name) found c.eq.result c.in-Some.ensures
    ((λ t. record { tenant = sym c.tenant.ensures ∙ both.0 (sym c.eq.ensures ∙ t) }), λ h. c.eq.ensures ∙ both.1 (c.tenant.ensures ∙ h.tenant))
