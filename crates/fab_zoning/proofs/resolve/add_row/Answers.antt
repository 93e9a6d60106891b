use Rattle.std.proofs.Common.{◌≡◌, arith}
use Rattle.fab_zoning_rows.specs.Rows.{Row}
use Rattle.fab_zoning.proofs.Adding.{adds_one, only_from}
use Rattle.fab_zoning.proofs.resolve.add_row.Goals as goal

pub returns-then-count-gt-MOST_ROWS-clause-err : goal.returns-then-count-gt-MOST_ROWS-clause-err
returns-then-count-gt-MOST_ROWS-clause-err g c =
    let r : Row = (c.args.zone, c.args.member) in (
      only_from (λ (q : Row). q ≡ r) c.args.rows.now c.put.new.self (adds_one c.args.rows.now c.put.new.self r c.in_ok-put.ensures.ok),
      omega arith,
    )

pub returns-clause-ok : goal.returns-clause-ok
returns-clause-ok g c = (adds_one c.args.rows.now c.put.new.self (c.args.zone, c.args.member) c.in_ok-put.ensures.ok, omega arith)
