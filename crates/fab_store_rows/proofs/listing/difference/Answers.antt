use Rattle.fab_store_rows.proofs.RowLists.{only_listed}
use Rattle.fab_store_rows.proofs.listing.difference.Goals as goal

pub returns : goal.returns
returns g c = record {
  takes = only_listed c.args.before.now c.args.after.now c.in_ok-taken.taken.items c.in_ok-taken.ensures;
  adds = only_listed c.args.after.now c.args.before.now c.in_ok-added.added.items c.in_ok-added.ensures;
}
