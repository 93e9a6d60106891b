use Rattle.fab_store_rows.proofs.KeysTold.{at_keys_listed}
use Rattle.fab_store_rows.proofs.at_keys.difference_at.Goals as goal

pub returns : goal.returns
returns g c = record {
  takes = at_keys_listed c.args.keys.now c.args.before.now c.args.after.now c.in_ok-taken.taken.items (λ r other. (c.requires r other).0) c.in_ok-taken.ensures;
  adds = at_keys_listed c.args.keys.now c.args.after.now c.args.before.now c.in_ok-added.added.items (λ r other. (c.requires r other).1) c.in_ok-added.ensures;
}
