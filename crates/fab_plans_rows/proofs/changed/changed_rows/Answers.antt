use Rattle.fab_plans_rows.proofs.KeysNamed.{agree}
use Rattle.fab_plans_rows.proofs.changed.changed_rows.Goals as goal

pub difference_at-requires : goal.difference_at-requires
difference_at-requires g c = agree c.requires.0 c.in_ok-keys.keys c.args.steps.now c.args.before.now c.args.after.now c.requires.1 c.in_ok-keys.ensures
