use Rattle.std.specs.Option.{option_copied}
use Rattle.fab_store_world.proofs.OneHolder.{holder_back}
use Rattle.fab_store_world.proofs.holders.holder_difference.Goals as goal

pub lists_only_at-requires-2 : goal.lists_only_at-requires-2
lists_only_at-requires-2 g c = holder_back c.args.before.now c.args.after.now (option_copied c.args.named) c.requires
