use Rattle.fab_plans_base.specs.Steps.{group_drop}
use Rattle.fab_plans_text.proofs.Words.{is_step}
use Rattle.fab_plans_text.proofs.mapping_line.group_drop.Goals as goal

pub new-requires : goal.new-requires
new-requires g c = is_step c.args.words.now (group_drop c.in_ok-name.name) c.requires c.in_ok-name.ensures
