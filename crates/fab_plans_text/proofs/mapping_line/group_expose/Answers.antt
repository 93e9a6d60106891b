use Rattle.fab_plans_base.specs.Steps.{group_expose}
use Rattle.fab_plans_text.proofs.Words.{is_step}
use Rattle.fab_plans_text.proofs.mapping_line.group_expose.Goals as goal

pub new-requires : goal.new-requires
new-requires g c = is_step c.args.words.now (group_expose c.in_ok-group.group) c.requires c.in_ok-group.ensures
