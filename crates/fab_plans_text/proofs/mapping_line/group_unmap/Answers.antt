use Rattle.fab_plans_base.specs.Steps.{group_unmap}
use Rattle.fab_plans_text.proofs.Words.{is_step}
use Rattle.fab_plans_text.proofs.mapping_line.group_unmap.Goals as goal

pub new-requires : goal.new-requires
new-requires g c = is_step c.args.words.now (group_unmap c.in_ok-group.group c.in_ok-group.unit) c.requires c.in_ok-group.ensures
