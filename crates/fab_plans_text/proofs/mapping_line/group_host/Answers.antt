use Rattle.fab_plans_base.specs.Steps.{group_host}
use Rattle.fab_plans_text.proofs.Words.{is_step}
use Rattle.fab_plans_text.proofs.mapping_line.group_host.Goals as goal

pub new-requires : goal.new-requires
new-requires g c = is_step c.args.words.now (group_host c.in_ok-group.group c.in_ok-group.host_group) c.requires c.in_ok-group.ensures
