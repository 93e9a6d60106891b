use Rattle.fab_plans_base.specs.Steps.{group_new}
use Rattle.fab_plans_text.proofs.Words.{is_step}
use Rattle.fab_plans_text.proofs.mapping_line.group_new.Goals as goal

pub new-requires : goal.new-requires
new-requires g c = is_step c.args.words.now (group_new c.in_ok-name.name c.in_ok-name.tenant c.in_ok-name.array) c.requires c.in_ok-name.ensures
