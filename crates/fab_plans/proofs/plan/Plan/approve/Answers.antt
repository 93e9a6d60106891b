use Rattle.fab_reach_base.proofs.fab_names.OrderLaws.{name_total, name_exact}
use Rattle.fab_reach_base.proofs.fab_lemmas.SeenMaps.{seen_insert}
use Rattle.fab_plans.proofs.plan.Plan.approve.Goals as goal

pub returns-clause-ok : goal.returns-clause-ok
returns-clause-ok g c = λ i. record {
  author = c.args.self.now.author;
  steps = c.args.self.now.text;
  approvals = seen_insert name_total name_exact c.args.self.now.approvals c.insert.new.self c.args.caller c.args.revision c.in_ok-insert.ensures.updates.0 i;
}
