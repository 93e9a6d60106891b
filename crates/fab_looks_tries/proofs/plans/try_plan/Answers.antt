use Rattle.fab_looks_tries.proofs.Tried.{tried_plan}
use Rattle.fab_looks_tries.proofs.plans.try_plan.Goals as goal

pub returns-in-Ok-moved-clause-ok : goal.returns-in-Ok-moved-clause-ok
returns-in-Ok-moved-clause-ok g c =
    tried_plan (g.B.PathBook.leads c.foresee.new.book) c.args.policy.now c.args.world.now c.args.token.now c.args.moment c.args.plan c.in-Ok.prepared c.in-Ok-moved.tried
    c.in-Ok.ensures.ok c.in-Ok-moved.ensures.revision c.in-Ok-moved.ensures.rows c.in-Ok-moved.ensures.paths
