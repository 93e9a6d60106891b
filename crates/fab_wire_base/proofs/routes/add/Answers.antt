use Rattle.fab_wire_base.proofs.RouteLemmas.{adds, fails-for-memory}
use Rattle.fab_wire_base.proofs.routes.add.Goals as goal

pub returns-clause-ok : goal.returns-clause-ok
returns-clause-ok c = adds _ _ _ _ _ c.path.ensures c.insert.ensures

pub returns-clause-err : goal.returns-clause-err
returns-clause-err c = fails-for-memory _ _ _ _ _ c.path.ensures c.requires c.insert.ensures
