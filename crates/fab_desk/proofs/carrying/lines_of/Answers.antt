use Rattle.fab_desk.proofs.Tied.{on_ok}
use Rattle.fab_desk.proofs.carrying.lines_of.Goals as goal

pub moves-requires-clause-hosts : goal.moves-requires-clause-hosts
moves-requires-clause-hosts g c = c.requires.hosts c.in_ok-delta.delta (c.in_ok-delta.ensures _ _ c.requires.step)

pub returns-clause-paths : goal.returns-clause-paths
returns-clause-paths g c = on_ok c.moves.result (c.in_ok-delta.delta, c.in_ok-delta.ensures _ _ c.requires.step)
