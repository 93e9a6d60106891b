use Rattle.fab_store_base.proofs.WorldOpened.{opened, opened_lines, only_world, no_world, odd_world}
use Rattle.fab_store_base.proofs.opened.world_of_lines.Goals as goal

pub returns-in-Err-clause-err : goal.returns-in-Err-clause-err
returns-in-Err-clause-err g c = odd_world g.row.A.Denot c.args.lines.now c.in-Err.fault c.in-Err.ensures.err

pub returns-in-Ok-world_of-clause-rows : goal.returns-in-Ok-world_of-clause-rows
returns-in-Ok-world_of-clause-rows g c = opened c.args.lines.now c.in-Ok.rows c.in-Ok.ensures.ok c.in-Ok-world_of.world c.in-Ok-world_of.ensures.sound c.in-Ok-world_of.ensures.rows

pub returns-in-Ok-world_of-clause-lined : goal.returns-in-Ok-world_of-clause-lined
returns-in-Ok-world_of-clause-lined g c = opened_lines c.args.lines.now c.in-Ok.rows c.in-Ok.ensures.ok c.in-Ok-world_of.world c.in-Ok-world_of.ensures.sound c.in-Ok-world_of.ensures.rows

pub returns-clause-err : goal.returns-clause-err
returns-clause-err g c = no_world c.args.lines.now c.in-Ok.rows c.in-Ok.ensures.ok c.in-Err-world_of.fault c.in-Err-world_of.ensures.err

pub returns-in-Ok-world_of-clause-only : goal.returns-in-Ok-world_of-clause-only
returns-in-Ok-world_of-clause-only g c = only_world c.args.lines.now c.in-Ok.rows c.in-Ok.ensures.ok c.in-Ok-world_of.world c.in-Ok-world_of.ensures.sound c.in-Ok-world_of.ensures.rows
