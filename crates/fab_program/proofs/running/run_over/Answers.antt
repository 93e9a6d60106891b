use Rattle.std.proofs.Common.{inl}
use Rattle.fab_program.proofs.running.run_over.Goals as goal

pub returns-in-Ok-clause-done : goal.returns-in-Ok-clause-done
returns-in-Ok-clause-done g c = (
  c.carry_out-came.new.now,
  inl (c.in-Ok.asked, c.in-Ok.ensures.ok, (c.carry_out-came.result, c.carry_out-came.ensures, c.exit_of.ensures.told, c.exit_of.ensures.status)),
)
