use Rattle.std.proofs.Common.{inr, refl, rules}
use Rattle.fab_desk.specs.fab_desk_base.declared.command.Command.TheVariants as command
use Rattle.fab_wire.proofs.tasks.import_known.Goals as goal

pub returns-in-Ok : goal.returns-in-Ok
returns-in-Ok g c = inr (
  search rules,
  (
    command.Import c.args.fabric c.in-Ok.rows,
    (refl, c.in-Ok.ensures.ok),
    (c.handle.result, record { policy = c.handle.ensures.policy; halted = c.handle.ensures.halted; served = c.handle.ensures.served }, refl),
  ),
)
