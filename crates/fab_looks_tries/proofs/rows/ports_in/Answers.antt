use Rattle.std.proofs.Common.{[], refl, ap}
use Rattle.fab_desk_machine.specs.fab_desk_commands.Nexts.{next_world}
use Rattle.fab_looks_tries.proofs.Unmoved.{same_ports}
use Rattle.fab_looks_tries.proofs.rows.ports_in.Goals as goal

pub returns-in-Same : goal.returns-in-Same
returns-in-Same g c w suits = same_ports w (next_world w c.args.next.now) [] refl (ap (λ n. (next_world w n).inventory) c.in-Same.is)

pub returns-in-Staged : goal.returns-in-Staged
returns-in-Staged g c w suits = same_ports w (next_world w c.args.next.now) [] refl (ap (λ n. (next_world w n).inventory) c.in-Staged.is)

pub returns-in-Turned : goal.returns-in-Turned
returns-in-Turned g c w suits = same_ports w (next_world w c.args.next.now) [] refl (ap (λ n. (next_world w n).inventory) c.in-Turned.is)

pub returns-in-Reconfigured : goal.returns-in-Reconfigured
returns-in-Reconfigured g c w suits = same_ports w (next_world w c.args.next.now) [] refl (ap (λ n. (next_world w n).inventory) c.in-Reconfigured.is)
