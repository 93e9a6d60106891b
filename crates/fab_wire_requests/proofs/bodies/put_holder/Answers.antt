use Rattle.std.proofs.Common.{ap}
use Rattle.fab_wire_requests.specs.Commands.{puts_holder}
use Rattle.fab_wire_requests.proofs.bodies.put_holder.Goals as goal

pub returns-in-Ok-Some-clause-meant : goal.returns-in-Ok-Some-clause-meant
returns-in-Ok-Some-clause-meant g c = (
  (c.in-Ok.holder.ports.items, c.in-Ok.holder.tenant),
  c.in-Ok-Some.name,
  c.in-Ok.ensures.ok,
  rw c.in-Ok-Some.field-0-is at c.in-Ok-Some.ensures,
  ap (λ k. puts_holder k c.in-Ok-Some.name c.in-Ok.holder.tenant c.in-Ok.holder.ports.items) c.holder_kind.ensures,
)

pub returns-in-Ok-None-clause-meant : goal.returns-in-Ok-None-clause-meant
returns-in-Ok-None-clause-meant g c =
    (((c.in-Ok.holder.ports.items, c.in-Ok.holder.tenant), c.in-Ok.ensures.ok), λ p h. (rw c.in-Ok-None.field-0-is at c.in-Ok-None.ensures) h.1)
