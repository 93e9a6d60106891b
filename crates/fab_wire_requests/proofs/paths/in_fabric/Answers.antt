use Rattle.std.proofs.Common.{ap}
use Rattle.fab_wire_requests.specs.Commands.{shows}
use Rattle.fab_wire_requests.proofs.paths.in_fabric.Goals as goal

pub returns-in_default-first-clause-meant : goal.returns-in_default-first-clause-meant
returns-in_default-first-clause-meant g c p h = (rw c.in_default-first.is at c.in-Ok.ensures) p.0 h.0

pub returns-in_default-second-clause-meant : goal.returns-in_default-second-clause-meant
returns-in_default-second-clause-meant g c p h = (rw c.in_default-second.is at c.in-Ok-name_part.ensures) h.1.1

pub returns-clause-meant : goal.returns-clause-meant
returns-clause-meant g c =
    ((c.in-Some.fabric, c.in-Some-second.name), (rw c.in-Some.is at c.in-Ok.ensures, rw c.in-Some-second.is at c.in-Ok-name_part.ensures), ap shows c.zoning_query.ensures)
