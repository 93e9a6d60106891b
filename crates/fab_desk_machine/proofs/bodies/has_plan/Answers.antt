use Rattle.std.proofs.Common.{refl, sym}
use Rattle.fab_desk_machine.proofs.bodies.has_plan.Goals as goal

pub returns-in-Some : goal.returns-in-Some
returns-in-Some g c = ((λ _. (c.in-Some._plan.now, sym c.in-Some.ensures)), λ _. refl)
