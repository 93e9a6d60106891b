use Rattle.std.proofs.Common.{inr}
use Rattle.fab_desk_machine.proofs.Ends.{nothing}
use Rattle.fab_desk_machine.proofs.finish.refusal.Goals as goal

pub returns-in-Ok-None : goal.returns-in-Ok-None
returns-in-Ok-None g c = inr (inr (nothing _ _ c.in-Ok-None.field-0 c.in-Ok-None.field-0-is c.in-Ok-None.ensures, c.requires.refused))
