use Rattle.std.proofs.Common.{refl}
use Rattle.fab_policy_text.proofs.forms.FreezeRead.read.Goals as goal

pub returns-in-None-clause-fault : goal.returns-in-None-clause-fault
returns-in-None-clause-fault c m = (refl, λ x h. c.in-None.ensures x.from x.until h)
