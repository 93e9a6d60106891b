use Rattle.fab_desk_base.proofs.OneRefusal as refusals
use Rattle.fab_desk_base.proofs.answers.one_refusal.Goals as goal

pub returns : goal.returns
returns g c p w q f e a b h k = refusals.one_refusal w p q f e a b h k
