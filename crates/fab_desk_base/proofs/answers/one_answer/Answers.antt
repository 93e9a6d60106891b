use Rattle.fab_desk_base.proofs.OneAnswer as answers
use Rattle.fab_desk_base.proofs.answers.one_answer.Goals as goal

pub returns : goal.returns
returns g c p w q a b h k = answers.one_answer w p q c.args.reply.now c.args.other.now a b h k
