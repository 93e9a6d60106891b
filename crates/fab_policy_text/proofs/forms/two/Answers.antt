use Rattle.std.proofs.Common.{arith}
use Rattle.fab_policy_text.proofs.Items.{two_items}
use Rattle.fab_policy_text.proofs.forms.two.Goals as goal

pub returns-else-len-eq2 : goal.returns-else-len-eq2
returns-else-len-eq2 c a b h = omega (arith, two_items c.args.items.now.items a b h)
