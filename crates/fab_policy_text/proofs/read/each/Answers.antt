use Rattle.std.proofs.Common.{◌≡◌, ◌<◌, ◌∙◌, length, get_or, ap, subst}
use Rattle.fab_policy_text.proofs.Items.{each_more, item_at}
use Rattle.fab_policy_text.proofs.read.each.Goals as goal

pub returns-in-Err-clause-fault : goal.returns-in-Err-clause-fault
returns-in-Err-clause-fault g c m =
    let items = c.loop-item.invariant.0 in
    let within : c.loop-item.item-index < length c.args.items.now.items = subst (λ vs. c.loop-item.item-index < length vs) items c.loop-item-test.true in
    let at : c.item-item.result ≡ get_or c.args.items.now.items c.loop-item.item-index c.item-item.result = c.item-item.is ∙ ap (λ vs. get_or vs c.loop-item.item-index c.item-item.result) items in
    (c.loop-item.item-index, item_at (λ d. g.T.Read.wrong c.args.key d c.in-Err.e) c.args.items.now.items c.loop-item.item-index c.item-item.result within at (c.in-Err.ensures.fault m))

pub loop-item-preserved : goal.loop-item-preserved
loop-item-preserved g c =
    let items = c.loop-item.invariant.0 in
    let within : c.loop-item.item-index < length c.args.items.now.items = subst (λ vs. c.loop-item.item-index < length vs) items c.loop-item-test.true in
    let at : c.item-item.result ≡ get_or c.args.items.now.items c.loop-item.item-index c.item-item.result = c.item-item.is ∙ ap (λ vs. get_or vs c.loop-item.item-index c.item-item.result) items in
    (items, rw c.in-Ok-push.ensures.items (each_more g.T.Read.means c.args.items.now.items c.loop-item.item-index c.item-item.result c.loop-item.read.items c.in-Ok.x within at c.loop-item.invariant.1 c.in-Ok.ensures.ok))
