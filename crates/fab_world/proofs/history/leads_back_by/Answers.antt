use Rattle.std.proofs.Common.{[], ◌∷◌, refl, reverse, sym}
use mathlib.Core.Bool.{true≢false}
use Rattle.std.specs.BTreeMap.{get}
use Rattle.fab_reach_base.specs.fab_names.Orders.{name_cmp}
use Rattle.fab_world.specs.History.{changes_of}
use Rattle.fab_world.specs.Plans.{change_in}
use Rattle.fab_world.proofs.WaysBack.{here, nothing, answer_as, no_way, one_way}
use Rattle.fab_world.proofs.history.leads_back_by.Goals as goal

pub returns-in-Some : goal.returns-in-Some
returns-in-Some g c =
    let change = change_in c.args.change.now in
    let way = one_way c.args.now.now change (change ∷ []) refl c.in-Some.before (here _ _ c.in_ok-before.field-0 c.in-Some.before c.in-Some.is c.in_ok-before.ensures) (changes_of (get name_cmp c.args.plans.now) (reverse c.args.order.now)) in
    answer_as c.leads_back.result (λ is h. ((λ t. way.1 (h.0 t)), λ leads. h.1 (way.0 leads))) c.leads_back.ensures

pub returns-in-None : goal.returns-in-None
returns-in-None g c =
    let change = change_in c.args.change.now in (
      λ t. absurd (true≢false (sym t)),
      λ leads. absurd (no_way c.args.now.now change (change ∷ []) refl (nothing _ _ c.in_ok-before.field-0 c.in-None.is c.in_ok-before.ensures) (changes_of (get name_cmp c.args.plans.now) (reverse c.args.order.now)) leads),
    )
