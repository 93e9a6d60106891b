use Rattle.std.proofs.Common.{sym, ◌∙◌, arith}
use mathlib.Core.Bool.{true≢false}
use Rattle.std.specs.BTreeMap.{get}
use Rattle.fab_reach_base.specs.fab_lemmas.Firsts.{HasAt}
use Rattle.fab_reach_base.specs.fab_names.Orders.{name_cmp}
use Rattle.fab_world.specs.Plans.{IsActive}
use Rattle.fab_world.proofs.Listing.{each_once, as_large, in_set, in_list, each_has, all_have}
use Rattle.fab_world.proofs.kept.lists_active.Goals as goal

pub returns-then-len-order : goal.returns-then-len-order
returns-then-len-order g c = (
  λ t. absurd (true≢false (sym t)),
  λ h. absurd (let same = as_large c.args.order.now c.in_ok-names.names c.len.ensures.ordered c.in_ok-names.ensures h.each_once in omega (arith, same, c.len.ensures.len, c.if-len-order.true)),
)

pub returns-then-not-are_active : goal.returns-then-not-are_active
returns-then-not-are_active g c = (
  λ t. absurd (true≢false (sym t)),
  λ h. absurd (true≢false (sym (c.are_active.ensures.1 (all_have (HasAt (get name_cmp c.args.plans.now) IsActive) c.args.order.now (λ name there. (h.lists name).0 there))) ∙ c.if-not-are_active.true)),
)

pub returns : goal.returns
returns g c =
    let all = c.are_active.ensures.0 c.if-not-are_active.false in
    let set = c.in_ok-names.names in (
      λ t. record {
        lists = λ name. (
          λ there. each_has (HasAt (get name_cmp c.args.plans.now) IsActive) c.args.order.now all name there,
          λ is. in_list c.args.order.now set c.len.ensures.ordered c.in_ok-names.ensures name (c.are_listed.ensures.0 t name is),
        );
        each_once = each_once c.args.order.now set c.len.ensures.ordered c.in_ok-names.ensures (omega (arith, c.len.ensures.len, c.if-len-order.false));
      },
      λ h. c.are_listed.ensures.1 (λ name is. in_set c.args.order.now set c.len.ensures.ordered c.in_ok-names.ensures name ((h.lists name).1 is)),
    )
