use Rattle.std.proofs.Common.{sym, ◌∙◌, arith}
use mathlib.Core.Bool.{true≢false}
use Rattle.fab_world.proofs.WholeWorld.{ok_as, few_of, plans_of, order_of, now_of, history_of, sound_whole}
use Rattle.fab_world.proofs.sound.are_sound.Goals as goal

pub returns-then-count-gt-MOST_PLANS : goal.returns-then-count-gt-MOST_PLANS
returns-then-count-gt-MOST_PLANS g c = (
  λ t. absurd (true≢false (sym t)),
  λ s. absurd (let few = few_of c.args.inventory.now c.args.config.now c.args.plans.now c.args.order.now c.args.revision c.len-count.result c.len-count.ensures.ordered c.len-count.ensures.len s in omega (arith, few, c.if-count-gt-MOST_PLANS.true)),
)

pub returns-then-revision-gt-MOST_CHANGES : goal.returns-then-revision-gt-MOST_CHANGES
returns-then-revision-gt-MOST_CHANGES g c = (
  λ t. absurd (true≢false (sym t)),
  λ s. absurd (omega (arith, s.few_changes, c.if-revision-gt-MOST_CHANGES.true)),
)

pub returns-then-not-are_sound_plans : goal.returns-then-not-are_sound_plans
returns-then-not-are_sound_plans g c = (
  λ t. absurd (true≢false (sym t)),
  λ s. absurd (true≢false (sym (c.are_sound_plans.ensures.1 (plans_of c.args.inventory.now c.args.config.now c.args.plans.now c.args.order.now c.args.revision c.len-count.result c.len-count.ensures.ordered c.len-count.ensures.len s)) ∙ c.if-not-are_sound_plans.true)),
)

pub returns-then-not-lists : goal.returns-then-not-lists
returns-then-not-lists g c = (
  λ t. absurd (true≢false (sym t)),
  λ s. absurd (true≢false (sym (c.in_ok-lists.ensures.1 (order_of c.args.inventory.now c.args.config.now c.args.plans.now c.args.order.now c.args.revision c.len-count.result c.len-count.ensures.ordered c.len-count.ensures.len s)) ∙ c.if-not-lists.true)),
)

pub returns-then-not-present : goal.returns-then-not-present
returns-then-not-present g c = (
  λ t. absurd (true≢false (sym t)),
  λ s. absurd (true≢false (sym (c.in_ok-present.ensures.1 (now_of c.args.inventory.now c.args.config.now c.args.plans.now c.args.order.now c.args.revision c.len-count.result c.len-count.ensures.ordered c.len-count.ensures.len s)) ∙ c.if-not-present.true)),
)

pub returns : goal.returns
returns g c = ok_as c.has_sound_history.result
    (λ sound both. (
      λ t. sound_whole c.args.inventory.now c.args.config.now c.args.plans.now c.args.order.now c.args.revision c.len-count.result c.len-count.ensures.ordered c.len-count.ensures.len (omega (arith, c.if-count-gt-MOST_PLANS.false)) (omega (arith, c.if-revision-gt-MOST_CHANGES.false)) (c.are_sound_plans.ensures.0 c.if-not-are_sound_plans.false) (c.in_ok-lists.ensures.0 c.if-not-lists.false) (c.in_ok-present.ensures.0 c.if-not-present.false) (both.0 t),
      λ s. both.1 (history_of c.args.inventory.now c.args.config.now c.args.plans.now c.args.order.now c.args.revision c.len-count.result c.len-count.ensures.ordered c.len-count.ensures.len s),
    ))
    c.has_sound_history.ensures
