use mathlib.Core.Bool.{true≢false}
use Rattle.std.proofs.Common.{◌≡◌, ◌<◌, ◌∙◌, length, get_or, ap, sym, subst}
use Rattle.fab_policy.proofs.Walk.{holding, not_applying}
use Rattle.fab_policy.proofs.verdicts.judge.Goals.{then-applies+in_default, else-applies}
use Rattle.fab_policy.proofs.verdicts.judge.Goals as goal

pub loop-i-preserved : goal.loop-i-preserved
loop-i-preserved c =
    let items = c.loop-i.invariant.0 in
    let within : c.loop-i.i < length c.args.policy.now.rules = subst (λ xs. c.loop-i.i < length xs) items c.loop-i-test.true in
    let at : get_or c.args.policy.now.rules c.loop-i.i c.rule-item.result ≡ c.rule-item.result =
    ap (λ xs. get_or xs c.loop-i.i c.rule-item.result) (sym items) ∙ sym c.rule-item.is in
    elim c.if-applies.branch [
      | then-applies+in_default w ↦ (
        items,
        rw w.applied-is (holding _ _ c.loop-i.applied _ _ within at c.loop-i.invariant.1 (c.applies.ensures.0 w.if-applies.true) w.in_default.ensures.first),
        rw w.known-is w.in_default.ensures.known,
      )
      | else-applies w ↦ (
        items,
        rw w.applied-is (not_applying _ _ c.loop-i.applied _ _ within at c.loop-i.invariant.1 (λ y. true≢false (sym (c.applies.ensures.1 y) ∙ w.if-applies.false))),
        rw w.known-is c.loop-i.invariant.2,
      )
    ]
