use Rattle.std.proofs.Common.{sym, subst}
use Rattle.fab_store_drafts.specs.There.{IsClearAt}
use Rattle.fab_plans_rows.proofs.clash.are_clear.Goals as goal

pub returns-then-touch_only : goal.returns-then-touch_only
returns-then-touch_only g c is n touched =
    let v = c.args.mapping.now in
    subst (IsClearAt v) (sym (c.touch_only.ensures c.if-touch_only.true touched.0 touched.1 v n touched.2)) (c.is_clear_at.ensures is)
