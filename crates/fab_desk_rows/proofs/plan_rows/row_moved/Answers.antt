use Rattle.std.proofs.Common.{sym, ◌∙◌}
use mathlib.Core.Bool.{true≢false}
use Rattle.fab_desk_rows.proofs.PlanPlaces.{none_comes, it_comes}
use Rattle.fab_desk_rows.proofs.plan_rows.row_moved.Goals as goal

pub returns-then-is_same_place : goal.returns-then-is_same_place
returns-then-is_same_place g c = λ w v comes.
    let m = c.none_moved.result in
    none_comes w v c.args.name.now c.args.kept.now c.args.before c.args.after comes m.removed.items m.added.items (c.is_same_place.ensures.0 c.if-is_same_place.true) c.none_moved.ensures.0 c.none_moved.ensures.1

pub returns : goal.returns
returns g c = λ w v comes.
    it_comes w v c.args.name.now c.args.kept.now c.args.before c.args.after comes c.in_ok-removed.removed.items c.in_ok-added.added.items
    (λ same. true≢false (sym (c.is_same_place.ensures.1 same) ∙ c.if-is_same_place.false)) (c.in_ok-removed.ensures.spelt comes.within) c.in_ok-removed.ensures.row c.in_ok-added.ensures.row
