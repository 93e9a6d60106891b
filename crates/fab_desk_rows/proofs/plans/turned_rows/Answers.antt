use Rattle.std.proofs.Common.{◌≡◌, ◌+◌, length, sym, ap, ◌∙◌, subst}
use Rattle.fab_world.specs.Worlds.{WorldRows}
use Rattle.fab_world.proofs.WholeWorld.{ok_as}
use Rattle.fab_desk_rows.specs.Places.{IsLastIfActive}
use Rattle.fab_desk_rows.proofs.PlansTurned.{comes, stands_last, stood_last}
use Rattle.fab_desk_rows.proofs.plans.turned_rows.Goals as goal

pub returns : goal.returns
returns g c =
    let w = c.args.world.now in
    let n = c.args.name.now in
    let t = c.args.turn.now in
    let p = c.plan_at-kept.result.now in
    let is = c.plan_at-kept.ensures.plan in
    let leads = c.plan_at-kept.ensures.leads in
    let order = c.world.inside.order in
    let many : length w.order ≡ c.len-in_force.result = ap (λ (x : WorldRows). length x.order) (sym c.world.view_is) ∙ sym order.ok.0 ∙ sym c.len-in_force.ensures in
    let before = c.place_in-before in
    let after = c.place_in-after in
    let was = before.ensures.state ∙ c.state.ensures in
    let is_now = after.ensures.state ∙ c.state_after.ensures p leads in
    ok_as c.row_moved.result
    (λ m moved v turns sound next_sound.
    let stood = stood_last w v n t p is turns sound next_sound leads c.len-in_force.result many in
    let stands = stands_last w v n t p is turns sound next_sound leads (c.len-in_force.result + 1) (ap (λ k. k + 1) many) in
    moved w v
    (comes w v n t p is turns sound next_sound leads before.result after.result was is_now
    (before.ensures.position w.order n (subst (IsLastIfActive w.order c.len-in_force.result n) (sym c.state.ensures) stood))
    (after.ensures.position v.order n (subst (IsLastIfActive v.order (c.len-in_force.result + 1) n) (sym (c.state_after.ensures p leads)) stands))))
    c.row_moved.ensures
