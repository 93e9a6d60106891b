use Rattle.std.proofs.Common.{refl, sym, ap, ◌∙◌}
use mathlib.Core.Bool.{true≢false}
use Rattle.fab_desk_commands.proofs.PlanChecks.{name_refused, room_refused}
use Rattle.fab_desk_commands.proofs.Stagings.{same_made, other_plan, no_other_plan, is_new, new_made, new_sound}
use Rattle.fab_desk_commands.proofs.WorldParts.{plans_seen}
use Rattle.fab_desk_commands.proofs.staged.is_staged_already.Goals as goal

pub returns-then-same-clause-same : goal.returns-then-same-clause-same
returns-then-same-clause-same g c = λ _.
    let seen = plans_seen _ c.args.world.now c.world.inside.plans refl c.world.view_is in
    let is = sym (c.in-Some.ensures.value ∙ ap (λ look. look c.args.plan.now) seen) in
    let same = c.in-Ok.ensures.0 c.if-same.true in
    same_made c.args.world.now c.args.caller.now c.args.plan.now c.args.steps.now c.in-Some.kept.now is (sym same.0) (same.1 ∙ c.as_slice.ensures.value)

pub returns-in-Some-clause-err : goal.returns-in-Some-clause-err
returns-in-Some-clause-err g c =
    let seen = plans_seen _ c.args.world.now c.world.inside.plans refl c.world.view_is in
    let is = sym (c.in-Some.ensures.value ∙ ap (λ look. look c.args.plan.now) seen) in
    name_refused c.args.world.now c.args.caller.now c.args.plan.now c.args.steps.now
    (other_plan c.args.world.now c.args.caller.now c.args.plan.now c.args.steps.now c.in-Some.kept.now is (λ h. true≢false (sym (c.in-Ok.ensures.1 (sym h.0, h.1 ∙ sym c.as_slice.ensures.value)) ∙ c.if-same.false)))

pub returns-then-has_no_room-clause-err : goal.returns-then-has_no_room-clause-err
returns-then-has_no_room-clause-err g c =
    let seen = plans_seen _ c.args.world.now c.world.inside.plans refl c.world.view_is in
    let free = sym (c.in_default.ensures.value ∙ ap (λ look. look c.args.plan.now) seen) in
    room_refused c.args.world.now c.args.caller.now c.args.plan.now c.args.steps.now (no_other_plan c.args.world.now c.args.caller.now c.args.plan.now c.args.steps.now free)
    c.if-has_no_room.ensures.full

pub returns-clause-new : goal.returns-clause-new
returns-clause-new g c = λ _.
    let seen = plans_seen _ c.args.world.now c.world.inside.plans refl c.world.view_is in
    let free = sym (c.in_default.ensures.value ∙ ap (λ look. look c.args.plan.now) seen) in
    let room = c.if-has_no_room.ensures.room in (
      is_new c.args.world.now c.args.caller.now c.args.plan.now c.args.steps.now free,
      new_made c.args.world.now c.args.caller.now c.args.plan.now c.args.steps.now free room,
    )

pub returns-clause-sound : goal.returns-clause-sound
returns-clause-sound g c = λ _.
    let seen = plans_seen _ c.args.world.now c.world.inside.plans refl c.world.view_is in
    let free = sym (c.in_default.ensures.value ∙ ap (λ look. look c.args.plan.now) seen) in
    let room = c.if-has_no_room.ensures.room in
    new_sound c.args.world.now c.args.caller.now c.args.plan.now c.args.steps.now free room c.requires
