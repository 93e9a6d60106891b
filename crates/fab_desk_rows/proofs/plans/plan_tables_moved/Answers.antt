use Rattle.std.proofs.Common.{inl, inr, ap, subst}
use Rattle.fab_desk_commands.specs.Nexts.{next_world, Suits}
use Rattle.fab_world.proofs.WholeWorld.{ok_as}
use Rattle.fab_desk_rows.specs.Moves.{HaveOnePlans}
use Rattle.fab_desk_rows.proofs.PlansTurned.{order_kept}
use Rattle.fab_desk_rows.proofs.plans.plan_tables_moved.Goals as goal

pub turned_tables-requires : goal.turned_tables-requires
turned_tables-requires g c = subst (Suits c.args.world.now) c.in-Turned.is c.requires.suits

pub turned_tables-requires-in-Reconfigured : goal.turned_tables-requires-in-Reconfigured
turned_tables-requires-in-Reconfigured g c = (subst (Suits c.args.world.now) c.in-Reconfigured.is c.requires.suits).0

pub returns-in-Staged : goal.returns-in-Staged
returns-in-Staged g c =
    let w = c.args.world.now in
    let is = c.in-Staged.is in
    ok_as c.staged_tables.result (λ t h. h (next_world w c.args.next.now) (record { plans = ap (λ n. (next_world w n).plans) is; order = ap (λ n. (next_world w n).order) is }) c.requires.sound c.requires.next_sound) c.staged_tables.ensures

pub returns-in-Turned : goal.returns-in-Turned
returns-in-Turned g c =
    let w = c.args.world.now in
    let v = next_world w c.args.next.now in
    let n = c.in-Turned.name in
    let t = c.in-Turned.turn in
    let is = c.in-Turned.is in
    let leads = subst (Suits w) is c.requires.suits in
    let plans = ap (λ x. (next_world w x).plans) is in
    let order = order_kept w v n t leads.0 leads.1 plans (ap (λ x. (next_world w x).order) is) c.requires.sound c.requires.next_sound leads.2 in
    ok_as c.turned_tables.result (λ moved h. h v (record { plans = plans; order = order }) c.requires.sound c.requires.next_sound) c.turned_tables.ensures

pub returns-in-Reconfigured : goal.returns-in-Reconfigured
returns-in-Reconfigured g c =
    let w = c.args.world.now in
    let is = c.in-Reconfigured.is in
    ok_as c.turned_tables-in-Reconfigured.result (λ t h. h (next_world w c.args.next.now) (record { plans = ap (λ n. (next_world w n).plans) is; order = ap (λ n. (next_world w n).order) is }) c.requires.sound c.requires.next_sound) c.turned_tables-in-Reconfigured.ensures

pub returns-in-Same : goal.returns-in-Same
returns-in-Same g c =
    let w = c.args.world.now in
    let one : HaveOnePlans w (next_world w c.args.next.now) = elim c.in-Same.is [
      | inl e ↦ record { plans = ap (λ n. (next_world w n).plans) e; order = ap (λ n. (next_world w n).order) e }
      | inr e ↦ record { plans = ap (λ n. (next_world w n).plans) e.2; order = ap (λ n. (next_world w n).order) e.2 }
    ] in
    c.no_tables.ensures w (next_world w c.args.next.now) one
