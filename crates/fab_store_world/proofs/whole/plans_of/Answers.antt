use Rattle.std.proofs.Common.{sym, ◌∙◌, subst}
use mathlib.Core.Bool.{true≢false}
use Rattle.std.specs.Prelude.{MatchOption, ℕ, List, Option}
use Rattle.std.specs.BTreeMap.{get}
use Rattle.fab_reach_base.specs.fab_names.Orders.{name_cmp}
use Rattle.fab_world.specs.fab_store_load.Rows.{HasRepeat}
use Rattle.fab_world.specs.PlanRecords.{PlanRecord}
use Rattle.fab_store_world.specs.Kinds.{approval_row}
use Rattle.fab_store_world.specs.Orders.{IsOrderOf}
use Rattle.fab_store_world.specs.Parts.{AreMadeOf, HaveParts}
use Rattle.fab_store_world.specs.PlanRows.{ArePlanRows}
use Rattle.fab_store_world.proofs.WholePlans.{plans_are, in_order, rows_made, no_repeat, all_known, all_active}
use Rattle.fab_store_world.proofs.whole.plans_of.Goals as goal

pub returns-clause-ok : goal.returns-clause-ok
returns-clause-ok g c =
    let rows = c.args.rows.now in
    let listed = subst (λ o. MatchOption o ((order : List (List ℕ)) → ¬ IsOrderOf rows order) (λ order. IsOrderOf rows order.items)) c.in-Some.is c.in_ok-order.ensures in
    let have = subst (λ o. MatchOption o (HasRepeat approval_row c.args.approvals.now) (HaveParts c.args.approvals.now c.args.undo.now)) c.in-Some-2.is c.in_ok-parts.ensures in
    let made = subst (λ o. MatchOption o ((plans : List ℕ → Option PlanRecord) → ¬ ArePlanRows rows plans) (λ plans. AreMadeOf rows c.in-Some-2.parts (get name_cmp plans))) c.in-Some-3.is c.in_ok-plans.ensures in
    plans_are rows c.in-Some-2.parts (get name_cmp c.in-Some-3.plans) made c.args.approvals.now c.args.undo.now have c.in-Some.order.items listed (c.have_plans.ensures.0 c.if-not-have_plans.false) (c.have_active.ensures.0 c.if-not-have_active.false)

pub returns-in_default-clause-err : goal.returns-in_default-clause-err
returns-in_default-clause-err g c = λ plans order h.
    let none = subst (λ o. MatchOption o ((order : List (List ℕ)) → ¬ IsOrderOf c.args.rows.now order) (λ order. IsOrderOf c.args.rows.now order.items)) c.in_default.is c.in_ok-order.ensures in
    none order h.order_is

pub returns-in_default-2-clause-err : goal.returns-in_default-2-clause-err
returns-in_default-2-clause-err g c =
    let repeats = subst (λ o. MatchOption o (HasRepeat approval_row c.args.approvals.now) (HaveParts c.args.approvals.now c.args.undo.now)) c.in_default-2.is c.in_ok-parts.ensures in
    no_repeat c.args.rows.now c.args.approvals.now c.args.undo.now repeats

pub returns-in_default-3-clause-err : goal.returns-in_default-3-clause-err
returns-in_default-3-clause-err g c = λ plans order h.
    let none = subst (λ o. MatchOption o ((plans : List ℕ → Option PlanRecord) → ¬ ArePlanRows c.args.rows.now plans) (λ plans. AreMadeOf c.args.rows.now c.in-Some-2.parts (get name_cmp plans))) c.in_default-3.is c.in_ok-plans.ensures in
    none plans h.rows_are

pub returns-then-not-have_plans-clause-err : goal.returns-then-not-have_plans-clause-err
returns-then-not-have_plans-clause-err g c = λ plans order h.
    let rows = c.args.rows.now in
    let made = subst (λ o. MatchOption o ((plans : List ℕ → Option PlanRecord) → ¬ ArePlanRows rows plans) (λ plans. AreMadeOf rows c.in-Some-2.parts (get name_cmp plans))) c.in-Some-3.is c.in_ok-plans.ensures in
    let known = all_known rows c.args.approvals.now c.args.undo.now (get name_cmp c.in-Some-3.plans) plans order (rows_made rows c.in-Some-2.parts (get name_cmp c.in-Some-3.plans) made) h in
    true≢false (sym (c.have_plans.ensures.1 known) ∙ c.if-not-have_plans.true)

pub returns-then-not-have_active-clause-err : goal.returns-then-not-have_active-clause-err
returns-then-not-have_active-clause-err g c = λ plans order h.
    let rows = c.args.rows.now in
    let made = subst (λ o. MatchOption o ((plans : List ℕ → Option PlanRecord) → ¬ ArePlanRows rows plans) (λ plans. AreMadeOf rows c.in-Some-2.parts (get name_cmp plans))) c.in-Some-3.is c.in_ok-plans.ensures in
    let some = all_active rows c.args.approvals.now c.args.undo.now (get name_cmp c.in-Some-3.plans) plans order (rows_made rows c.in-Some-2.parts (get name_cmp c.in-Some-3.plans) made) h in
    true≢false (sym (c.have_active.ensures.1 some) ∙ c.if-not-have_active.true)

pub returns-clause-in_order : goal.returns-clause-in_order
returns-clause-in_order g c =
    let rows = c.args.rows.now in
    let made = subst (λ o. MatchOption o ((plans : List ℕ → Option PlanRecord) → ¬ ArePlanRows rows plans) (λ plans. AreMadeOf rows c.in-Some-2.parts (get name_cmp plans))) c.in-Some-3.is c.in_ok-plans.ensures in
    in_order rows c.in-Some-2.parts (get name_cmp c.in-Some-3.plans) made
