use Rattle.std.specs.Prelude.{◌≡◌, ℕ, List, Some, true, false, cond, is_some, MatchOption}
use Rattle.std.proofs.Common.{length, refl, sym, ap, ◌∙◌, subst, arith}
use Rattle.std.proofs.lemmas.Option.{slice_get_read}
use Rattle.std.specs.BTreeMap.{get, is_at}
use Rattle.fab_world.specs.fab_store_rows.PlanEntries.{PlanEntry}
use Rattle.fab_reach_base.specs.fab_names.Orders.{name_cmp}
use Rattle.fab_world.specs.PlanRecords.{PlanRecord}
use Rattle.fab_world.specs.fab_plans_text.KeptTexts.{IsTextOf}
use Rattle.fab_store_world.specs.Parts.{IsMadeOf}
use Rattle.fab_store_world.proofs.PlansMade.{none_yet, one_more, all_made, repeated, unread, none_there}
use Rattle.fab_store_world.proofs.plans.plans_from.Goals as goal

pub loop-row-init : goal.loop-row-init
loop-row-init g c = none_yet c.args.rows.now c.args.parts.now (get name_cmp c.new-plans.result) (none_there c.new-plans.result c.new-plans.ensures.empty)

pub returns-then-contains_key : goal.returns-then-contains_key
returns-then-contains_key g c =
    let here = slice_get_read c.args.rows.now (length c.args.rows.now) c.loop-row.row-index c.row-item.result refl c.loop-row-test.true c.row-item.is in
    repeated c.args.rows.now c.args.parts.now c.loop-row.row-index c.row-item.result (get name_cmp c.loop-row.plans) here (subst (λ n. is_some (get name_cmp c.loop-row.plans n) ≡ true) (ap (λ (e : PlanEntry). e.name) c.row.view_is) (sym c.contains_key.ensures ∙ c.if-contains_key.true)) c.loop-row.invariant

pub returns-in_default : goal.returns-in_default
returns-in_default g c =
    let here = slice_get_read c.args.rows.now (length c.args.rows.now) c.loop-row.row-index c.row-item.result refl c.loop-row-test.true c.row-item.is in
    let none = subst (λ o. MatchOption o ((p : PlanRecord) → ¬ IsTextOf c.row-item.result.text p.steps) (IsMadeOf c.row-item.result c.args.parts.now)) c.in_default.is c.in_ok-plan.ensures in
    unread c.args.rows.now c.args.parts.now c.loop-row.row-index c.row-item.result here none

pub loop-row-preserved : goal.loop-row-preserved
loop-row-preserved g c =
    let here = slice_get_read c.args.rows.now (length c.args.rows.now) c.loop-row.row-index c.row-item.result refl c.loop-row-test.true c.row-item.is in
    let made = subst (λ o. MatchOption o ((p : PlanRecord) → ¬ IsTextOf c.row-item.result.text p.steps) (IsMadeOf c.row-item.result c.args.parts.now)) c.in-Some.is c.in_ok-plan.ensures in
    let name = ap (λ (e : PlanEntry). e.name) c.row.view_is in
    let free = subst (λ n. is_some (get name_cmp c.loop-row.plans n) ≡ false) name (sym c.contains_key.ensures ∙ c.if-contains_key.false) in
    let put = subst (λ n. (q : List ℕ) → get name_cmp c.put_plan.new.plans q ≡ cond (is_at (name_cmp n) q) (Some c.in-Some.plan) (get name_cmp c.loop-row.plans q)) name c.in_ok-put_plan.ensures in
    one_more c.args.rows.now c.args.parts.now c.loop-row.row-index c.row-item.result c.in-Some.plan (get name_cmp c.loop-row.plans) (get name_cmp c.put_plan.new.plans) here free made put c.loop-row.invariant

pub returns : goal.returns
returns g c = all_made c.args.rows.now c.args.parts.now c.loop-row.row-index (get name_cmp c.loop-row.plans) (omega (arith, c.loop-row-test.false)) c.loop-row.invariant
