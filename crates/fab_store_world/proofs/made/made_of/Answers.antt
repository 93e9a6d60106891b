use Rattle.std.proofs.Common.{ℕ, MatchOption, subst}
use Rattle.fab_world.specs.fab_store_load.Inventories.{AreAll}
use Rattle.fab_store_world.specs.OpenedTables.{IsCount}
use Rattle.fab_store_world.proofs.WorldMade.{made, no_revision, no_config, no_plans}
use Rattle.fab_store_world.proofs.made.made_of.Goals as goal

pub returns-in_default-clause-err : goal.returns-in_default-clause-err
returns-in_default-clause-err g c =
    let rows = c.as_slice.result.now in
    let none = subst (λ o. MatchOption o ((n : ℕ) → ¬ AreAll rows (IsCount n)) (λ n. AreAll rows (IsCount n))) c.in_default.is c.revision_of.ensures in
    no_revision c.args.tables.now rows c.as_slice.ensures.value none

pub returns-in-Err-config_of-clause-err : goal.returns-in-Err-config_of-clause-err
returns-in-Err-config_of-clause-err g c = no_config c.args.tables.now c.as_slice-2.result.now c.in-Err-config_of.fault c.as_slice-2.ensures.value c.in-Err-config_of.ensures.exact

pub returns-in-Err-plans_of-clause-err : goal.returns-in-Err-plans_of-clause-err
returns-in-Err-plans_of-clause-err g c =
    no_plans c.args.tables.now c.as_slice-rows.result.now c.as_slice-approvals.result.now c.as_slice-3.result.now c.in-Err-plans_of.fault c.as_slice-rows.ensures.value c.as_slice-approvals.ensures.value c.as_slice-3.ensures.value c.in-Err-plans_of.ensures.err

pub returns-clause-ok : goal.returns-clause-ok
returns-clause-ok g c =
    let rows = c.as_slice.result.now in
    let counted = subst (λ o. MatchOption o ((n : ℕ) → ¬ AreAll rows (IsCount n)) (λ n. AreAll rows (IsCount n))) c.in-Some.is c.revision_of.ensures in
    made c.args.tables.now rows c.as_slice-ports.result.now c.as_slice-addresses.result.now c.as_slice-holders.result.now c.as_slice-volumes.result.now c.as_slice-2.result.now c.as_slice-rows.result.now c.as_slice-approvals.result.now c.as_slice-3.result.now c.as_slice.ensures.value
    c.as_slice-ports.ensures.value c.as_slice-addresses.ensures.value c.as_slice-holders.ensures.value c.as_slice-volumes.ensures.value c.as_slice-2.ensures.value c.as_slice-rows.ensures.value c.as_slice-approvals.ensures.value c.as_slice-3.ensures.value c.in-Ok.inventory
    c.in-Ok-config_of.config c.in-Ok-plans_of.plans.plans c.in-Ok-plans_of.plans.order.items c.in-Some.revision counted c.in-Ok.ensures.rows c.in-Ok-config_of.ensures.rows c.in-Ok-config_of.ensures.sound.parts.zonings c.in-Ok-plans_of.ensures.ok
    c.in-Ok-plans_of.ensures.in_order
