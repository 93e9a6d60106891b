-- Plans that are put together from their rows, and from their approvals and changes by name: steps on
-- the way.
use Rattle.std.specs.Prelude.{ℕ, ◌≡◌, List, [], Contains, Option, None, Some}
use Rattle.std.specs.BTreeMap.{BTreeMap, get}
use Rattle.std.specs.BTreeSet.{BTreeSet}
use Rattle.std.specs.FinMap as map
use Rattle.fab_reach_base.specs.fab_lemmas.Firsts.{HasAt}
use Rattle.fab_reach_base.specs.fab_names.Orders.{name_cmp}
use Rattle.fab_world.specs.fab_store_rows.declared.config_row.ConfigRow.{ConfigRow}
use Rattle.fab_world.specs.fab_store_rows.declared.record_row.PlanState.{PlanState}
use Rattle.fab_world.specs.fab_store_rows.declared.record_row.PlanState.TheVariants as state
use Rattle.fab_store_world.specs.declared.plans.PlanParts.{PlanParts}
use Rattle.fab_world.specs.fab_plans_text.KeptTexts.{IsTextOf}
use Rattle.fab_store_world.specs.PlanRows.{HaveNames, ChangesInOrder}
use Rattle.fab_world.specs.fab_store_rows.PlanEntries.{PlanEntry}
use Rattle.fab_world.specs.fab_store_rows.declared.record_row.ApprovalRow.{ApprovalRow}
use Rattle.fab_world.specs.fab_store_rows.declared.record_row.UndoRow.{UndoRow}
use Rattle.fab_world.specs.fab_store_rows.RowOrder.{row_cmp}
use Rattle.fab_reach_base.specs.fab_zoning.Edits.{IsIn}
use Rattle.fab_world.specs.fab_store_load.Rows.{AreRows, IsAt}
use Rattle.fab_world.specs.fab_store_load.Assembled.{map_at}
use Rattle.fab_store_world.specs.Kinds.{approval_row, taken_row, added_row}
use Rattle.fab_world.specs.PlanRecords.{Standing, staged, active, rolled_back, withdrawn, PlanRecord}

-- the rows of the set that was found, or none
abbrev pub rows_at : Option (BTreeSet ConfigRow) → List ConfigRow
rows_at None = []
rows_at (Some s) = s.keys

-- the approvals that were found, or none
abbrev pub approvals_at : Option (BTreeMap (List ℕ) ℕ) → map.FinMap name_cmp ℕ
approvals_at = map_at name_cmp

-- where a plan in this state stands, whose activation changed this
abbrev pub standing_in : PlanState → List ConfigRow → List ConfigRow → Standing
standing_in state.Staged taken added = staged
standing_in state.Active taken added = active taken added
standing_in state.RolledBack taken added = rolled_back
standing_in state.Withdrawn taken added = withdrawn

-- the plan of the row, with what stands under its name
pub record IsMadeOf {A : Type 0} (r : PlanEntry) (parts : PlanParts A) (p : PlanRecord) : Type 0 where
  pub author : p.author ≡ r.author
  pub text : IsTextOf r.text p.steps
  pub approvals : p.approvals ≡ approvals_at (get name_cmp parts.approvals r.name)
  pub standing : p.standing ≡ standing_in r.state (rows_at (get name_cmp parts.taken r.name)) (rows_at (get name_cmp parts.added r.name))
  pub in_order : ChangesInOrder p.standing

-- the plans are just those of the rows, each with what stands under its name
pub record AreMadeOf {A : Type 0} (rows : List PlanEntry) (parts : PlanParts A) (plans : List ℕ → Option PlanRecord) : Type 0 where
  pub each : (r : PlanEntry) → Contains rows r → HasAt plans (IsMadeOf r parts) r.name
  pub every : (n : List ℕ) (p : PlanRecord) → plans n ≡ Some p → (r : PlanEntry) × Contains rows r × (r.name ≡ n)
  pub once : HaveNames rows

-- what stands under names is just what the rows say
pub record HaveParts {A : Type 0} (approvals : List ApprovalRow) (undo : List UndoRow) (parts : PlanParts A) : Type 0 where
  pub approvals_are : AreRows approval_row approvals (IsAt name_cmp name_cmp parts.approvals)
  pub taken_are : AreRows taken_row undo (IsIn name_cmp row_cmp parts.taken)
  pub added_are : AreRows added_row undo (IsIn name_cmp row_cmp parts.added)
