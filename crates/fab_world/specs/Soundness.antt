-- Which worlds are sound.
use Rattle.std.specs.Prelude.{ℕ, ◌≤◌, ◌↔◌, List, Contains, Option, reverse}
use Rattle.std.specs.FinMap as map
use Rattle.std.specs.List.{IsDistinct}
use Rattle.std.specs.Ordering.{eq_by_cmp}
use Rattle.fab_reach_base.specs.fab_lemmas.Firsts.{HasAt}
use Rattle.fab_reach_base.specs.fab_names.Orders.{name_cmp}
use Rattle.fab_reach_base.specs.fab_inventory.Inventories as inventories
use Rattle.fab_reach_base.specs.fab_mapping.Soundness.{Each, Fits}
use Rattle.fab_reach_base.specs.Limits.{MoreThan, most_paths}
use Rattle.fab_reach_base.specs.Reach.{Reaches}
use Rattle.fab_reach_base.specs.Records.{ConfigRows}
use Rattle.fab_reach_base.specs.Soundness.{IsSoundAlone}
use Rattle.fab_plans.specs.fab_plans_base.Plans.{IsWithinLimits}
use Rattle.fab_world.specs.Limits.{most_plans, most_changes}
use Rattle.fab_world.specs.History.{changes_of, LeadsBack}
use Rattle.fab_world.specs.PlanRecords.{PlanRecord}
use Rattle.fab_world.specs.Plans.{IsActive}
use Rattle.fab_world.specs.Worlds.{WorldRows, records_of}

-- 1 to 200 steps, whose printed form is not too long, and no approval at a revision above the
-- greatest that there may be
pub record IsSoundPlan (p : PlanRecord) : Type 0 where
  pub steps : IsWithinLimits p.steps
  pub approvals : Each (map.get p.approvals) (λ revision. revision ≤ most_changes)

-- just the active plans are listed, each once
pub record ListsActive (plans : List ℕ → Option PlanRecord) (order : List (List ℕ)) : Type 0 where
  pub lists : (name : List ℕ) → Contains order name ↔ HasAt plans IsActive name
  pub each_once : IsDistinct (eq_by_cmp name_cmp) order

-- the inventory and the configuration are sound, the one beside the other, and there are not too
-- many paths
pub record IsSoundNow (v : inventories.InventoryRows) (c : ConfigRows) : Type 0 where
  pub inventory : inventories.IsSound v
  pub config : IsSoundAlone c
  pub fits : Fits v c.mapping
  pub few_paths : ¬ MoreThan most_paths (Reaches (record { inventory = v; config = c }))

-- a sound world
pub record IsSound (w : WorldRows) : Type 0 where
  pub inventory : inventories.IsSound w.inventory
  pub config : IsSoundAlone w.config
  pub fits : Fits w.inventory w.config.mapping
  pub few_paths : ¬ MoreThan most_paths (Reaches (records_of w))
  pub few_plans : map.len w.plans ≤ most_plans
  pub plans : Each (map.get w.plans) IsSoundPlan
  pub order : ListsActive (map.get w.plans) w.order
  pub earlier : LeadsBack (changes_of (map.get w.plans) (reverse w.order)) w.config
  pub few_changes : w.revision ≤ most_changes
