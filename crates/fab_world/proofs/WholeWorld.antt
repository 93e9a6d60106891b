-- A world by its parts.
use Rattle.std.proofs.Common.{ℕ, ◌≡◌, ◌≤◌, List, Result, Ok, Err, IfOk, refl, sym, ◌∙◌, subst, reverse, length}
use Rattle.std.specs.BTreeMap.{BTreeMap, IsOrdered, get}
use Rattle.std.specs.FinMap as map
use Rattle.fab_reach_base.specs.fab_names.Orders.{name_cmp}
use Rattle.fab_reach_base.proofs.fab_names.OrderLaws.{name_total}
use Rattle.fab_reach_base.specs.fab_inventory.Inventories.{InventoryRows}
use Rattle.fab_reach_base.proofs.fab_lemmas.SeenMaps.{len_entries, same_look_ups}
use Rattle.fab_reach_base.specs.fab_mapping.Soundness.{Each}
use Rattle.fab_reach_base.specs.Records.{ConfigRows}
use Rattle.fab_world.specs.History.{LeadsBack, changes_of}
use Rattle.fab_world.specs.PlanRecords.{PlanRecord}
use Rattle.fab_world.specs.Soundness.{IsSoundPlan, ListsActive, IsSoundNow, IsSound}
use Rattle.fab_world.specs.Worlds.{WorldRows}
use Rattle.fab_world.specs.declared.limits.TheConstants.{MOST_PLANS, MOST_CHANGES}

-- one fact of what is answered follows from another
pub ok_as : {X E : Type 0} {P Q : X → Type 0} (r : Result X E) → ((x : X) → P x → Q x) → IfOk r P → IfOk r Q
ok_as (Ok x) f h = f x h
ok_as (Err e) f h = h

module _ (v : InventoryRows) (c : ConfigRows) (t : BTreeMap (List ℕ) PlanRecord) (order : List (List ℕ)) (revision count : ℕ) (sorted : IsOrdered name_cmp t) (counted : count ≡ length t.entries) where
  abbrev pub whole : WorldRows
  whole = record { inventory = v; config = c; plans = map.from_entries t.entries; order = order; revision = revision }

  at : get name_cmp t ≡ map.get (map.from_entries {R = name_cmp} t.entries)
  at = same_look_ups name_total t (map.from_entries t.entries) refl

  size : count ≡ map.len (map.from_entries {R = name_cmp} t.entries)
  size = counted ∙ sym (len_entries name_total t.entries sorted)

  pub few_of : IsSound whole → count ≤ MOST_PLANS
  few_of s = subst (λ n. n ≤ MOST_PLANS) (sym size) s.few_plans

  pub plans_of : IsSound whole → Each (get name_cmp t) IsSoundPlan
  plans_of s = subst (λ look. Each look IsSoundPlan) (sym at) s.plans

  pub order_of : IsSound whole → ListsActive (get name_cmp t) order
  order_of s = subst (λ look. ListsActive look order) (sym at) s.order

  pub now_of : IsSound whole → IsSoundNow v c
  now_of s = record { inventory = s.inventory; config = s.config; fits = s.fits; few_paths = s.few_paths }

  pub history_of : IsSound whole → LeadsBack (changes_of (get name_cmp t) (reverse order)) c
  history_of s = subst (λ look. LeadsBack (changes_of look (reverse order)) c) (sym at) s.earlier

  pub sound_whole : count ≤ MOST_PLANS → revision ≤ MOST_CHANGES → Each (get name_cmp t) IsSoundPlan → ListsActive (get name_cmp t) order → IsSoundNow v c → LeadsBack (changes_of (get name_cmp t) (reverse order)) c → IsSound whole
  sound_whole few few_changes plans lists now history = record {
    inventory = now.inventory;
    config = now.config;
    fits = now.fits;
    few_paths = now.few_paths;
    few_plans = subst (λ n. n ≤ MOST_PLANS) size few;
    plans = subst (λ look. Each look IsSoundPlan) at plans;
    order = subst (λ look. ListsActive look order) at lists;
    earlier = subst (λ look. LeadsBack (changes_of look (reverse order)) c) at history;
    few_changes = few_changes;
  }
