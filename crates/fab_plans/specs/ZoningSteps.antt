-- The steps of zoning: what refuses each, and what each makes of the zoning of its fabric.
use Rattle.std.specs.Prelude.{ℕ, ◌≡◌, List, None, Some, false}
use Rattle.std.specs.FinMap as map
use Rattle.std.specs.FinSet as set
use Rattle.fab_reach_base.specs.fab_names.declared.member.Member.TheVariants as member
use Rattle.fab_reach_base.specs.fab_lemmas.Firsts.{IsFirstWithout}
use Rattle.fab_reach_base.specs.fab_lemmas.MapsOfSets.{IsFirstUser}
use Rattle.fab_reach_base.specs.fab_lemmas.Room.{IsFull}
use Rattle.fab_reach_base.specs.fab_zoning_rows.Limits.{most_rows}
use Rattle.fab_reach_base.specs.fab_zoning.Limits.{most_aliases, most_zones, most_sets}
use Rattle.fab_reach_base.specs.fab_zoning.Resolved.{IsResolved, AreResolved, MoreThan}
use Rattle.fab_reach_base.specs.fab_zoning.Steps.{HasAlias, HasZone}
use Rattle.fab_reach_base.specs.fab_zoning.Zonings.{FabricZoning}
use Rattle.fab_plans_text.specs.fab_plans_base.Steps.{PlanStep, alias_put, alias_drop, zone_put, zone_drop, set_put, set_drop, activate, deactivate, default_zone}
use Rattle.fab_plans.specs.Checks.{Check, own_name, other_names, no_user, room, FailsWith, PassesAll}
use Rattle.fab_plans.specs.declared.fault.Item.TheVariants as item
use Rattle.fab_plans.specs.declared.fault.Refusal.{Refusal}
use Rattle.fab_plans.specs.declared.fault.Refusal.TheVariants.{Unknown, InUse, Limit}
use Rattle.fab_plans.specs.declared.fault.StepLimit.TheVariants.{Aliases, Zones, Sets, Active}

-- the check of the step fails, with this refusal: names that a step uses are there, what it drops is
-- used nowhere (else the first user by name is told), and no limit is passed. What is active binds
-- nothing.
abbrev pub ZoningFails : FabricZoning → PlanStep → Check → Refusal → Type 0
ZoningFails z (alias_put f n ms) room = FailsWith (Limit Aliases) (IsFull z.aliases n most_aliases)
ZoningFails z (alias_drop f n) own_name = FailsWith (Unknown (item.Name n)) (map.contains_key z.aliases n ≡ false)
ZoningFails z (alias_drop f n) no_user = λ r. (zone : List ℕ) × FailsWith (InUse n zone) (IsFirstUser z.zones (member.Alias n) zone) r
ZoningFails z (zone_put f n ms) other_names = λ r. (a : List ℕ) × FailsWith (Unknown (item.Name a)) (IsFirstWithout (HasAlias z) ms (member.Alias a)) r
ZoningFails z (zone_put f n ms) room = FailsWith (Limit Zones) (IsFull z.zones n most_zones)
ZoningFails z (zone_drop f n) own_name = FailsWith (Unknown (item.Name n)) (map.contains_key z.zones n ≡ false)
ZoningFails z (zone_drop f n) no_user = λ r. (s : List ℕ) × FailsWith (InUse n s) (IsFirstUser z.sets n s) r
ZoningFails z (set_put f n zs) other_names = λ r. (zone : List ℕ) × FailsWith (Unknown (item.Name zone)) (IsFirstWithout (HasZone z) zs zone) r
ZoningFails z (set_put f n zs) room = FailsWith (Limit Sets) (IsFull z.sets n most_sets)
ZoningFails z (set_drop f n) own_name = FailsWith (Unknown (item.Name n)) (map.contains_key z.sets n ≡ false)
ZoningFails z (activate f s) own_name = FailsWith (Unknown (item.Name s)) (map.contains_key z.sets s ≡ false)
ZoningFails z (activate f s) room = FailsWith (Limit Active) (MoreThan most_rows (IsResolved z s))
ZoningFails z _ _ = λ r. ⊥

-- what the step makes of the zoning: an item given twice counts once, an activation copies the rows
-- that the set has now, and other steps leave what is active
abbrev pub ZoningMakes : PlanStep → FabricZoning → FabricZoning → Type 0
ZoningMakes (alias_put f n ms) old new = new ≡ record old { aliases = map.insert old.aliases n (set.from_list ms) }
ZoningMakes (alias_drop f n) old new = new ≡ record old { aliases = map.remove old.aliases n }
ZoningMakes (zone_put f n ms) old new = new ≡ record old { zones = map.insert old.zones n (set.from_list ms) }
ZoningMakes (zone_drop f n) old new = new ≡ record old { zones = map.remove old.zones n }
ZoningMakes (set_put f n zs) old new = new ≡ record old { sets = map.insert old.sets n (set.from_list zs) }
ZoningMakes (set_drop f n) old new = new ≡ record old { sets = map.remove old.sets n }
ZoningMakes (activate f s) old new = AreResolved old s new.rows × (new ≡ record old { active = Some s; rows = new.rows })
ZoningMakes (deactivate f) old new = new ≡ record old { active = None; rows = set.empty }
ZoningMakes (default_zone f d) old new = new ≡ record old { flag = d }
ZoningMakes _ old new = ⊥

-- the step is done: nothing refuses it, and this is what it makes
pub record ZoningDone (step : PlanStep) (old new : FabricZoning) : Type 0 where
  pub passes : PassesAll (ZoningFails old step)
  pub makes : ZoningMakes step old new
