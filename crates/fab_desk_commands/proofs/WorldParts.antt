-- What the parts of a world show of what a contract sees of it.
use Rattle.std.proofs.Common.{ℕ, ◌≡◌, List, sym, ap, ◌∙◌}
use Rattle.std.specs.BTreeMap.{BTreeMap, get}
use Rattle.std.specs.FinMap as map
use Rattle.fab_reach_base.proofs.fab_lemmas.SeenMaps.{same_look_ups}
use Rattle.fab_reach_base.specs.fab_names.Orders.{name_cmp}
use Rattle.fab_reach_base.proofs.fab_names.OrderLaws.{name_total}
use Rattle.fab_world.specs.PlanRecords.{PlanRecord}
use Rattle.fab_world.specs.Worlds.{WorldRows}

-- the plans of a world by name
pub plans_seen : (v w : WorldRows) (plans : BTreeMap (List ℕ) PlanRecord) → v.plans ≡ map.from_entries plans.entries → v ≡ w → get name_cmp plans ≡ map.get w.plans
plans_seen v w plans made is = same_look_ups name_total plans w.plans (sym made ∙ ap (λ (x : WorldRows). x.plans) is)
