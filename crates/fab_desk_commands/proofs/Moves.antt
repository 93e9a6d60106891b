-- A plan that is turned in its place.
use Rattle.std.proofs.Common.{◌≡◌, ℕ, List, cond, Some, ap, ◌∙◌}
use Rattle.std.specs.BTreeMap.{BTreeMap, get, is_at}
use Rattle.std.specs.FinMap as map
use Rattle.fab_reach_base.proofs.fab_lemmas.SeenMaps.{seen_insert}
use Rattle.fab_reach_base.specs.fab_names.Orders.{name_cmp}
use Rattle.fab_reach_base.proofs.fab_names.OrderLaws.{name_total, name_exact}
use Rattle.fab_world.specs.PlanRecords.{PlanRecord}
use Rattle.fab_desk_commands.specs.Nexts.{turned, plans_turned}
use Rattle.fab_desk_commands.specs.declared.next.Turn.{Turn}

-- the plans after a turn was written to the place of one of them
pub turn_written : {A : Type 0} (plans written : BTreeMap (List ℕ) PlanRecord) (n : List ℕ) (t : Turn A) (old new : PlanRecord) → ((q : List ℕ) → get name_cmp written q ≡ cond (is_at (name_cmp n) q) (Some new) (get name_cmp plans q))
    → new ≡ turned t old → Some old ≡ get name_cmp plans n → map.from_entries {R = name_cmp} written.entries ≡ plans_turned n t (get name_cmp plans n) (map.from_entries {R = name_cmp} plans.entries)
turn_written plans written n t old new writes turns is =
    seen_insert name_total name_exact plans written n new writes
    ∙ ap (map.insert (map.from_entries {R = name_cmp} plans.entries) n) turns
    ∙ ap (λ found. plans_turned n t found (map.from_entries {R = name_cmp} plans.entries)) is
