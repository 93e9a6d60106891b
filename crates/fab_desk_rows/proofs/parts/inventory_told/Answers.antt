use Rattle.fab_store_world.specs.Inventories.{IsKnownOnlyIn}
use Rattle.fab_desk_rows.proofs.InventoriesTold.{same_lists}
use Rattle.fab_desk_rows.proofs.parts.inventory_told.Goals as goal

pub returns : goal.returns
returns g c = λ v w h. record {
  takes = same_lists (IsKnownOnlyIn v w) c.args.change.now.taken c.in_ok-taken.taken c.in_ok-taken.ensures.0 c.in_ok-taken.ensures.1 c.in_ok-taken.ensures.2 c.in_ok-taken.ensures.3 c.in_ok-taken.ensures.4 h.takes;
  adds = same_lists (IsKnownOnlyIn w v) c.args.change.now.added c.in_ok-added.added c.in_ok-added.ensures.0 c.in_ok-added.ensures.1 c.in_ok-added.ensures.2 c.in_ok-added.ensures.3 c.in_ok-added.ensures.4 h.adds;
}
