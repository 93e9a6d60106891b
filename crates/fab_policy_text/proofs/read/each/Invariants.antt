use Rattle.std.proofs.Common.{◌≡◌, take}
use Rattle.toml.specs.View.{items_view}
use Rattle.fab_policy_text.specs.Shapes.{EachMeans}
use Rattle.fab_policy_text.proofs.read.each.Given as goal

abbrev pub invariant-loop-item : goal.invariant-loop-item
invariant-loop-item g l = (l.item-items ≡ l.items.items) × EachMeans g.T.Read.means (items_view (take l.item-index l.items.items)) l.read.items
