use Rattle.std.proofs.Common.{◌∙◌, sym}
use Rattle.fab_inventory.proofs.Seating.{seated_from_test, test_from_seated}
use Rattle.fab_inventory.proofs.restore.are_seated.Goals as goal

pub returns : goal.returns
returns g c = (
  λ t. seated_from_test c.args.seats.now c.args.addresses.now (sym c.are_all_seated.ensures ∙ t),
  λ all. c.are_all_seated.ensures ∙ test_from_seated c.args.seats.now c.args.addresses.now all,
)
