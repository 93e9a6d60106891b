use Rattle.std.proofs.Common.{sym, ◌∙◌}
use Rattle.fab_reach_base.specs.Orders.{Has}
use Rattle.fab_reach_base.proofs.Gathering.{group_added}
use Rattle.fab_reach_base.proofs.listing.add_group.Goals as goal

pub returns-in_ok-add_units : goal.returns-in_ok-add_units
returns-in_ok-add_units g c =
    group_added c.args.mapping.now c.args.fabric c.args.initiator c.args.target c.args.name.now c.in-Some.group.now (Has c.args.paths.now) (Has c.add_units.new.paths) (sym c.in-Some.ensures) (sym c.has_target.ensures ∙ c.if-has_target.true) c.in_ok-add_units.ensures
