use Rattle.std.proofs.Common.{sym, ◌∙◌}
use mathlib.Core.Bool.{true≢false}
use Rattle.fab_reach_base.proofs.Adding.{adds_none}
use Rattle.fab_world.specs.Worlds.{records_of}
use Rattle.fab_looks_ways.specs.Inner.Gathering.{PortEnds}
use Rattle.fab_looks_ways.specs.Pairs.{HasEnds}
use Rattle.fab_looks_ways.proofs.EndsOrder.{adds_ends}
use Rattle.fab_looks_ways.proofs.Ended.{port_added}
use Rattle.fab_looks_ways.proofs.gathering.add_port.Goals as goal

pub returns-then-not-is_up_at : goal.returns-then-not-is_up_at
returns-then-not-is_up_at g c =
    adds_none (PortEnds (records_of c.args.world.now) c.args.fabric c.args.target c.args.initiator) (HasEnds c.args.ends.now) (λ e h. true≢false (sym (c.is_up_at.ensures.1 h.0) ∙ c.if-not-is_up_at.true))

pub returns : goal.returns
returns g c =
    port_added (records_of c.args.world.now) c.args.fabric c.args.target c.args.initiator (HasEnds c.args.ends.now) (HasEnds c.insert.new.self) (c.is_up_at.ensures.0 c.if-not-is_up_at.false)
    (adds_ends c.args.ends.now c.insert.new.self (record { fabric = c.args.fabric; initiator = c.args.initiator; target = c.args.target }) c.in_ok-insert.ensures.updates.0)
