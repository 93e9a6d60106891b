use Rattle.std.proofs.Common.{sym, ◌∙◌}
use mathlib.Core.Bool.{true≢false}
use Rattle.fab_reach_base.specs.Views.{seen}
use Rattle.fab_reach_books.specs.Inner.Sets.{HasPortIn}
use Rattle.fab_reach_moves.specs.Inner.Changing.{world_at}
use Rattle.fab_reach_moves.proofs.Changed.{changed}
use Rattle.fab_reach_books.proofs.SetLoops.{adds_port}
use Rattle.fab_reach_moves.proofs.changes.add_if_changed.Goals as goal

pub returns-in_ok-insert : goal.returns-in_ok-insert
returns-in_ok-insert g c v gone come d a b = changed (world_at c.args.is_before (seen c.args.before.now) v) c.args.key.now c.args.port.now (HasPortIn c.args.ports.now) (HasPortIn c.insert.new.self)
    (c.is_logged_in_at.ensures.0 c.if-not-is_logged_in_at.false, c.is_match.ensures.0 c.if-not-is_match.false, λ h. true≢false (sym ((c.holds_at.ensures v gone come d a b).1 h) ∙ c.if-not-holds_at.true))
    (adds_port c.args.ports.now c.insert.new.self c.args.port.now.name c.in_ok-insert.ensures.updates.0)
