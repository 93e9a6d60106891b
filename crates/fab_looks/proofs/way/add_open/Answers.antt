use Rattle.std.proofs.Common.{sym, ◌∙◌}
use mathlib.Core.Bool.{true≢false}
use Rattle.fab_looks.proofs.Gathered.{open_appended, shut_appended}
use Rattle.fab_looks.proofs.way.add_open.Goals as goal

pub returns-then-not-is_open_to : goal.returns-then-not-is_open_to
returns-then-not-is_open_to g c =
    shut_appended c.args.policy.now c.args.world.now c.args.id c.args.query c.args.queries.now.items (λ h. true≢false (sym (c.is_open_to.ensures.1 h) ∙ c.if-not-is_open_to.true))

pub returns : goal.returns
returns g c =
    open_appended c.args.policy.now c.args.world.now c.args.id c.args.query c.args.queries.now.items c.push.new.self.items c.in_ok-push.ensures.items (c.is_open_to.ensures.0 c.if-not-is_open_to.false)
