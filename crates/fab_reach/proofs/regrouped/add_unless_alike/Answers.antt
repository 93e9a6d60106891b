use Rattle.std.proofs.Common.{sym, ◌∙◌}
use mathlib.Core.Bool.{true≢false}
use Rattle.fab_reach_books.specs.Inner.Sets.{HasPairIn}
use Rattle.fab_reach.proofs.Regroups.{not_alike, alike}
use Rattle.fab_reach_books.proofs.SetLoops.{adds_pair}
use Rattle.fab_reach.proofs.regrouped.add_unless_alike.Goals as goal

pub returns-in_ok-insert : goal.returns-in_ok-insert
returns-in_ok-insert g c = not_alike c.args.other.now.ports c.args.other.now.targets c.args.same_units (c.args.initiator.now, c.args.target.now) (HasPairIn c.args.pairs.now) (HasPairIn c.insert.new.self) (λ h. true≢false (sym (c.is_alike.ensures.1 h) ∙ c.if-not-is_alike.true))
    (adds_pair c.args.pairs.now c.insert.new.self (c.args.initiator.now, c.args.target.now) c.in_ok-insert.ensures.updates.0)

pub returns-else-not-is_alike : goal.returns-else-not-is_alike
returns-else-not-is_alike g c = alike c.args.other.now.ports c.args.other.now.targets c.args.same_units (c.args.initiator.now, c.args.target.now) (HasPairIn c.args.pairs.now) (c.is_alike.ensures.0 c.if-not-is_alike.false)
