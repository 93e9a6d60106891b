use Rattle.fab_reach_base.specs.Views.{seen}
use Rattle.fab_reach.proofs.AtMost.{at_most_none}
use Rattle.fab_reach.proofs.index_book.IndexBook.step.Goals as goal

pub lists-requires-clause-told : goal.lists-requires-clause-told
lists-requires-clause-told g c = c.in_ok-told.ensures (seen c.args.before.now) (g.S.Sight.world c.args.sight.now) c.requires.diff

pub lists-requires-clause-moved : goal.lists-requires-clause-moved
lists-requires-clause-moved g c = c.in_ok-moved.ensures (g.S.Sight.world c.args.sight.now) c.requires.sound c.requires.diff

pub returns-in_err-told-clause-limits : goal.returns-in_err-told-clause-limits
returns-in_err-told-clause-limits g c = at_most_none (seen c.args.before.now) (g.S.Sight.world c.args.sight.now) (g.S.Sight.count c.args.sight.now)

pub returns-in_err-moved-clause-limits : goal.returns-in_err-moved-clause-limits
returns-in_err-moved-clause-limits g c = at_most_none (seen c.args.before.now) (g.S.Sight.world c.args.sight.now) (g.S.Sight.count c.args.sight.now)

pub returns-in_err-groups-clause-limits : goal.returns-in_err-groups-clause-limits
returns-in_err-groups-clause-limits g c = at_most_none (seen c.args.before.now) (g.S.Sight.world c.args.sight.now) (g.S.Sight.count c.args.sight.now)

pub lists-requires-clause-groups : goal.lists-requires-clause-groups
lists-requires-clause-groups g c =
    let v = g.S.Sight.world c.args.sight.now in
    c.in_ok-groups.ensures v (c.in_ok-told.ensures (seen c.args.before.now) v c.requires.diff) (c.in_ok-moved.ensures v c.requires.sound c.requires.diff).groups

pub returns-clause-patch : goal.returns-clause-patch
returns-clause-patch g c =
    let v = g.S.Sight.world c.args.sight.now in
    let moved = c.in_ok-moved.ensures v c.requires.sound c.requires.diff in
    c.in_ok-patch.ensures v c.requires.sound (c.in_ok-told.ensures (seen c.args.before.now) v c.requires.diff) moved.ports moved.groups (c.in_ok-groups.ensures v (c.in_ok-told.ensures (seen c.args.before.now) v c.requires.diff) moved.groups) c.in_ok-delta.ensures.delta

pub returns-clause-paths : goal.returns-clause-paths
returns-clause-paths g c = c.in_ok-paths.ensures (seen c.args.before.now) (g.S.Sight.world c.args.sight.now) c.requires.stands.2 c.in_ok-delta.ensures.delta
