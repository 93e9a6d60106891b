use Rattle.std.proofs.Common.{sym, ◌∙◌}
use mathlib.Core.Bool.{true≢false}
use Rattle.fab_reach_base.specs.fab_mapping_base.Groups.{MapsVolume}
use Rattle.fab_looks.proofs.Gathered.{group_passed, group_read}
use Rattle.fab_looks.proofs.way.add_group.Goals as goal

pub returns-then-not-has_volume : goal.returns-then-not-has_volume
returns-then-not-has_volume g c =
    group_passed c.args.policy.now c.args.world.now c.args.id (MapsVolume c.args.volume.now) (c.args.name, c.args.group.now) c.args.queries.now.items (λ h. true≢false (sym (c.has_volume.ensures.1 h) ∙ c.if-not-has_volume.true))

pub returns : goal.returns
returns g c =
    group_read c.args.policy.now c.args.world.now c.args.id (MapsVolume c.args.volume.now) (c.args.name, c.args.group.now) c.args.queries.now.items c.add_open.new.queries.items (c.has_volume.ensures.0 c.if-not-has_volume.false) c.in_ok-add_open.ensures
