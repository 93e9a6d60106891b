use Rattle.std.proofs.Common.{◌≡◌, ℕ, List, sym, ◌∙◌}
use mathlib.Core.Bool.{true≢false}
use Rattle.fab_reach_base.proofs.Adding.{adds_none, adds_as}
use Rattle.fab_desk_base.specs.Tenants.{Has}
use Rattle.fab_looks_ways.specs.Inner.Gathering.{IsOwnEntry}
use Rattle.fab_looks_ways.proofs.Gains.{adds_name}
use Rattle.fab_looks_ways.proofs.groups.add_group.Goals as goal

pub returns-then-not-has_volume : goal.returns-then-not-has_volume
returns-then-not-has_volume g c =
    adds_none (IsOwnEntry c.args.policy.now c.args.world.now c.args.id c.args.volume.now (c.args.name.now, c.args.group.now)) (Has c.args.names.now) (λ n h. true≢false (sym (c.has_volume.ensures.1 h.0) ∙ c.if-not-has_volume.true))

pub returns-then-not-is_open_to : goal.returns-then-not-is_open_to
returns-then-not-is_open_to g c =
    adds_none (IsOwnEntry c.args.policy.now c.args.world.now c.args.id c.args.volume.now (c.args.name.now, c.args.group.now)) (Has c.args.names.now) (λ n h. true≢false (sym (c.is_open_to.ensures.1 h.1) ∙ c.if-not-is_open_to.true))

pub returns : goal.returns
returns g c =
    adds_as (λ (y : List ℕ). y ≡ c.args.name.now) (IsOwnEntry c.args.policy.now c.args.world.now c.args.id c.args.volume.now (c.args.name.now, c.args.group.now)) (Has c.args.names.now) (Has c.insert.new.self)
    (λ n e. (c.has_volume.ensures.0 c.if-not-has_volume.false, c.is_open_to.ensures.0 c.if-not-is_open_to.false, e)) (λ n h. h.2)
    (adds_name c.args.names.now c.insert.new.self c.args.name.now c.in_ok-insert.ensures.updates.0)
