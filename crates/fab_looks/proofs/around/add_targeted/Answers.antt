use Rattle.std.proofs.Common.{◌≡◌, true, sym, ◌∙◌}
use mathlib.Core.Bool.{true≢false}
use Rattle.std.specs.FinSet as set
use Rattle.fab_reach_base.specs.fab_mapping_base.Groups.{StorageGroupRows}
use Rattle.fab_looks.proofs.Gathered.{group_passed, group_read}
use Rattle.fab_looks.proofs.around.add_targeted.Goals as goal

pub returns-then-not-has_target : goal.returns-then-not-has_target
returns-then-not-has_target g c =
    group_passed c.args.policy.now c.args.world.now c.args.id (λ (h : StorageGroupRows). set.contains h.targets c.args.port.now ≡ true) (c.args.name, c.args.group.now) c.args.queries.now.items (λ h. true≢false (sym h ∙ sym c.has_target.ensures ∙ c.if-not-has_target.true))

pub returns : goal.returns
returns g c =
    group_read c.args.policy.now c.args.world.now c.args.id (λ (h : StorageGroupRows). set.contains h.targets c.args.port.now ≡ true) (c.args.name, c.args.group.now) c.args.queries.now.items c.add_open.new.queries.items (sym c.has_target.ensures ∙ c.if-not-has_target.false) c.in_ok-add_open.ensures
