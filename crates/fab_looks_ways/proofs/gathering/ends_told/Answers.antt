use Rattle.std.proofs.Common.{sym, ◌∙◌}
use mathlib.Core.Bool.{true≢false}
use Rattle.std.proofs.lemmas.Result.{IfOk-weaker}
use Rattle.fab_looks_ways.proofs.Ended.{no_pairs, pairs_are}
use Rattle.fab_looks_ways.proofs.gathering.ends_told.Goals as goal

pub returns-then-not-is_open_to : goal.returns-then-not-is_open_to
returns-then-not-is_open_to g c =
    no_pairs c.args.policy.now c.args.world.now c.args.id c.args.host.now c.args.volume.now c.new.result c.new.ensures.empty (λ e x. true≢false (sym (c.is_open_to.ensures.1 x.host_is_own) ∙ c.if-not-is_open_to.true))

pub returns-then-not-is_open_to-2 : goal.returns-then-not-is_open_to-2
returns-then-not-is_open_to-2 g c =
    no_pairs c.args.policy.now c.args.world.now c.args.id c.args.host.now c.args.volume.now c.new-then-not-is_open_to-2.result c.new-then-not-is_open_to-2.ensures.empty (λ e x. true≢false (sym (c.is_open_to-2.ensures.1 x.volume_is_own) ∙ c.if-not-is_open_to-2.true))

pub returns : goal.returns
returns g c =
    IfOk-weaker c.ends_between.result _ _ (λ t are. pairs_are c.args.policy.now c.args.world.now c.args.id c.args.host.now c.args.volume.now t (c.is_open_to.ensures.0 c.if-not-is_open_to.false) (c.is_open_to-2.ensures.0 c.if-not-is_open_to-2.false) are) c.ends_between.ensures
