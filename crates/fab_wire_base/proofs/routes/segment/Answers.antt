use Rattle.std.proofs.Common.{◌∙◌, sym, ap, ◌-◌, ◌+◌}
use Rattle.fab_wire_base.specs.Segments.{segment_at}
use Rattle.fab_wire_base.proofs.RouteLemmas.{segment-step}
use Rattle.fab_wire_base.proofs.routes.segment.Goals as goal

pub loop-preserved : goal.loop-preserved
loop-preserved c =
    ap (λ t. segment_at (c.args.slashes - (c.loop.counter + 1)) t) c.behind_slash-rest.ensures
    ∙ sym (segment-step c.args.slashes c.loop.counter c.loop.rest.now c.loop-test.true) ∙ c.loop.invariant
