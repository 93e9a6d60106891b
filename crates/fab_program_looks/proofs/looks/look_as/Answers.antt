use Rattle.std.proofs.Common.{sym, subst}
use Rattle.fab_program_looks.specs.Looks.{LooksAs}
use Rattle.fab_program_looks.specs.declared.looks.Look.{Look}
use Rattle.fab_program_looks.proofs.looks.look_as.Goals as goal

pub returns-in-Why : goal.returns-in-Why
returns-in-Why g c =
    subst (λ (l : Look). LooksAs g.W.Write.contents c.args.world.now c.args.policy.now c.args.id l c.args.asked.now.is_json c.args.writer c.why_at.result) (sym c.in-Why.is) c.why_at.ensures
