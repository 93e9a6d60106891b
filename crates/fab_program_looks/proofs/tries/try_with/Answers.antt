use Rattle.std.proofs.Common.{sym, subst}
use Rattle.fab_program_looks.specs.Tries.{TriesAs}
use Rattle.fab_program_looks.specs.declared.tries.Trial.{Trial}
use Rattle.fab_program_looks.proofs.tries.try_with.Goals as goal

pub returns-in-Import : goal.returns-in-Import
returns-in-Import g c =
    subst (λ (t : Trial). TriesAs g.W.Write.contents c.args.world.now c.args.policy.now c.args.asked.now.token.now c.args.moment t c.args.asked.now.is_json c.args.writer c.import_at.result) (sym c.in-Import.is) c.import_at.ensures

pub returns-in-Plan : goal.returns-in-Plan
returns-in-Plan g c =
    subst (λ (t : Trial). TriesAs g.W.Write.contents c.args.world.now c.args.policy.now c.args.asked.now.token.now c.args.moment t c.args.asked.now.is_json c.args.writer c.plan_at.result) (sym c.in-Plan.is) c.plan_at.ensures
