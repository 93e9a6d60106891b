use Rattle.std.proofs.Common.{inl, inr, sym, subst}
use Rattle.fab_world.specs.Worlds.{records_of}
use Rattle.fab_desk_base.specs.Answers.{IsCarriedOut}
use Rattle.fab_desk_trials.specs.Trials.{effect_world}
use Rattle.fab_desk_machine.proofs.Ends.{dry_answer}
use Rattle.fab_desk_machine.proofs.finish.answer_dry_run.Goals as goal

pub returns-clause-answers : goal.returns-clause-answers
returns-clause-answers g c p judged =
    let s = c.args.sender.now in
    let w = c.args.world.now in
    let k = c.args.command.now in
    let e = c.args.prepared.effect in
    elim (c.dry_run-reply.ensures (records_of w) (records_of (effect_world w s.name k e)) c.requires.prepared.step) [
      | inl m ↦ inl m
      | inr x ↦ inr (subst (λ r. IsCarriedOut p w s.id s.name s.moment k r w) (sym x.1) (dry_answer p w s.id s.name s.moment (g.B.PathBook.leads c.args.book.now) k e c.requires.prepared.effect judged c.args.plan x.0 c.requires.dry_run x.2))
    ]
