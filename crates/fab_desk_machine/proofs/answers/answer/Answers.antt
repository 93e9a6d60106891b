use Rattle.std.proofs.Common.{inl, inr, sym, subst}
use Rattle.fab_world.specs.Soundness.{IsSound}
use Rattle.fab_world.specs.Worlds.{WorldRows}
use Rattle.fab_desk_trials.specs.fab_desk_commands.Nexts.{next_world}
use Rattle.fab_desk_base.specs.Answers.{IsMove, IsStep}
use Rattle.fab_desk_machine.specs.Proposals.{request_of}
use Rattle.fab_desk_machine.proofs.answers.answer.Goals as goal

pub returns-in-Ready-clause-sound : goal.returns-in-Ready-clause-sound
returns-in-Ready-clause-sound g c = elim c.carry_through.ensures.done [
  | inl kept ↦ subst IsSound (sym kept.1) c.requires.sound
  | inr is ↦ subst IsSound (sym is.0) c.in-Ready.ensures.proposes.sound
]

pub returns-in-Ready-clause-answers : goal.returns-in-Ready-clause-answers
returns-in-Ready-clause-answers g c =
    let w = c.args.world.now in
    let p = c.args.policy.now in
    let q = request_of c.args.token.now c.args.moment c.args.command in
    elim c.carry_through.ensures.done [
      | inl kept ↦ inl kept
      | inr is ↦
          let told = is.1 in
          let moved = subst (λ (x : WorldRows). IsMove w x told.0) is.0 told.2 in
          inr (subst (λ (x : WorldRows). IsStep p w q c.carry_through.result x) (sym is.0)
          (subst (λ r. IsStep p w q r (next_world w c.in-Ready.change.next)) (sym told.1) (c.in-Ready.ensures.proposes.replies told.0 moved)))
    ]
