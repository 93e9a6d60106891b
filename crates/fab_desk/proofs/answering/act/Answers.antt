use Rattle.std.proofs.Common.{◌∙◌, inl, inr, sym, subst}
use Rattle.fab_desk_machine.specs.fab_desk_base.Answers.{IsMove, IsStep}
use Rattle.fab_desk_machine.specs.Proposals.{request_of}
use Rattle.fab_desk_machine.specs.Reports.{reply_of}
use Rattle.fab_desk_machine.specs.fab_desk_commands.Nexts.{next_world}
use Rattle.fab_desk.proofs.Changing.{no_read}
use Rattle.fab_desk.proofs.answering.act.Goals as goal

pub carry_out-requires-clause-hosts : goal.carry_out-requires-clause-hosts
carry_out-requires-clause-hosts g c d move =
    c.holders_are_kept.ensures c.args.policy.now c.args.world.now (request_of c.args.token.now c.args.moment c.args.asked) (reply_of c.in-Ready.change.report d) (next_world c.args.world.now c.in-Ready.change.next)
    (c.in-Ready.ensures.proposes.replies d move)

pub returns-in-Ready-clause-answers : goal.returns-in-Ready-clause-answers
returns-in-Ready-clause-answers g c =
    let w = c.args.world.now in
    let q = request_of c.args.token.now c.args.moment c.args.asked in
    elim c.carry_out.ensures.done [
      | inl memory ↦ inl (inl memory.0, memory.1)
      | inr (inl store) ↦ inl (inr store.0, store.1)
      | inr (inr done) ↦ inr (
          let step = c.in-Ready.ensures.proposes.replies done.2.0 (subst (λ v. IsMove w v done.2.0) done.1 done.2.2) in
          subst (λ r. IsStep c.args.policy.now w q r c.carry_out.new.world) (sym done.2.1) (subst (IsStep c.args.policy.now w q (reply_of c.in-Ready.change.report done.2.0)) (sym done.1) step)
          )
    ]

pub returns-in-Ready-clause-halts : goal.returns-in-Ready-clause-halts
returns-in-Ready-clause-halts g c is =
    let w = c.args.world.now in
    let q = request_of c.args.token.now c.args.moment c.args.asked in
    elim c.carry_out.ensures.done [
      | inl memory ↦ absurd (let e = sym memory.0 ∙ is in cc)
      | inr (inl store) ↦ store.2
      | inr (inr done) ↦ absurd (
          let step = c.in-Ready.ensures.proposes.replies done.2.0 (subst (λ v. IsMove w v done.2.0) done.1 done.2.2) in
          (c.steps_are_done.ensures c.args.policy.now w q (reply_of c.in-Ready.change.report done.2.0) (next_world w c.in-Ready.change.next) step).1 (sym done.2.1 ∙ is)
          )
    ]

pub returns-in-Ready-clause-change : goal.returns-in-Ready-clause-change
returns-in-Ready-clause-change g c is =
    let w = c.args.world.now in
    let q = request_of c.args.token.now c.args.moment c.args.asked in
    let v = next_world w c.in-Ready.change.next in
    let move = c.carry_out.ensures.refused (returns-in-Ready-clause-halts g c is) in
    no_read c.args.policy.now w v q c.in-Ready.change.report move.0 (c.in-Ready.ensures.proposes.replies move.0 move.1)

pub returns-in-Ready-clause-counted : goal.returns-in-Ready-clause-counted
returns-in-Ready-clause-counted g c is = c.carry_out.ensures.counted (returns-in-Ready-clause-halts g c is)

pub returns-in-Ready-clause-uncounted : goal.returns-in-Ready-clause-uncounted
returns-in-Ready-clause-uncounted g c not =
    elim c.carry_out.ensures.done [
      | inl memory ↦ c.carry_out.ensures.uncounted memory.2
      | inr (inl store) ↦ absurd (not store.0)
      | inr (inr done) ↦ c.carry_out.ensures.uncounted done.0
    ]

pub returns-in-Ready-clause-doubt : goal.returns-in-Ready-clause-doubt
returns-in-Ready-clause-doubt g c clean tied left leaves =
    elim (c.carry_out.ensures.doubt clean tied left leaves) [
      | inl before ↦ inl before
      | inr after ↦ inr (_, (_, c.in-Ready.ensures.proposes.replies after.1.0 after.1.1), after.0)
    ]
