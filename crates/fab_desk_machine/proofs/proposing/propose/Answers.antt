use Rattle.std.proofs.Common.{subst}
use Rattle.fab_desk_base.specs.Answers.{IsAnswerTo, IsStep}
use Rattle.fab_desk_machine.specs.Proposals.{IsSenderOf, request_of}
use Rattle.fab_desk_machine.proofs.Ends.{proposal_as, sent_effect, step_of}
use Rattle.fab_desk_machine.proofs.proposing.propose.Goals as goal

pub returns-in-Some-clause-proposes : goal.returns-in-Some-clause-proposes
returns-in-Some-clause-proposes g c =
    let s = c.in-Some.sender in
    let w = c.args.world.now in
    let p = c.args.policy.now in
    let k = c.args.command in
    let t = c.args.token.now in
    proposal_as (g.B.PathBook.leads c.answer_to.new.book) (IsAnswerTo p w s.id s.name s.moment k) (IsStep p w (request_of t c.args.moment k)) w c.answer_to.result
    (λ r new h. step_of p w t c.args.moment k s (subst (IsSenderOf p t c.args.moment) c.in-Some.is c.sender_of.ensures) r new h) c.answer_to.ensures.proposes

pub returns-in-Some-clause-bounds : goal.returns-in-Some-clause-bounds
returns-in-Some-clause-bounds g c may v is =
    let p = c.args.policy.now in
    let t = c.args.token.now in
    c.answer_to.ensures.bounds may v (sent_effect p c.args.world.now t c.args.moment c.args.command c.in-Some.sender (subst (IsSenderOf p t c.args.moment) c.in-Some.is c.sender_of.ensures) v is)
