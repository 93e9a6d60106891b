use Rattle.std.proofs.Common.{◌⊎◌, sym, ◌∙◌, subst}
use Rattle.fab_desk_base.specs.Answers.{IsAnswerTo}
use Rattle.fab_desk_machine.specs.Proposals.{IsMemory}
use Rattle.fab_desk_machine.proofs.Ends.{is_read}
use Rattle.fab_desk_machine.proofs.proposing.answer_to.Goals as goal

pub returns-in-Some-clause-proposes : goal.returns-in-Some-clause-proposes
returns-in-Some-clause-proposes g c =
    let s = c.args.sender.now in
    let w = c.args.world.now in
    let r = c.read.result in
    subst (λ k. IsMemory r ⊎ IsAnswerTo c.args.policy.now w s.id s.name s.moment k r w) (sym (is_read c.args.command c.in-Some.query (sym c.query_of.ensures ∙ c.in-Some.is))) c.read.ensures.answers
