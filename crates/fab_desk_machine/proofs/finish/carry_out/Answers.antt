use Rattle.std.proofs.Common.{inr}
use Rattle.fab_desk_base.specs.Answers.{IsCarriedOut}
use Rattle.fab_desk_machine.specs.Proposals.{IsEnd}
use Rattle.fab_desk_machine.proofs.Ends.{nothing, proposal_as}
use Rattle.fab_desk_machine.proofs.finish.carry_out.Goals as goal

pub returns-in-Ok-None-clause-proposes : goal.returns-in-Ok-None-clause-proposes
returns-in-Ok-None-clause-proposes g c =
    let s = c.args.sender.now in
    let w = c.args.world.now in
    let p = c.args.policy.now in
    proposal_as (g.B.PathBook.leads c.args.book.now) (IsCarriedOut p w s.id s.name s.moment c.args.command) (IsEnd p w s.id s.name s.moment c.args.command) w c.allowed.result (λ r new h. inr h)
    (c.allowed.ensures.proposes p (nothing _ _ c.in-Ok-None.field-0 c.in-Ok-None.field-0-is c.in-Ok-None.ensures))
