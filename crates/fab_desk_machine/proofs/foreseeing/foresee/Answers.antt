use Rattle.std.proofs.Common.{subst}
use Rattle.std.proofs.lemmas.Result.{IfErr-weaker}
use Rattle.fab_desk_machine.specs.Foreseen.{IsTurnedAway, IsTurnedDown}
use Rattle.fab_desk_machine.specs.Proposals.{IsSenderOf, request_of}
use Rattle.fab_desk_machine.proofs.Foreseen.{down, foreseen}
use Rattle.fab_desk_machine.proofs.foreseeing.foresee.Goals as goal

pub returns-in-Some-clause-ok : goal.returns-in-Some-clause-ok
returns-in-Some-clause-ok g c =
    let p = c.args.policy.now in
    let t = c.args.token.now in
    foreseen p c.args.world.now (g.B.PathBook.leads c.foresee_as.new.book) t c.args.moment c.args.command.now c.in-Some.sender (subst (IsSenderOf p t c.args.moment) c.in-Some.is c.sender_of.ensures)
    c.foresee_as.result c.foresee_as.ensures.allowed c.foresee_as.ensures.prepared

pub returns-in-Some-clause-err : goal.returns-in-Some-clause-err
returns-in-Some-clause-err g c =
    let s = c.in-Some.sender in
    let w = c.args.world.now in
    let p = c.args.policy.now in
    let k = c.args.command.now in
    let t = c.args.token.now in
    IfErr-weaker c.foresee_as.result (IsTurnedAway p w s.id s.name s.moment k) (IsTurnedDown p w (request_of t c.args.moment k))
    (λ q h. down p w t c.args.moment k s (subst (IsSenderOf p t c.args.moment) c.in-Some.is c.sender_of.ensures) q h)
    c.foresee_as.ensures.err
