use Rattle.std.proofs.Common.{inl, inr, refl, sym, ◌∙◌}
use Rattle.std.proofs.lemmas.Result.{IfErr-weaker}
use mathlib.Core.Bool.{true≢false}
use Rattle.fab_desk_machine.specs.Foreseen.{IsStopped, IsTurnedAway}
use Rattle.fab_desk_machine.proofs.Foreseen.{away}
use Rattle.fab_desk_machine.proofs.foreseeing.foresee_as.Goals as goal

pub returns-then-not-is_there-clause-err : goal.returns-then-not-is_there-clause-err
returns-then-not-is_there-clause-err g c =
    inr (inr (inl (c.is_given.ensures.0 c.if-not-is_given.false, (λ h. true≢false (sym ((c.is_there.ensures c.args.policy.now c.args.sender.now.id).1 h) ∙ c.if-not-is_there.true)), (refl, refl))))

pub foresee_there-requires-clause-there : goal.foresee_there-requires-clause-there
foresee_there-requires-clause-there g c p i = (c.is_there.ensures p i).0 c.if-not-is_there.false

pub returns-clause-err : goal.returns-clause-err
returns-clause-err g c =
    let s = c.args.sender.now in
    let w = c.args.world.now in
    let p = c.args.policy.now in
    let k = c.args.command.now in
    IfErr-weaker c.foresee_there.result (IsStopped p w s.id s.name s.moment k) (IsTurnedAway p w s.id s.name s.moment k)
    (λ q h. away p w s.id s.name s.moment k q c.requires.change (c.is_given.ensures.0 c.if-not-is_given.false) ((c.is_there.ensures p s.id).0 c.if-not-is_there.false) h)
    c.foresee_there.ensures.err
