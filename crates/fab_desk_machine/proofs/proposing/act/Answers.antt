use Rattle.std.proofs.Common.{inl, inr, refl, sym, ◌∙◌}
use mathlib.Core.Bool.{true≢false}
use Rattle.fab_desk_base.specs.Answers.{IsAnswerTo}
use Rattle.fab_desk_machine.specs.Proposals.{IsEnd}
use Rattle.fab_desk_machine.proofs.Ends.{answered, proposal_as}
use Rattle.fab_desk_machine.proofs.proposing.act.Goals as goal

pub returns-then-not-is_there-clause-proposes : goal.returns-then-not-is_there-clause-proposes
returns-then-not-is_there-clause-proposes g c =
    inr (inr (inl (c.is_given.ensures.0 c.if-not-is_given.false, (λ h. true≢false (sym ((c.is_there.ensures c.args.policy.now c.args.sender.now.id).1 h) ∙ c.if-not-is_there.true)), (refl, refl))))

pub end-requires-clause-there : goal.end-requires-clause-there
end-requires-clause-there g c p i = (c.is_there.ensures p i).0 c.if-not-is_there.false

pub returns-clause-proposes : goal.returns-clause-proposes
returns-clause-proposes g c =
    let s = c.args.sender.now in
    let w = c.args.world.now in
    let p = c.args.policy.now in
    let k = c.args.command in
    proposal_as (g.B.PathBook.leads c.end.new.book) (IsEnd p w s.id s.name s.moment k) (IsAnswerTo p w s.id s.name s.moment k) w c.end.result
    (λ r new h. answered p w s.id s.name s.moment k r new c.requires.change (c.is_given.ensures.0 c.if-not-is_given.false) ((c.is_there.ensures p s.id).0 c.if-not-is_there.false) h)
    c.end.ensures.proposes
