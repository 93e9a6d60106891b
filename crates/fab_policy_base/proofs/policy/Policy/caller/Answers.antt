use Rattle.std.proofs.Common.{◌≡◌, ◌∙◌, ap, subst}
use Rattle.std.specs.Prelude.{IsSomeAnd, slice_get}
use Rattle.fab_policy_base.specs.Sound.{IsSound}
use Rattle.fab_policy_base.proofs.Found.{only}
use Rattle.fab_policy_base.proofs.policy.Policy.caller.Goals as goal

pub returns-clause-only : goal.returns-clause-only
returns-clause-only c =
    let callers : c.deref.result.now ≡ c.args.self.now.callers = c.deref.ensures.value ∙ ap (λ p. p.callers) c.self.view_is in
    only c.args.self.now c.args.token.now c.in_ok-place.place (subst IsSound c.self.view_is c.self.invariant)
    (subst (λ cs. IsSomeAnd (slice_get cs c.in_ok-place.place) (λ r. r.token ≡ c.args.token.now)) callers c.in_ok-place.ensures.has)
