use Rattle.std.proofs.Common.{◌≡◌, refl, sym, subst, inl, inr, ◌∙◌, Some}
use Rattle.std.proofs.lemmas.Option.{same_Some, none-some}
use Rattle.std.proofs.lemmas.Bool.{both_ways}
use Rattle.fab_desk_machine.specs.Proposals.{request_of}
use Rattle.fab_desk.specs.Desks.{IsServed}
use Rattle.fab_desk.proofs.desk.Desk.handle.Goals as goal

pub returns-then-served-clause-served : goal.returns-then-served-clause-served
returns-then-served-clause-served g c s some =
    let was = c.args.self.now in
    let served = c.serve-served in
    let same : c.in-Some.store ≡ s = same_Some _ _ (sym c.in-Some.is ∙ some) in
    let shut = served.ensures.shut c.if-served.true in
    subst (λ u. IsServed g.S.Store was.policy was.ledger.world (request_of c.args.token.now c.args.moment c.args.asked) served.result.reply u c.take.new.self c.take.result served.new.ledger.world) same
    (record {
      after = served.new.store;
      kept = inr (c.take.ensures.after, c.take.ensures.value, shut.0);
      clean = served.ensures.clean;
      answers = served.ensures.answers;
      tied = λ clean tied on. absurd (none-some _ (sym c.take.ensures.after ∙ on));
      doubt = served.ensures.doubt;
      halts = λ is. (λ none. (served.ensures.halts is).0 c.if-served.true, λ no. c.take.ensures.after);
      counted = served.ensures.counted;
      uncounted = served.ensures.uncounted;
      untouched = served.ensures.untouched;
    })

pub returns-else-served-clause-served : goal.returns-else-served-clause-served
returns-else-served-clause-served g c s some =
    let was = c.args.self.now in
    let served = c.serve-served in
    let same : c.in-Some.store ≡ s = same_Some _ _ (sym c.in-Some.is ∙ some) in
    subst (λ u. IsServed g.S.Store was.policy was.ledger.world (request_of c.args.token.now c.args.moment c.args.asked) served.result.reply u (Some served.new.store) was.aside served.new.ledger.world) same
    (record {
      after = served.new.store;
      kept = inl refl;
      clean = served.ensures.clean;
      answers = served.ensures.answers;
      tied = λ clean tied on. served.ensures.tied clean tied c.if-served.false;
      doubt = served.ensures.doubt;
      halts = λ is. (λ none. absurd (none-some _ (sym none)), λ no. absurd (both_ways _ c.if-served.false ((served.ensures.halts is).1 no)));
      counted = served.ensures.counted;
      uncounted = served.ensures.uncounted;
      untouched = served.ensures.untouched;
    })
