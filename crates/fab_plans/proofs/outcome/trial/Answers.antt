use Rattle.std.proofs.Common.{refl, subst, inr, MatchOption}
use Rattle.fab_reach_base.specs.fab_mapping.Mappings.{HasNoClash, IsLeastClash}
use Rattle.fab_plans.specs.Outcomes.{AllDone}
use Rattle.fab_plans.proofs.outcome.trial.Goals as goal

pub returns-in-Ok-None-clause-ok : goal.returns-in-Ok-None-clause-ok
returns-in-Ok-None-clause-ok g c = record {
  done = subst (λ w. AllDone c.args.inventory.now c.args.steps.now w c.take_steps.new.config) c.in-Ok.ensures c.in_default-take_steps.ensures.ok;
  no_clash = subst HasNoClash c.mapping.ensures (subst (λ o. MatchOption o (HasNoClash c.mapping.result.now) (IsLeastClash c.mapping.result.now)) c.in-Ok-None.field-0-is c.in-Ok-None.ensures);
}

pub returns-in-Ok-Some-clause-refused : goal.returns-in-Ok-Some-clause-refused
returns-in-Ok-Some-clause-refused g c =
    let least = subst (λ o. MatchOption o (HasNoClash c.mapping.result.now) (IsLeastClash c.mapping.result.now)) c.in-Ok-Some.field-0-is c.in-Ok-Some.ensures in
    inr (record {
      number_is = refl;
      after = c.take_steps.new.config;
      done = subst (λ w. AllDone c.args.inventory.now c.args.steps.now w c.take_steps.new.config) c.in-Ok.ensures c.in_default-take_steps.ensures.ok;
      nexus = c.in-Ok-Some.nexus;
      least = subst (λ m. IsLeastClash m c.in-Ok-Some.nexus) c.mapping.ensures least;
      refusal = refl;
    })
