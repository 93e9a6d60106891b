use Rattle.std.proofs.Common.{refl, subst, inr, MatchOption}
use Rattle.fab_mapping.specs.Mappings.{HasNoClash, IsLeastClash}
use Rattle.fab_plans_rows.proofs.outcome.change_by.Goals as goal

pub changed_rows-requires : goal.changed_rows-requires
changed_rows-requires g c = (c.args.inventory.now, c.requires.done)

pub returns-in-Ok-None-clause-clear : goal.returns-in-Ok-None-clause-clear
returns-in-Ok-None-clause-clear g c =
    let m = c.args.after.now.mapping in
    subst (λ o. MatchOption o (HasNoClash m) (IsLeastClash m)) c.in-Ok-None.field-0-is c.in-Ok-None.ensures

pub returns-in-Ok-Some-clause-err : goal.returns-in-Ok-Some-clause-err
returns-in-Ok-Some-clause-err g c =
    let m = c.args.after.now.mapping in
    inr (record {
      number_is = refl;
      after = c.args.after.now;
      done = c.requires.done;
      nexus = c.in-Ok-Some.nexus;
      least = subst (λ o. MatchOption o (HasNoClash m) (IsLeastClash m)) c.in-Ok-Some.field-0-is c.in-Ok-Some.ensures;
      refusal = refl;
    })
