use Rattle.std.proofs.Common.{◌≡◌, IfSome, sym, subst}
use Rattle.fab_reach_base.specs.fab_mapping.Mappings.{HasNoClash}
use Rattle.fab_world.specs.Worlds.{WorldRows}
use Rattle.fab_desk_commands.proofs.activation.outcome.Goals as goal

pub outcome_of-requires-clause-clear : goal.outcome_of-requires-clause-clear
outcome_of-requires-clause-clear g c = subst (λ (w : WorldRows). HasNoClash w.config.mapping) (sym c.world.view_is) c.requires.sound.config.no_clash

pub outcome_of-requires-clause-spare : goal.outcome_of-requires-clause-spare
outcome_of-requires-clause-spare g c = subst (λ (w : WorldRows). IfSome c.args.spare.now (λ s. s ≡ w.config)) (sym c.world.view_is) c.requires.spare

pub returns-in-Ok-outcome_of-clause-spare : goal.returns-in-Ok-outcome_of-clause-spare
returns-in-Ok-outcome_of-clause-spare g c = subst (λ (w : WorldRows). IfSome c.outcome_of.new.spare (λ s. s ≡ w.config)) c.world.view_is c.outcome_of.ensures.spare

pub returns-in-Err-Refused-clause-spare : goal.returns-in-Err-Refused-clause-spare
returns-in-Err-Refused-clause-spare g c = subst (λ (w : WorldRows). IfSome c.outcome_of.new.spare (λ s. s ≡ w.config)) c.world.view_is c.outcome_of.ensures.spare

pub returns-clause-spare : goal.returns-clause-spare
returns-clause-spare g c = subst (λ (w : WorldRows). IfSome c.outcome_of.new.spare (λ s. s ≡ w.config)) c.world.view_is c.outcome_of.ensures.spare
