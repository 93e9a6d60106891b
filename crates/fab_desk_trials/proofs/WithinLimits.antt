-- From what is tried to what has effect, by the two limits.
use Rattle.std.proofs.Common.{ℕ, ◌≤◌, ◌<◌, inl, inr, List, sym, subst, arith}
use Rattle.fab_world.specs.Soundness.{IsSound}
use Rattle.fab_world.specs.Worlds.{WorldRows}
use Rattle.fab_world.specs.declared.limits.TheConstants.{MOST_CHANGES}
use Rattle.fab_desk_base.specs.Commands.{tried}
use Rattle.fab_desk_base.specs.Refusals.{HasManyChanges, HasManyPaths, MayCount}
use Rattle.fab_desk_base.specs.Trying.{IsTryFault}
use Rattle.fab_desk_base.specs.declared.command.Command.{Command}
use Rattle.fab_desk_base.specs.declared.fault.DeskFault.{DeskFault}
use Rattle.fab_desk_base.specs.declared.fault.DeskFault.TheVariants as fault
use Rattle.fab_desk_base.specs.declared.fault.DeskLimit.TheVariants.{Paths, Changes}
use Rattle.fab_desk_base.proofs.Tried.{done_of, many_paths, many_changes}
use Rattle.fab_desk_trials.specs.Limits.{IsLimitFault}
use Rattle.fab_desk_trials.specs.Trials.{effect_world, IsTried, HasEffect}
use Rattle.fab_desk_trials.specs.declared.effects.Effect.{Effect}

module _ {A : Type 0} (w : WorldRows) (caller : List ℕ) (c : Command A) (e : Effect A) (h : IsTried w caller c e) where
  abbrev after : WorldRows
  after = effect_world w caller c e

  -- one change more may be counted, or there are too many
  may_count : ¬ HasManyChanges w (tried c) → MayCount w (tried c)
  may_count few counts = omega_few (λ most. few (counts, most))
    where
      omega_few : ¬ (MOST_CHANGES ≤ w.revision) → w.revision < MOST_CHANGES
      omega_few n = grind arith

  pub has_effect : IsSound w → ¬ HasManyPaths after → ¬ HasManyChanges w (tried c) → HasEffect w caller c e
  has_effect sound few more = record {
    is = done_of w caller (tried c) after h.made few more;
    suits = h.suits (may_count more);
    sound = h.sound.sound sound few (may_count more);
  }

  pub paths_fault : (r : DeskFault) → IsLimitFault (fault.Limit Paths) (HasManyPaths after) r → IsTryFault w caller (tried c) r
  paths_fault r (inl is) = subst (IsTryFault w caller (tried c)) (sym is) tt
  paths_fault r (inr (is, many)) = subst (IsTryFault w caller (tried c)) (sym is) (many_paths w caller (tried c) after h.made many)

  pub changes_fault : (r : DeskFault) → ¬ HasManyPaths after → IsLimitFault (fault.Limit Changes) (HasManyChanges w (tried c)) r → IsTryFault w caller (tried c) r
  changes_fault r few (inl is) = subst (IsTryFault w caller (tried c)) (sym is) tt
  changes_fault r few (inr (is, many)) = subst (IsTryFault w caller (tried c)) (sym is) (many_changes w caller (tried c) after h.made few many)
