-- From what the records say of a command to its effect, and to what refuses it.
use Rattle.std.proofs.Common.{ℕ, ◌≡◌, ◌<◌, ◌↔◌, List, refl, subst, arith}
use Rattle.fab_reach_base.specs.fab_inventory.declared.holder.HolderKind.TheVariants as kind
use Rattle.fab_world.specs.Worlds.{WorldRows}
use Rattle.fab_desk_base.specs.Refusals.{Check, plan_state, own_name, records, others, free_ports, no_user, no_volume, not_author, last_in_force, nothing_gone, steps_done, room, few_paths, few_changes, place_of, FailsWith, HasManyChanges, HasManyPaths, MakesManyPaths, Fails, IsFirstFault, IsDone}
use Rattle.fab_desk_base.specs.Trying.{IsOfRecords, IsMade}
use Rattle.fab_desk_base.specs.declared.command.Command.{Command}
use Rattle.fab_desk_base.specs.declared.command.Command.TheVariants.{Import, PutHolder, PutVolume, DropHolder, DropVolume, Stage, Withdraw, Approve, DryRun, Activate, Rollback, Show}
use Rattle.fab_desk_base.specs.declared.fault.DeskFault.{DeskFault}
use Rattle.fab_desk_base.specs.declared.fault.DeskFault.TheVariants as fault
use Rattle.fab_desk_base.specs.declared.fault.DeskLimit.TheVariants.{Paths, Changes}
use Rattle.fab_desk_base.proofs.OneEffect.{one_effect}

-- ---- the two limits are checked of each command

pub paths_check : {A : Type 0} (w : WorldRows) (caller : List ℕ) (c : Command A) (q : DeskFault) → Fails w caller c few_paths q ↔ FailsWith (fault.Limit Paths) (MakesManyPaths w caller c) q
paths_check w caller (Import f rows) q = ((λ h. h), λ h. h)
paths_check w caller (PutHolder kind.Host n t ports) q = ((λ h. h), λ h. h)
paths_check w caller (PutHolder kind.Array n t ports) q = ((λ h. h), λ h. h)
paths_check w caller (PutVolume n x) q = ((λ h. h), λ h. h)
paths_check w caller (DropHolder k n) q = ((λ h. h), λ h. h)
paths_check w caller (DropVolume n) q = ((λ h. h), λ h. h)
paths_check w caller (Stage n steps) q = ((λ h. h), λ h. h)
paths_check w caller (Withdraw n) q = ((λ h. h), λ h. h)
paths_check w caller (Approve n) q = ((λ h. h), λ h. h)
paths_check w caller (DryRun n) q = ((λ h. h), λ h. h)
paths_check w caller (Activate n) q = ((λ h. h), λ h. h)
paths_check w caller (Rollback n) q = ((λ h. h), λ h. h)
paths_check w caller (Show x) q = ((λ h. h), λ h. h)

pub changes_check : {A : Type 0} (w : WorldRows) (caller : List ℕ) (c : Command A) (q : DeskFault) → Fails w caller c few_changes q ↔ FailsWith (fault.Limit Changes) (HasManyChanges w c) q
changes_check w caller (Import f rows) q = ((λ h. h), λ h. h)
changes_check w caller (PutHolder kind.Host n t ports) q = ((λ h. h), λ h. h)
changes_check w caller (PutHolder kind.Array n t ports) q = ((λ h. h), λ h. h)
changes_check w caller (PutVolume n x) q = ((λ h. h), λ h. h)
changes_check w caller (DropHolder k n) q = ((λ h. h), λ h. h)
changes_check w caller (DropVolume n) q = ((λ h. h), λ h. h)
changes_check w caller (Stage n steps) q = ((λ h. h), λ h. h)
changes_check w caller (Withdraw n) q = ((λ h. h), λ h. h)
changes_check w caller (Approve n) q = ((λ h. h), λ h. h)
changes_check w caller (DryRun n) q = ((λ h. h), λ h. h)
changes_check w caller (Activate n) q = ((λ h. h), λ h. h)
changes_check w caller (Rollback n) q = ((λ h. h), λ h. h)
changes_check w caller (Show x) q = ((λ h. h), λ h. h)

-- a check is one of the records, or one of the two limits
by_limits : (P : Check → Type 0) → ((k : Check) → IsOfRecords k → P k) → P few_paths → P few_changes → (k : Check) → P k
by_limits P f p q plan_state = f plan_state (omega arith)
by_limits P f p q own_name = f own_name (omega arith)
by_limits P f p q records = f records (omega arith)
by_limits P f p q others = f others (omega arith)
by_limits P f p q free_ports = f free_ports (omega arith)
by_limits P f p q no_user = f no_user (omega arith)
by_limits P f p q no_volume = f no_volume (omega arith)
by_limits P f p q not_author = f not_author (omega arith)
by_limits P f p q last_in_force = f last_in_force (omega arith)
by_limits P f p q nothing_gone = f nothing_gone (omega arith)
by_limits P f p q steps_done = f steps_done (omega arith)
by_limits P f p q room = f room (omega arith)
by_limits P f p q few_paths = p
by_limits P f p q few_changes = q

module _ {A : Type 0} (w : WorldRows) (caller : List ℕ) (c : Command A) (new : WorldRows) (made : IsMade w caller c new) where
  -- its paths are not too many
  paths_pass : ¬ HasManyPaths new → (q : DeskFault) → ¬ Fails w caller c few_paths q
  paths_pass few q fails = let many = ((paths_check w caller c q).0 fails).1 in few (subst HasManyPaths (one_effect w caller c many.0 new many.1 made.makes) many.2)

  pub done_of : ¬ HasManyPaths new → ¬ HasManyChanges w c → IsDone w caller c new
  done_of few more = record {
    passes = λ k q. by_limits (λ x. ¬ Fails w caller c x q) (λ x is. made.passes x q is) (paths_pass few q) (λ fails. more ((changes_check w caller c q).0 fails).1) k;
    makes = made.makes;
  }

  pub many_paths : HasManyPaths new → IsFirstFault w caller c (fault.Limit Paths)
  many_paths many = record {
    check = few_paths;
    here = (paths_check w caller c (fault.Limit Paths)).1 (refl, (new, made.makes, many));
    before = λ k q below. made.passes k q below;
  }

  pub many_changes : ¬ HasManyPaths new → HasManyChanges w c → IsFirstFault w caller c (fault.Limit Changes)
  many_changes few more = record {
    check = few_changes;
    here = (changes_check w caller c (fault.Limit Changes)).1 (refl, more);
    before = λ k q below. by_limits (λ x. place_of x < place_of few_changes → ¬ Fails w caller c x q) (λ x is _. made.passes x q is) (λ _. paths_pass few q) (λ same _. omega (arith, same)) k below;
  }

-- what is done is not refused
pub done_not_refused : {A : Type 0} (w : WorldRows) (caller : List ℕ) (c : Command A) (new : WorldRows) (r : DeskFault) → IsDone w caller c new → ¬ IsFirstFault w caller c r
done_not_refused w caller c new r d f = d.passes f.check r f.here

-- two effects are one
pub one_done : {A : Type 0} (w : WorldRows) (caller : List ℕ) (c : Command A) (a b : WorldRows) → IsDone w caller c a → IsDone w caller c b → a ≡ b
one_done w caller c a b h k = one_effect w caller c a b h.makes k.makes
