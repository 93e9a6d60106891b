-- A request leaves the world as it was, or its command is done.
use Rattle.std.proofs.Common.{ℕ, ◌≡◌, ◌⊎◌, inl, inr, List}
use Rattle.fab_policy.specs.fab_policy_base.Policies.{PolicyRows}
use Rattle.fab_world.specs.Worlds.{WorldRows}
use Rattle.fab_desk_base.specs.Answers.{IsKept, IsDeniedWith, IsRefusedWith, IsCarriedOut, IsOutcomeFor, IsAnswerTo}
use Rattle.fab_desk_base.specs.declared.command.Command.{Command}
use Rattle.fab_desk_base.specs.declared.command.Command.TheVariants.{Import, PutHolder, PutVolume, DropHolder, DropVolume, Stage, Withdraw, Approve, DryRun, Activate, Rollback, Show}
use Rattle.fab_desk_base.specs.declared.fault.DeskFault.{DeskFault}
use Rattle.fab_desk_base.specs.declared.reply.Reply.{Reply}

module _ {A : Type 0} (p : PolicyRows) (w : WorldRows) (id : ℕ) (caller : List ℕ) (moment : ℕ) where
  -- what is turned down leaves all as it was
  by_end : (c : Command A) (r : Reply A) (new : WorldRows) → ((q : DeskFault) × (IsDeniedWith p w id caller moment c q ⊎ IsRefusedWith p w id caller moment c q) × IsKept w q r new) ⊎ IsCarriedOut p w id caller moment c r new
      → (new ≡ w) ⊎ IsCarriedOut p w id caller moment c r new
  by_end c r new (inl h) = inl h.2.1
  by_end c r new (inr h) = inr h

  by_outcome : (c : Command A) (r : Reply A) (new : WorldRows) → IsOutcomeFor p w id caller moment c r new → (new ≡ w) ⊎ IsCarriedOut p w id caller moment c r new
  by_outcome (Show q) r new h = inl h.3
  by_outcome (Import f rows) r new h = by_end (Import f rows) r new h
  by_outcome (PutHolder kind n t ports) r new h = by_end (PutHolder kind n t ports) r new h
  by_outcome (PutVolume n x) r new h = by_end (PutVolume n x) r new h
  by_outcome (DropHolder kind n) r new h = by_end (DropHolder kind n) r new h
  by_outcome (DropVolume n) r new h = by_end (DropVolume n) r new h
  by_outcome (Stage n steps) r new h = by_end (Stage n steps) r new h
  by_outcome (Withdraw n) r new h = by_end (Withdraw n) r new h
  by_outcome (Approve n) r new h = by_end (Approve n) r new h
  by_outcome (DryRun n) r new h = by_end (DryRun n) r new h
  by_outcome (Activate n) r new h = by_end (Activate n) r new h
  by_outcome (Rollback n) r new h = by_end (Rollback n) r new h

  pub kept_or_done : (c : Command A) (r : Reply A) (new : WorldRows) → IsAnswerTo p w id caller moment c r new → (new ≡ w) ⊎ IsCarriedOut p w id caller moment c r new
  kept_or_done c r new (inl h) = inl h.1.1
  kept_or_done c r new (inr (inl h)) = inl h.2.1
  kept_or_done c r new (inr (inr h)) = by_outcome c r new h.2
