-- What is carried out is told in one way.
use Rattle.std.proofs.Common.{ℕ, ◌≡◌, List, refl, sym, ap, ◌∙◌, subst}
use Rattle.std.specs.FinMap as map
use Rattle.fab_policy.specs.fab_policy_base.Policies.{PolicyRows}
use Rattle.fab_world.specs.PlanRecords.{PlanRecord}
use Rattle.fab_world.specs.Worlds.{WorldRows}
use Rattle.fab_desk_base.specs.Answers.{HasApprovals, IsReport, IsCarriedOut}
use Rattle.fab_desk_base.specs.Commands.{tried}
use Rattle.fab_desk_base.specs.declared.command.Command.{Command}
use Rattle.fab_desk_base.specs.declared.command.Command.TheVariants.{Import, PutHolder, PutVolume, DropHolder, DropVolume, Stage, Withdraw, Approve, DryRun, Activate, Rollback, Show}
use Rattle.fab_desk_base.specs.declared.reply.Reply.{Reply}
use Rattle.fab_desk_base.specs.declared.reply.Reply.TheVariants as reply
use Rattle.fab_desk_base.specs.Laws.{TellTheSame}
use Rattle.fab_desk_base.proofs.OneEffect.{one_plan}
use Rattle.fab_desk_base.proofs.SameLists.{same_moves}
use Rattle.fab_desk_base.proofs.Tried.{one_done}

one_count : (w : WorldRows) (n : List ℕ) (i j : ℕ) → HasApprovals w n i → HasApprovals w n j → i ≡ j
one_count w n i j (p, there, is) (q, also, are) = is ∙ ap (λ (x : PlanRecord). map.len x.approvals) (one_plan w n p q there also) ∙ sym are

module _ {A : Type 0} where
  told : (r s x y : Reply A) → r ≡ x → s ≡ y → TellTheSame x y → TellTheSame r s
  told r s x y h k same = subst (λ z. TellTheSame z s) (sym h) (subst (λ z. TellTheSame x z) (sym k) same)

  same_report : (w new : WorldRows) (c : Command A) (r s : Reply A) → IsReport w c new r → IsReport w c new s → TellTheSame r s
  same_report w new (Import f rows) r s h k = told r s _ _ h k refl
  same_report w new (PutHolder kind n t ports) r s h k = told r s _ _ h k refl
  same_report w new (PutVolume n x) r s h k = told r s _ _ h k refl
  same_report w new (DropHolder kind n) r s h k = told r s _ _ h k refl
  same_report w new (DropVolume n) r s h k = told r s _ _ h k refl
  same_report w new (Stage n steps) r s h k = told r s _ _ h k refl
  same_report w new (Withdraw n) r s h k = told r s _ _ h k refl
  same_report w new (Approve n) r s (i, h, is) (j, k, are) = told r s _ _ h k (ap (λ x. reply.Approved n x new.revision) (one_count new n i j is are))
  same_report w new (DryRun n) r s (d, h, is) (e, k, are) = told r s _ _ h k (refl, same_moves w new d e is are)
  same_report w new (Activate n) r s (d, h, is) (e, k, are) = told r s _ _ h k (refl, same_moves w new d e is are, refl)
  same_report w new (Rollback n) r s (d, h, is) (e, k, are) = told r s _ _ h k (refl, same_moves w new d e is are, refl)
  same_report w new (Show x) r s h k = absurd h

  pub one_report : (p : PolicyRows) (w : WorldRows) (id : ℕ) (caller : List ℕ) (moment : ℕ) (c : Command A) (r s : Reply A) (a b : WorldRows)
      → IsCarriedOut p w id caller moment c r a → IsCarriedOut p w id caller moment c s b → TellTheSame r s
  one_report p w id caller moment c r s a b h k =
      let effect = one_done w caller (tried c) h.effect k.effect h.is k.is in
      same_report w k.effect c r s (subst (λ x. IsReport w c x r) effect h.report) k.report
