-- A dry run tells what activation does.
use Rattle.std.proofs.Common.{ℕ, ◌≡◌, List, subst}
use Rattle.fab_policy.specs.fab_policy_base.Policies.{PolicyRows}
use Rattle.fab_reach_base.specs.Books.{IsGained}
use Rattle.fab_reach_base.proofs.SameLists.{one_list}
use Rattle.fab_world.specs.Worlds.{WorldRows, records_of}
use Rattle.fab_desk_base.specs.Answers.{IsCarriedOut, IsMove}
use Rattle.fab_desk_base.specs.declared.command.Command.TheVariants.{DryRun, Activate}
use Rattle.fab_desk_base.specs.declared.reply.Reply.{Reply}
use Rattle.fab_reach_base.specs.declared.book.Delta.{Delta}
use Rattle.fab_desk_base.specs.Laws.{AreSameLists, TellsActivation}
use Rattle.fab_desk_base.proofs.OneEffect.{one_effect}

pub same_moves : {A : Type 0} (w new : WorldRows) (d e : Delta A) → IsMove w new d → IsMove w new e → AreSameLists d e
same_moves w new d e h k =
    (one_list (IsGained (records_of w) (records_of new)) d.gained.items e.gained.items h.gains k.gains, one_list (IsGained (records_of new) (records_of w)) d.lost.items e.lost.items h.loses k.loses)

pub tells_activation : {A : Type 0} (p o : PolicyRows) (w : WorldRows) (i j : ℕ) (caller other : List ℕ) (moment later : ℕ) (n : List ℕ) (r s : Reply A) (a b : WorldRows)
    → IsCarriedOut p w i caller moment (DryRun n) r a → IsCarriedOut o w j other later (Activate n) s b → TellsActivation n r s
tells_activation {A} p o w i j caller other moment later n r s a b h k =
    let same : h.effect ≡ k.effect = one_effect {A = A} w caller (Activate n) h.effect k.effect h.is.makes k.is.makes in
    (h.report.0, k.report.0, k.effect.revision, h.report.1, k.report.1, same_moves w k.effect h.report.0 k.report.0 (subst (λ x. IsMove w x h.report.0) same h.report.2) k.report.2)
