-- A request whose change is carried out is no read.
use Rattle.std.proofs.Common.{◌≡◌, inl, inr, subst}
use Rattle.fab_reach_base.specs.declared.book.Delta.{Delta}
use Rattle.fab_policy_base.specs.Policies.{PolicyRows}
use Rattle.fab_world.specs.Worlds.{WorldRows}
use Rattle.fab_desk_machine.specs.fab_desk_base.Answers.{IsAnswerTo, IsStep, Request}
use Rattle.fab_desk_machine.specs.fab_desk_base.declared.fault.DeskFault.{DeskFault}
use Rattle.fab_desk_machine.specs.fab_desk_base.declared.fault.DeskFault.TheVariants.{BadBody, NoCaller, NotFound}
use Rattle.fab_desk_machine.specs.fab_desk_base.declared.reply.Reply.{Reply}
use Rattle.fab_desk_machine.specs.fab_desk_base.declared.reply.Reply.TheVariants.{Refused}
use Rattle.fab_desk_machine.specs.fab_desk_base.declared.reply.Reply.TheVariants as reply
use Rattle.fab_desk_machine.specs.fab_desk_base.declared.reply.Shown.{Shown}
use Rattle.fab_desk_machine.specs.Reports.{reply_of}
use Rattle.fab_desk_machine.specs.declared.report.Report.{Report}
use Rattle.fab_desk_machine.specs.declared.report.Report.TheVariants.{Changed, Staged, Withdrawn, Approved, Reconfigured}
use Rattle.fab_desk.specs.Desks.{IsRead}

module _ {A : Type 0} (d : Delta A) where
  -- a report refuses nothing
  no_refusal : (report : Report) (f : DeskFault) → ◌≡◌ {A = Reply A} (reply_of report d) (Refused f) → ⊥
  no_refusal (Changed n) f is = absurd cc
  no_refusal (Staged n k) f is = absurd cc
  no_refusal (Withdrawn n) f is = absurd cc
  no_refusal (Approved n k m) f is = absurd cc
  no_refusal (Reconfigured n k) f is = absurd cc

  -- and shows nothing
  no_show : (report : Report) (s : Shown A) → ◌≡◌ {A = Reply A} (reply_of report d) (reply.Shown s) → ⊥
  no_show (Changed n) s is = absurd cc
  no_show (Staged n k) s is = absurd cc
  no_show (Withdrawn n) s is = absurd cc
  no_show (Approved n k m) s is = absurd cc
  no_show (Reconfigured n k) s is = absurd cc

pub no_read : {A : Type 0} (p : PolicyRows) (w v : WorldRows) (q : Request A) (report : Report) (d : Delta A) → IsStep p w q (reply_of report d) v → ¬ IsRead q
no_read p w v q report d (inl nobody) read = no_refusal d report NoCaller nobody.1.0
no_read p w v q report d (inr (id, caller, only, at, answers)) read =
    elim (subst (λ c. IsAnswerTo p w id caller.name q.moment c (reply_of report d) v) read.1 answers) [
      | inl bad ↦ no_refusal d report (BadBody 0) bad.1.0
      | inr (inl gone) ↦ no_refusal d report NotFound gone.2.0
      | inr (inr shown) ↦ no_show d report shown.2.0 shown.2.2
    ]
