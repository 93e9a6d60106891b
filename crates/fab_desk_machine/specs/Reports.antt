-- What is reported of a change.
use Rattle.std.specs.Prelude.{ℕ, List}
use Rattle.fab_reach_base.specs.declared.book.Delta.{Delta}
use Rattle.fab_world.specs.Worlds.{WorldRows}
use Rattle.fab_desk_base.specs.Answers.{IsMove, IsReport}
use Rattle.fab_desk_base.specs.Refusals.{IsEffect}
use Rattle.fab_desk_base.specs.declared.command.Command.{Command}
use Rattle.fab_desk_base.specs.declared.command.Command.TheVariants.{DryRun}
use Rattle.fab_desk_base.specs.declared.reply.Reply.{Reply}
use Rattle.fab_desk_base.specs.declared.reply.Reply.TheVariants as reply
use Rattle.fab_desk_machine.specs.declared.report.Report.{Report}
use Rattle.fab_desk_machine.specs.declared.report.Report.TheVariants.{Changed, Staged, Withdrawn, Approved, Reconfigured}

-- the reply of a report, with the lists of paths
abbrev pub reply_of : {A : Type 0} → Report → Delta A → Reply A
reply_of (Changed revision) d = reply.Changed revision
reply_of (Staged n steps) d = reply.Staged n steps
reply_of (Withdrawn n) d = reply.Withdrawn n
reply_of (Approved n count revision) d = reply.Approved n count revision
reply_of (Reconfigured n revision) d = reply.Reconfigured n d revision

-- the report is the command's, whatever its effect and its lists
abbrev pub TellsOf : {A : Type 0} → WorldRows → List ℕ → Command A → Report → Type 0
TellsOf {A} w caller c r = (new : WorldRows) → IsEffect w caller c new → (d : Delta A) → IsMove w new d → IsReport w c new (reply_of r d)

-- the same; a dry run has no report
abbrev pub Tells : {A : Type 0} → WorldRows → List ℕ → Command A → Report → Type 0
Tells w caller (DryRun n) r = Unit {0}
Tells w caller c r = TellsOf w caller c r
