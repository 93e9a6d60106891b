-- What a command comes to beside a change: a dry run, and a denial.
use Rattle.std.specs.Prelude.{ℕ, List, Option, None, Some}
use Rattle.fab_policy.specs.declared.act.Verdict.{Verdict}
use Rattle.fab_policy.specs.declared.act.Verdict.TheVariants.{Allowed, Denied}
use Rattle.fab_desk_base.specs.declared.command.Command.{Command}
use Rattle.fab_desk_base.specs.declared.command.Command.TheVariants.{DryRun}
use Rattle.fab_desk_base.specs.declared.fault.DeskFault.{DeskFault}
use Rattle.fab_desk_base.specs.declared.fault.DeskFault.TheVariants as fault

-- the plan of a dry run
abbrev pub dry_run_plan_of : {A : Type 0} → Command A → Option (List ℕ)
dry_run_plan_of (DryRun n) = Some n
dry_run_plan_of _ = None

-- the fault that a verdict is, where it denies
abbrev pub denied_of : Verdict → Option DeskFault
denied_of Allowed = None
denied_of (Denied rule name need) = Some (fault.Denied rule name need)
