-- Which line of the table of refusals a refusal is.
use Rattle.fab_desk_base.specs.declared.fault.DeskFault.{DeskFault}
use Rattle.fab_desk_base.specs.declared.fault.DeskFault.TheVariants as fault
use Rattle.fab_world.specs.fab_plans.declared.fault.Refusal as plan
use Rattle.fab_world.specs.fab_plans.declared.fault.Refusal.TheVariants as refusal
use Rattle.fab_wire_base.specs.declared.requests.Refusal as wire
use Rattle.fab_wire_base.specs.declared.requests.Refusal.TheVariants as no
use Rattle.fab_wire_answers.specs.declared.codes.Code.{Code}
use Rattle.fab_wire_answers.specs.declared.codes.Code.TheVariants as code

-- before the desk is asked
abbrev pub code_of_wire : wire.Refusal → Code
code_of_wire no.NoCaller = code.NoCaller
code_of_wire no.BadHead = code.BadHead
code_of_wire no.NoRoute = code.NoRoute
code_of_wire (no.BadMethod route) = code.BadMethod
code_of_wire no.NoLength = code.NoLength
code_of_wire no.TooLarge = code.TooLarge
code_of_wire (no.BadBody line) = code.BadBody

-- by a step of a plan, or at the end of its trial
abbrev pub code_of_step : plan.Refusal → Code
code_of_step (refusal.Exists name) = code.Exists
code_of_step (refusal.Unknown item) = code.UnknownName
code_of_step (refusal.WrongArray item) = code.WrongArray
code_of_step (refusal.UnitTaken group unit) = code.UnitClash
code_of_step (refusal.InUse name by) = code.InUse
code_of_step (refusal.Limit which) = code.Limit
code_of_step (refusal.Clash nexus) = code.UnitClash

-- by the desk
abbrev pub code_of_fault : DeskFault → Code
code_of_fault fault.NoCaller = code.NoCaller
code_of_fault (fault.BadBody line) = code.BadBody
code_of_fault (fault.Denied rule name need) = code.Denied
code_of_fault fault.NotFound = code.NotFound
code_of_fault (fault.Exists name) = code.Exists
code_of_fault (fault.InUse item by) = code.InUse
code_of_fault (fault.Unknown item) = code.UnknownName
code_of_fault (fault.Limit which) = code.Limit
code_of_fault (fault.WrongState state) = code.WrongState
code_of_fault (fault.NotLast last) = code.NotLast
code_of_fault (fault.Gone gone) = code.Gone
code_of_fault fault.OwnPlan = code.OwnPlan
code_of_fault (fault.PortClash port) = code.PortClash
code_of_fault (fault.Plan step why) = code_of_step why
code_of_fault fault.Memory = code.Memory
code_of_fault fault.Store = code.Store
code_of_fault fault.Halted = code.Halted
