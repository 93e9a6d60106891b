-- Commands as plain values, and which command a kind of request is.
use Rattle.std.specs.Prelude.{ℕ, List}
use Rattle.fab_names.specs.declared.fabric.Fabric.{Fabric}
use Rattle.fab_inventory.specs.declared.port.PortRow.{PortRow}
use Rattle.fab_inventory.specs.declared.holder.HolderKind.{HolderKind}
use Rattle.fab_inventory.specs.declared.holder.Volume.{Volume}
use Rattle.fab_plans_base.specs.Steps.{PlanStep}
use Rattle.fab_desk_base.specs.Commands.{IsGiven}
use Rattle.fab_desk_base.specs.declared.command.Command.{Command}
use Rattle.fab_desk_base.specs.declared.command.Command.TheVariants as command
use Rattle.fab_desk_base.specs.declared.command.Query.{Query}
use Rattle.fab_desk_base.specs.declared.command.Query.TheVariants as query
use Rattle.fab_wire_base.specs.declared.kinds.Kind.{Kind}
use Rattle.fab_wire_base.specs.declared.kinds.Kind.TheVariants as kind
use Rattle.fab_wire_requests.specs.Subjects.{holder_of}
use Rattle.fab_wire_requests.specs.declared.meant.Meant.{Meant}
use Rattle.fab_wire_requests.specs.declared.meant.Meant.TheVariants as meant

-- a command, as its values say
pub data Order : Type 0 where
  imports : Fabric → List PortRow → Order
  puts_holder : HolderKind → List ℕ → List ℕ → List ℕ → Order
  puts_volume : List ℕ → Volume → Order
  drops_holder : HolderKind → List ℕ → Order
  drops_volume : List ℕ → Order
  stages : List ℕ → List PlanStep → Order
  withdraws : List ℕ → Order
  approves : List ℕ → Order
  tries : List ℕ → Order
  activates : List ℕ → Order
  rolls_back : List ℕ → Order
  shows : Query → Order

-- the values of a command
abbrev pub order_of : {A : Type 0} → Command A → Order
order_of (command.Import f rows) = imports f rows.items
order_of (command.PutHolder k n t ports) = puts_holder k n t ports.items
order_of (command.PutVolume n v) = puts_volume n v
order_of (command.DropHolder k n) = drops_holder k n
order_of (command.DropVolume n) = drops_volume n
order_of (command.Stage n steps) = stages n steps.items
order_of (command.Withdraw n) = withdraws n
order_of (command.Approve n) = approves n
order_of (command.DryRun n) = tries n
order_of (command.Activate n) = activates n
order_of (command.Rollback n) = rolls_back n
order_of (command.Show q) = shows q

-- what a read asks for about a name; of all that name one alone, what is left is the showing of a storage group
abbrev pub named_query : Kind → List ℕ → Query
named_query kind.Paths n = query.Paths n
named_query kind.ShowHost n = query.Holder (holder_of kind.ShowHost) n
named_query kind.ShowArray n = query.Holder (holder_of kind.ShowArray) n
named_query kind.ShowVolume n = query.Volume n
named_query kind.ShowPlan n = query.Plan n
named_query kind.ShowHostGroup n = query.HostGroup n
named_query other n = query.Group n

-- what is asked for about a name alone: a drop, what is done with a plan, and else a read
abbrev pub order_at : Kind → List ℕ → Order
order_at kind.DropHost n = drops_holder (holder_of kind.DropHost) n
order_at kind.DropArray n = drops_holder (holder_of kind.DropArray) n
order_at kind.DropVolume n = drops_volume n
order_at kind.Withdraw n = withdraws n
order_at kind.Approve n = approves n
order_at kind.DryRun n = tries n
order_at kind.Activate n = activates n
order_at kind.Rollback n = rolls_back n
order_at other n = shows (named_query other n)

-- what is asked for about a name in a fabric: an alias, a zone, and else a zone set
abbrev pub query_in : Kind → Fabric → List ℕ → Query
query_in kind.ShowAlias f n = query.Alias f n
query_in kind.ShowZone f n = query.Zone f n
query_in other f n = query.Set f n

-- what is asked for is a command that some body gives
abbrev pub IsGivenAs : {A : Type 0} → Meant A → Type 0
IsGivenAs (meant.Asks command) = IsGiven command
IsGivenAs other = Unit {0}
