-- What the desk answers where the inventory refuses.
use Rattle.fab_reach_base.specs.fab_inventory.declared.fault.InventoryFault.{InventoryFault}
use Rattle.fab_reach_base.specs.fab_inventory.declared.fault.InventoryFault.TheVariants.{PortClash, UnknownPort, PortHeld, Unknown, WrongKind, InUse, Limit, Memory}
use Rattle.fab_reach_base.specs.fab_inventory.declared.fault.InventoryLimit.{InventoryLimit}
use Rattle.fab_reach_base.specs.fab_inventory.declared.fault.InventoryLimit.TheVariants.{Ports, Holders, PortsOfHolder, Volumes, Bytes}
use Rattle.fab_world.specs.fab_plans.declared.fault.Item.TheVariants as item
use Rattle.fab_desk_base.specs.declared.fault.DeskFault.{DeskFault}
use Rattle.fab_desk_base.specs.declared.fault.DeskFault.TheVariants as fault
use Rattle.fab_desk_base.specs.declared.fault.DeskLimit.TheVariants as limit

-- too many of something; or values that no body gives
abbrev pub answered_limit : InventoryLimit → DeskFault
answered_limit Ports = fault.Limit limit.Ports
answered_limit Holders = fault.Limit limit.Holders
answered_limit Volumes = fault.Limit limit.Volumes
answered_limit PortsOfHolder = fault.BadBody 0
answered_limit Bytes = fault.BadBody 0

-- the desk's fault for that of the inventory
abbrev pub answered : InventoryFault → DeskFault
answered (PortClash q) = fault.PortClash q
answered (UnknownPort q) = fault.Unknown (item.Port q)
answered (PortHeld q h) = fault.InUse (item.Port q) h
answered (Unknown n) = fault.Unknown (item.Name n)
answered (WrongKind n) = fault.Exists n
answered (InUse n user) = fault.InUse (item.Name n) user
answered (Limit l) = answered_limit l
answered Memory = fault.Memory
