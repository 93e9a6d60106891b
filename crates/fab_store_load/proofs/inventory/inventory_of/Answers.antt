use Rattle.std.specs.FinMap as map
use Rattle.std.specs.Ordering.{nat_cmp}
use Rattle.fab_names.specs.Orders.{name_cmp}
use Rattle.fab_store_rows.specs.Standing.{address_at}
use Rattle.fab_store_load.specs.Kinds.{port_row, address_row, holder_row, volume_row}
use Rattle.fab_store_load.proofs.Saying.{no_repeat}
use Rattle.fab_store_load.proofs.PortRows.{seats, seats_say, addresses_say}
use Rattle.fab_store_load.proofs.Restored.{found, not_found, holders_say, volumes_say, made_rows, fault_damages, fault_is_exact}
use Rattle.fab_store_load.proofs.inventory.inventory_of.Goals as goal

pub returns-in_default-clause-damaged : goal.returns-in_default-clause-damaged
returns-in_default-clause-damaged g c v rows sound = no_repeat port_row c.args.ports.now (seats v.ports) (not_found nat_cmp port_row c.args.ports.now c.in_ok-seats.field-0 c.in_default.is c.in_ok-seats.ensures) (seats_say v.ports c.args.ports.now rows.ports_are)

pub returns-in_default-clause-exact : goal.returns-in_default-clause-exact
returns-in_default-clause-exact g c v rows sound = no_repeat port_row c.args.ports.now (seats v.ports) (not_found nat_cmp port_row c.args.ports.now c.in_ok-seats.field-0 c.in_default.is c.in_ok-seats.ensures) (seats_say v.ports c.args.ports.now rows.ports_are)

pub returns-in_default-2-clause-damaged : goal.returns-in_default-2-clause-damaged
returns-in_default-2-clause-damaged g c v rows sound =
    no_repeat address_row c.args.addresses.now (address_at v.ports) (not_found nat_cmp address_row c.args.addresses.now c.in_ok-addresses.field-0 c.in_default-2.is c.in_ok-addresses.ensures) (addresses_say v.ports c.args.addresses.now rows.addresses_are)

pub returns-in_default-2-clause-exact : goal.returns-in_default-2-clause-exact
returns-in_default-2-clause-exact g c v rows sound =
    no_repeat address_row c.args.addresses.now (address_at v.ports) (not_found nat_cmp address_row c.args.addresses.now c.in_ok-addresses.field-0 c.in_default-2.is c.in_ok-addresses.ensures) (addresses_say v.ports c.args.addresses.now rows.addresses_are)

pub returns-in_default-3-clause-damaged : goal.returns-in_default-3-clause-damaged
returns-in_default-3-clause-damaged g c v rows sound = no_repeat holder_row c.args.holders.now (map.get v.holders) (not_found name_cmp holder_row c.args.holders.now c.in_ok-holders.field-0 c.in_default-3.is c.in_ok-holders.ensures) (holders_say v c.args.holders.now rows.holders_are)

pub returns-in_default-3-clause-exact : goal.returns-in_default-3-clause-exact
returns-in_default-3-clause-exact g c v rows sound = no_repeat holder_row c.args.holders.now (map.get v.holders) (not_found name_cmp holder_row c.args.holders.now c.in_ok-holders.field-0 c.in_default-3.is c.in_ok-holders.ensures) (holders_say v c.args.holders.now rows.holders_are)

pub returns-in_default-4-clause-damaged : goal.returns-in_default-4-clause-damaged
returns-in_default-4-clause-damaged g c v rows sound = no_repeat volume_row c.args.volumes.now (map.get v.volumes) (not_found name_cmp volume_row c.args.volumes.now c.in_ok-volumes.field-0 c.in_default-4.is c.in_ok-volumes.ensures) (volumes_say v c.args.volumes.now rows.volumes_are)

pub returns-in_default-4-clause-exact : goal.returns-in_default-4-clause-exact
returns-in_default-4-clause-exact g c v rows sound = no_repeat volume_row c.args.volumes.now (map.get v.volumes) (not_found name_cmp volume_row c.args.volumes.now c.in_ok-volumes.field-0 c.in_default-4.is c.in_ok-volumes.ensures) (volumes_say v c.args.volumes.now rows.volumes_are)

pub returns-in-Ok-clause-rows : goal.returns-in-Ok-clause-rows
returns-in-Ok-clause-rows g c =
    made_rows c.args.ports.now c.args.addresses.now c.args.holders.now c.args.volumes.now c.in-Some.seats c.in-Some-2.addresses c.in-Some-3.holders c.in-Some-4.volumes
    (found nat_cmp port_row c.args.ports.now c.in_ok-seats.field-0 c.in-Some.seats c.in-Some.is c.in_ok-seats.ensures)
    (found nat_cmp address_row c.args.addresses.now c.in_ok-addresses.field-0 c.in-Some-2.addresses c.in-Some-2.is c.in_ok-addresses.ensures)
    (found name_cmp holder_row c.args.holders.now c.in_ok-holders.field-0 c.in-Some-3.holders c.in-Some-3.is c.in_ok-holders.ensures)
    (found name_cmp volume_row c.args.volumes.now c.in_ok-volumes.field-0 c.in-Some-4.volumes c.in-Some-4.is c.in_ok-volumes.ensures) c.in-Ok.inventory c.in-Ok.ensures.ok c.in-Ok.ensures.seated

pub returns-in-Err-clause-damaged : goal.returns-in-Err-clause-damaged
returns-in-Err-clause-damaged g c =
    rw c.load_fault.ensures
    (fault_damages c.args.ports.now c.args.addresses.now c.args.holders.now c.args.volumes.now c.in-Some.seats c.in-Some-2.addresses c.in-Some-3.holders c.in-Some-4.volumes
    (found nat_cmp port_row c.args.ports.now c.in_ok-seats.field-0 c.in-Some.seats c.in-Some.is c.in_ok-seats.ensures)
    (found nat_cmp address_row c.args.addresses.now c.in_ok-addresses.field-0 c.in-Some-2.addresses c.in-Some-2.is c.in_ok-addresses.ensures)
    (found name_cmp holder_row c.args.holders.now c.in_ok-holders.field-0 c.in-Some-3.holders c.in-Some-3.is c.in_ok-holders.ensures)
    (found name_cmp volume_row c.args.volumes.now c.in_ok-volumes.field-0 c.in-Some-4.volumes c.in-Some-4.is c.in_ok-volumes.ensures) c.in-Err.fault c.in-Err.ensures.err)

pub returns-in-Err-clause-exact : goal.returns-in-Err-clause-exact
returns-in-Err-clause-exact g c =
    rw c.load_fault.ensures
    (fault_is_exact c.args.ports.now c.args.addresses.now c.args.holders.now c.args.volumes.now c.in-Some.seats c.in-Some-2.addresses c.in-Some-3.holders c.in-Some-4.volumes
    (found nat_cmp port_row c.args.ports.now c.in_ok-seats.field-0 c.in-Some.seats c.in-Some.is c.in_ok-seats.ensures)
    (found nat_cmp address_row c.args.addresses.now c.in_ok-addresses.field-0 c.in-Some-2.addresses c.in-Some-2.is c.in_ok-addresses.ensures)
    (found name_cmp holder_row c.args.holders.now c.in_ok-holders.field-0 c.in-Some-3.holders c.in-Some-3.is c.in_ok-holders.ensures)
    (found name_cmp volume_row c.args.volumes.now c.in_ok-volumes.field-0 c.in-Some-4.volumes c.in-Some-4.is c.in_ok-volumes.ensures) c.in-Err.fault c.in-Err.ensures.err)
