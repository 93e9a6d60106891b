-- What is known of ports.
use Rattle.std.specs.Prelude.{ℕ, Option}
use Rattle.std.specs.Option.{option_map}
use Rattle.std.specs.Ordering.{nat_cmp}
use Rattle.std.specs.FinMap as map
use Rattle.fab_inventory.specs.declared.port.Known.{Known}
use Rattle.fab_inventory.specs.declared.port.Port.{Port}

-- what is known of each port, under its N_Port_Name
abbrev pub KnownPorts : Type 0
KnownPorts = map.FinMap nat_cmp Known

-- the port of a name of which this is known
abbrev pub port_of : ℕ → Known → Port
port_of name k = record { name = name; node = k.node; at = k.at; address = k.address; holder = k.holder }

-- the port of a name, if it is known
abbrev pub port_at : KnownPorts → ℕ → Option Port
port_at ports name = option_map (port_of name) (map.get ports name)
