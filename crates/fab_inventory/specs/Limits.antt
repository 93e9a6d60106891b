-- The limits of an inventory.
use Rattle.std.specs.Prelude.{ℕ}

-- how many ports may be known
abbrev pub most_ports : ℕ
most_ports = 4096

-- how many holders there may be
abbrev pub most_holders : ℕ
most_holders = 2048

-- how many ports may be listed for a holder, and how many it holds at most
abbrev pub most_ports_of_holder : ℕ
most_ports_of_holder = 64

-- how many volumes there may be
abbrev pub most_volumes : ℕ
most_volumes = 4096

-- how many bytes a volume has at most
abbrev pub most_bytes : ℕ
most_bytes = 9223372036854775807
