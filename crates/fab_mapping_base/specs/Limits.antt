-- How much of everything a mapping may hold.
use Rattle.std.specs.Prelude.{ℕ}

-- how many hosts may be listed for a host group
abbrev pub most_hosts : ℕ
most_hosts = 255

-- how many host groups a mapping may have
abbrev pub most_host_groups : ℕ
most_host_groups = 2048

-- how many storage groups it may have
abbrev pub most_storage_groups : ℕ
most_storage_groups = 2048

-- how many host groups a storage group may have
abbrev pub most_groups_served : ℕ
most_groups_served = 64

-- how many target ports it may have
abbrev pub most_targets : ℕ
most_targets = 32

-- how many logical unit numbers of it may have a volume
abbrev pub most_units : ℕ
most_units = 256

-- the greatest logical unit number
abbrev pub last_unit : ℕ
last_unit = 16383
