-- How much the zoning of one fabric may have.
use Rattle.std.specs.Prelude.{ℕ}

-- aliases
abbrev pub most_aliases : ℕ
most_aliases = 2048

-- zones
abbrev pub most_zones : ℕ
most_zones = 2048

-- zone sets
abbrev pub most_sets : ℕ
most_sets = 64

-- members of an alias or a zone, zones of a set
abbrev pub most_members : ℕ
most_members = 255
