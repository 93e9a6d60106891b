-- What settings tell of another schema, and whether a plan has two lines.
use Rattle.std.specs.Prelude.{ℕ, List, Contains, map}
use Rattle.fab_store_base.specs.Calls.{IsOtherSchema}
use Rattle.fab_store_columns.specs.MetaLines.{MetaColumns}
use Rattle.fab_store_columns.specs.PlanLines.{PlanColumns}
use Rattle.fab_store_tables.specs.Listing.{AreDistinct}
use Rattle.fab_store_tables.specs.Versions.{TellsSchema}

-- the line tells this schema, which is another than the present one
abbrev pub TellsOther : MetaColumns → ℕ → Type 0
TellsOther l n = TellsSchema l n × IsOtherSchema n

-- one of the lines does
abbrev pub TellOther : List MetaColumns → ℕ → Type 0
TellOther lines n = (l : MetaColumns) × Contains lines l × TellsOther l n

-- no two lines of plans have one name
abbrev pub HaveNamesOnce : List PlanColumns → Type 0
HaveNamesOnce lines = AreDistinct (map (λ (l : PlanColumns). l.name) lines)
