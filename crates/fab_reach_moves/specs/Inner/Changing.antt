-- What the active rows of a difference change. No public contract names anything of this file.
use Rattle.std.specs.Prelude.{ℕ, ◌≡◌, ◌⊎◌, List, Contains, Bool, true, false, IsTrue}
use Rattle.std.specs.declared.cmp.Ordering.{Ordering}
use Rattle.std.specs.Ordering.{then_cmp, on}
use Rattle.std.specs.BTreeSet.{BTreeSet, contains}
use Rattle.fab_names.specs.Orders.{member_cmp}
use Rattle.fab_names.specs.declared.member.Member.{Member}
use Rattle.fab_inventory.specs.declared.port.Port.{Port}
use Rattle.fab_zoning_rows.specs.Holding.{Matches, IsLoggedInAt, Holds}
use Rattle.fab_reach_base.specs.Records.{Records, zoning_at}
use Rattle.fab_reach_base.specs.Reach.{IsPort}
use Rattle.fab_reach_index.specs.Indexes.{Zone, zone_cmp}
use Rattle.fab_reach_books.specs.declared.row.Row.{Row}
use Rattle.fab_reach_books.specs.declared.row.Row.TheVariants as row

-- an active row: its zone, and its member
abbrev pub Key : Type 0
Key = Zone × Member

abbrev pub key_cmp : Key → Key → Ordering
key_cmp = then_cmp (on (λ k. k.0) zone_cmp) (on (λ k. k.1) member_cmp)

-- the set has the active row
abbrev pub HasKey : BTreeSet Key → Key → Type 0
HasKey s k = IsTrue (contains key_cmp s k)

abbrev pub active_of : Key → Row
active_of k = row.Active (record { fabric = k.0.0; zone = k.0.1; member = k.1 })

-- just the active rows among these
abbrev pub AreActive : List Row → BTreeSet Key → Type 0
AreActive rows s = (k : Key) → (HasKey s k → Contains rows (active_of k)) × (Contains rows (active_of k) → HasKey s k)

-- the row says a port of this name
abbrev pub SaysPort : Row → ℕ → Type 0
SaysPort r name = (p : Port) × (r ≡ row.Port p) × (p.name ≡ name)

-- some of the rows does
abbrev pub SaysPortAmong : List Row → ℕ → Type 0
SaysPortAmong rows name = (r : Row) × Contains rows r × SaysPort r name

-- the world before, or the one after
abbrev pub world_at : Bool → Records → Records → Records
world_at true w v = w
world_at false w v = v

-- the active row has the port in a zone that has it not in the other world
abbrev pub IsChangedBy : Records → Key → Port → Type 0
IsChangedBy other k port = IsLoggedInAt k.0.0 port × Matches k.1 port × ¬ Holds (zoning_at other.config k.0.0).rows port k.0.1

-- the same of a known port of this name
abbrev pub IsPortChangedBy : Records → Records → Key → ℕ → Type 0
IsPortChangedBy w other k name = (port : Port) × IsPort w name port × IsChangedBy other k port

-- the same by some row of the set
abbrev pub IsPortChanged : Records → Records → BTreeSet Key → ℕ → Type 0
IsPortChanged w other s name = (k : Key) × HasKey s k × IsPortChangedBy w other k name

-- an active row that is gone had the port in a zone that has it no more, or one that is come has it in
-- one that had it not
abbrev pub IsRezoned : Records → Records → List Row → List Row → ℕ → Type 0
IsRezoned w v gone come name = ((k : Key) × Contains gone (active_of k) × IsPortChangedBy w v k name) ⊎ ((k : Key) × Contains come (active_of k) × IsPortChangedBy w w k name)
