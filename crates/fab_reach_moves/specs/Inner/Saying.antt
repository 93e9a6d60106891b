-- What rows say under keys. No public contract names anything of this file.
use Rattle.std.specs.Prelude.{ℕ, ◌≡◌, List, Contains, MatchOption}
use Rattle.std.specs.declared.cmp.Ordering.{Ordering}
use Rattle.std.specs.BTreeMap.{BTreeMap, get}
use Rattle.fab_inventory.specs.declared.port.Port.{Port}
use Rattle.fab_reach_books.specs.declared.row.Row.{Row}
use Rattle.fab_reach_books.specs.declared.row.Row.TheVariants as row
use Rattle.fab_reach_index.specs.Indexes.{MemberAt}
use Rattle.fab_reach_moves.specs.Inner.Changing.{active_of}
use Rattle.fab_reach_moves.specs.Inner.Listing.{name_row, target_row, unit_row}
use Rattle.fab_reach_moves.specs.declared.lists_after.Listed.TheVariants.{HostGroups, Hosts}

-- the row says the port of this name
abbrev pub SaysPortAt : Row → ℕ → Port → Type 0
SaysPortAt r q p = (r ≡ row.Port p) × (p.name ≡ q)

-- the row says the host of the host group
abbrev pub SaysHost : Row → List ℕ → List ℕ → Type 0
SaysHost r k h = r ≡ name_row (Hosts k) h

-- the row says the host group of the storage group
abbrev pub SaysHostGroup : Row → List ℕ → List ℕ → Type 0
SaysHostGroup r n k = r ≡ name_row (HostGroups n) k

-- the same, by the host group
abbrev pub SaysServing : Row → List ℕ → List ℕ → Type 0
SaysServing r k n = r ≡ name_row (HostGroups n) k

-- the row says the target of the storage group
abbrev pub SaysTarget : Row → List ℕ → ℕ → Type 0
SaysTarget r n q = r ≡ target_row n q

-- the row says a volume of the storage group at the unit
abbrev pub SaysUnitAt : Row → List ℕ → ℕ → Type 0
SaysUnitAt r n u = (x : List ℕ) × (r ≡ unit_row n u x)

-- the row says that the active zone has the member, in the fabric
abbrev pub SaysZoned : Row → MemberAt → List ℕ → Type 0
SaysZoned r m z = r ≡ active_of ((m.0, z), m.1)

-- ---- among several rows

-- some of the rows says the item under the key
abbrev pub IsSaid : {K X : Type 0} → (Row → K → X → Type 0) → List Row → K → X → Type 0
IsSaid says rows k x = (r : Row) × Contains rows r × says r k x

-- under each key the map has what some of the rows says there, if any says something
abbrev pub AreSaid : {K X : Type 0} → (K → K → Ordering) → (Row → K → X → Type 0) → List Row → BTreeMap K X → Type 0
AreSaid {K} {X} O says rows t = (k : K) → MatchOption (get O t k) ((x : X) → ¬ IsSaid says rows k x) (IsSaid says rows k)

-- a row says one thing, under one key
abbrev pub IsOnce : {K X : Type 0} → (Row → K → X → Type 0) → Type 0
IsOnce {K} {X} says = (r : Row) (j k : K) (x y : X) → says r j x → says r k y → (j ≡ k) × (x ≡ y)
