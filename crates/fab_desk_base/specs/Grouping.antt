-- Rows, gathered zone by zone: steps on the way.
use Rattle.std.specs.Prelude.{ℕ, ◌≡◌, ◌-◌, ◌⊎◌, List, [], ◌∷◌, ◌++◌, map, length, slice_get, Some}
use Rattle.std.specs.List.{flat_map, AllByRecursion}
use Rattle.std.specs.List.Sorted.{IsStrictlySortedBy}
use Rattle.fab_reach_base.specs.fab_names.Orders.{name_cmp}
use Rattle.fab_reach_base.specs.fab_names.declared.member.Member.{Member}
use Rattle.fab_reach_base.specs.fab_zoning_rows.Rows.{Row}
use Rattle.fab_desk_base.specs.declared.reply.ZoneMembers.{ZoneMembers}

-- the rows of a zone, and of zones
abbrev pub rows_of_zone : {A : Type 0} → ZoneMembers A → List Row
rows_of_zone z = map (λ m. (z.name, m)) z.members.items

abbrev pub rows_in : {A : Type 0} → List (ZoneMembers A) → List Row
rows_in zones = flat_map rows_of_zone zones

-- the names of zones
abbrev pub names_of : {A : Type 0} → List (ZoneMembers A) → List (List ℕ)
names_of zones = map (λ z. z.name) zones

-- the zone has a member
abbrev pub HasSome : {A : Type 0} → ZoneMembers A → Type 0
HasSome z = (m : Member) × (ms : List Member) × (z.members.items ≡ m ∷ ms)

-- the last zone has the name
abbrev pub EndsIn : {A : Type 0} → List (ZoneMembers A) → List ℕ → Type 0
EndsIn {A} zones n = (z : ZoneMembers A) × (slice_get zones (length zones - 1) ≡ Some z) × (z.name ≡ n)

-- the zone was taken out, or it is a new one where the last has another name
abbrev pub IsOpened : {A : Type 0} → List ℕ → List (ZoneMembers A) → List (ZoneMembers A) → ZoneMembers A → Type 0
IsOpened n old new z = (z.name ≡ n) × ((old ≡ new ++ z ∷ []) ⊎ ((new ≡ old) × (z.members.items ≡ []) × ¬ EndsIn old n))

-- the row was added to the last zone, or as a zone of its own where the last has another name
abbrev pub IsAdded : {A : Type 0} → Row → List (ZoneMembers A) → List (ZoneMembers A) → Type 0
IsAdded {A} r old new = (before : List (ZoneMembers A)) × (z y : ZoneMembers A) × IsOpened r.0 old before z × (new ≡ before ++ y ∷ []) × (y.name ≡ r.0) × (y.members.items ≡ z.members.items ++ r.1 ∷ [])

-- just these rows, zone by zone, in the order of their names, each with a member
pub record IsGrouped {A : Type 0} (rows : List Row) (zones : List (ZoneMembers A)) : Type 0 where
  pub rows_are : rows_in zones ≡ rows
  pub sorted : IsStrictlySortedBy name_cmp (names_of zones)
  pub some : AllByRecursion HasSome zones
