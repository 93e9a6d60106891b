-- Which zonings of a fabric are sound: what every fabric has that was changed by steps alone.
use Rattle.std.specs.Prelude.{ℕ, ◌≡◌, ◌<◌, ◌≤◌, List, Option, Some, IsSome, true}
use Rattle.std.specs.declared.cmp.Ordering.{Ordering}
use Rattle.std.specs.FinMap as map
use Rattle.std.specs.FinSet as set
use Rattle.fab_names.specs.Orders.{name_cmp, member_cmp}
use Rattle.fab_names.specs.declared.member.Member.{Member}
use Rattle.fab_names.specs.declared.member.Member.TheVariants as member
use Rattle.fab_zoning_rows.specs.fab_lemmas.MapsOfSets.{has}
use Rattle.fab_zoning_rows.specs.Limits.{most_rows}
use Rattle.fab_zoning.specs.Limits.{most_aliases, most_zones, most_sets, most_members}
use Rattle.fab_zoning_rows.specs.Rows.{Row, Rows, IsPlain}
use Rattle.fab_zoning.specs.Zonings.{FabricZoning, NamedSets}

-- each set has 1 to 255 items (`most_members`)
abbrev pub AreListings : {K : Type 0} {R : K → K → Ordering} → NamedSets R → Type 0
AreListings {K} {R} m = (n : List ℕ) (s : set.FinSet R) → map.get m n ≡ Some s → (0 < set.len s) × (set.len s ≤ most_members)

-- sound aliases, zones and zone sets: no alias holds an alias, nothing is empty or too large, what is
-- named is there, and no limit is passed
pub record AreSoundDefinitions (aliases zones : NamedSets member_cmp) (sets : NamedSets name_cmp) : Type 0 where
  pub plain_aliases : (n : List ℕ) (m : Member) → has aliases n m ≡ true → IsPlain m
  pub listed_aliases : AreListings aliases
  pub listed_zones : AreListings zones
  pub listed_sets : AreListings sets
  pub known_aliases : (z a : List ℕ) → has zones z (member.Alias a) ≡ true → map.contains_key aliases a ≡ true
  pub known_zones : (s z : List ℕ) → has sets s z ≡ true → map.contains_key zones z ≡ true
  pub few_aliases : map.len aliases ≤ most_aliases
  pub few_zones : map.len zones ≤ most_zones
  pub few_sets : map.len sets ≤ most_sets

-- a sound active set: there are rows exactly where there is a name, no member is an alias, and no
-- limit is passed
pub record IsSoundActive (active : Option (List ℕ)) (rows : Rows) : Type 0 where
  pub has_rows : IsSome active → 0 < set.len rows
  pub has_name : 0 < set.len rows → IsSome active
  pub plain_rows : (r : Row) → set.contains rows r ≡ true → IsPlain r.1
  pub few_rows : set.len rows ≤ most_rows

-- a sound zoning
pub record IsSound (v : FabricZoning) : Type 0 where
  pub definitions : AreSoundDefinitions v.aliases v.zones v.sets
  pub active : IsSoundActive v.active v.rows
