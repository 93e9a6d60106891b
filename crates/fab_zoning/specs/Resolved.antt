-- The rows of a zone set: what its activation copies.
use Rattle.std.specs.Prelude.{ℕ, ◌≡◌, ◌<◌, ◌⊎◌, ◌↔◌, List, Bool, true}
use Rattle.std.specs.FinSet as set
use Rattle.fab_names.specs.declared.member.Member.{Member}
use Rattle.fab_names.specs.declared.member.Member.TheVariants as member
use Rattle.fab_zoning_rows.specs.fab_lemmas.MapsOfSets.{has}
use Rattle.fab_zoning_rows.specs.Rows.{Row, Rows, IsPlain}
use Rattle.fab_zoning.specs.Zonings.{FabricZoning}

-- the same from tests: which zones a set has, which members a zone, and which an alias
pub record IsResolvedBy (sets : List ℕ → List ℕ → Bool) (zones aliases : List ℕ → Member → Bool) (s : List ℕ) (r : Row) : Type 0 where
  pub zone : sets s r.0 ≡ true
  pub plain : IsPlain r.1
  pub member : (zones r.0 r.1 ≡ true) ⊎ ((a : List ℕ) × (zones r.0 (member.Alias a) ≡ true) × (aliases a r.1 ≡ true))

-- the row of a zone and a member: the zone is in the set, and the member, which is no alias, is a
-- member of the zone, or of an alias that the zone names
abbrev pub IsResolved : FabricZoning → List ℕ → Row → Type 0
IsResolved v s r = IsResolvedBy (has v.sets) (has v.zones) (has v.aliases) s r

-- the rows are all those of the set
abbrev pub AreResolved : FabricZoning → List ℕ → Rows → Type 0
AreResolved v s rows = (r : Row) → (set.contains rows r ≡ true) ↔ IsResolved v s r

-- more than n rows have P
abbrev pub MoreThan : ℕ → (Row → Type 0) → Type 0
MoreThan n P = (some : Rows) × (n < set.len some) × ((r : Row) → set.contains some r ≡ true → P r)
