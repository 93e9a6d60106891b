-- For the private loops of an activation: rows that are added to others, up to the limit. No public
-- contract names what stands here.
use Rattle.std.specs.Prelude.{ℕ, ◌≡◌, ◌<◌, ◌≤◌, ◌⊎◌, List, true}
use Rattle.std.specs.BTreeMap.{BTreeMap}
use Rattle.std.specs.BTreeSet.{BTreeSet}
use Rattle.std.specs.FinSet as set
use Rattle.fab_names.specs.declared.member.Member.{Member}
use Rattle.fab_names.specs.declared.member.Member.TheVariants as member
use Rattle.fab_names.specs.Orders.{name_cmp, member_cmp}
use Rattle.fab_zoning.specs.declared.fault.ZoningFault.{ZoningFault}
use Rattle.fab_zoning.specs.declared.fault.ZoningFault.TheVariants.{Limit, Memory}
use Rattle.fab_zoning.specs.declared.fault.ZoningLimit.TheVariants.{Active}
use Rattle.fab_zoning_rows.specs.fab_lemmas.MapsOfSets.{tree_has}
use Rattle.fab_zoning_rows.specs.fab_lemmas.Adding.{Adds, AddsOnly}
use Rattle.fab_zoning_rows.specs.Limits.{most_rows}
use Rattle.fab_zoning.specs.Resolved.{MoreThan}
use Rattle.fab_zoning_rows.specs.Rows.{Row, Rows, IsPlain}

-- all were added, and the rows are within the limit
abbrev pub AddsAll : (Row → Type 0) → Rows → Rows → Type 0
AddsAll P s t = Adds P (set.contains s) (set.contains t) × (set.len t ≤ most_rows)

-- rows past the limit, or want of memory
abbrev pub IsRowsFault : Rows → ZoningFault → Type 0
IsRowsFault t (Limit Active) = most_rows < set.len t
IsRowsFault t Memory = Unit {0}
IsRowsFault t _ = ⊥

-- only some were added, and this is why
abbrev pub StopsAt : (Row → Type 0) → Rows → Rows → ZoningFault → Type 0
StopsAt P s t fault = AddsOnly P (set.contains s) (set.contains t) × IsRowsFault t fault

-- more rows with P than the limit, or want of memory
abbrev pub IsResolvedFault : (Row → Type 0) → ZoningFault → Type 0
IsResolvedFault P (Limit Active) = MoreThan most_rows P
IsResolvedFault P Memory = Unit {0}
IsResolvedFault P _ = ⊥

-- the row of a member that is no alias
abbrev pub PlainRow : List ℕ → Member → Row → Type 0
PlainRow zone m r = (r ≡ (zone, m)) × IsPlain m

-- a row of a member of the alias that a member names
abbrev pub AliasRow : BTreeMap (List ℕ) (BTreeSet Member) → List ℕ → Member → Row → Type 0
AliasRow aliases zone m r = (a : List ℕ) × (m ≡ member.Alias a) × (n : Member) × (tree_has name_cmp member_cmp aliases a n ≡ true) × PlainRow zone n r

-- a row of a zone
abbrev pub ZoneRow : BTreeMap (List ℕ) (BTreeSet Member) → BTreeMap (List ℕ) (BTreeSet Member) → List ℕ → Row → Type 0
ZoneRow aliases zones z r = (m : Member) × (tree_has name_cmp member_cmp zones z m ≡ true) × (PlainRow z m r ⊎ AliasRow aliases z m r)
