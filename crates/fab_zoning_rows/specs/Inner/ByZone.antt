-- For the private loops that list the active rows by zone. No public contract names what stands here.
use Rattle.std.specs.Prelude.{ℕ, ◌≡◌, ◌||◌, List, map}
use Rattle.std.specs.Ordering.{eq_by_cmp}
use Rattle.std.specs.List.{list_any}
use Rattle.std.specs.BTreeSet.{BTreeSet, contains}
use Rattle.fab_inventory.specs.fab_names.declared.member.Member.{Member}
use Rattle.fab_zoning_rows.specs.Rows.{Row, row_cmp}

-- a row of the member for each zone
abbrev pub rows_of_member : Member → List (List ℕ) → List Row
rows_of_member m zones = map (λ zone. (zone, m)) zones

-- t has the rows of s and the listed ones, and no others
abbrev pub AddsListed : List Row → BTreeSet Row → BTreeSet Row → Type 0
AddsListed listed s t = (r : Row) → contains row_cmp t r ≡ (contains row_cmp s r || list_any (eq_by_cmp row_cmp r) listed)
