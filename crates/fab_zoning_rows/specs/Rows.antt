-- The rows of an active zone set: a zone, and a member of it that is no alias.
use Rattle.std.specs.Prelude.{ℕ, ◌≡◌, ◌≢◌, List, true}
use Rattle.std.specs.declared.cmp.Ordering.{Ordering}
use Rattle.std.specs.Ordering.{then_cmp, on}
use Rattle.std.specs.Coded.{Coded, coded×}
use Rattle.std.specs.FinSet.{FinSet, contains}
use Rattle.fab_inventory.specs.fab_names.declared.member.Member.{Member}
use Rattle.fab_inventory.specs.fab_names.declared.member.Member.TheVariants as member
use Rattle.fab_inventory.specs.fab_names.Orders.{name_cmp, member_cmp}
use Rattle.fab_inventory.specs.fab_names.Codes.{name_code, member_code}

-- the name of a zone, and a member of it
abbrev pub Row : Type 0
Row = List ℕ × Member

-- rows by zone, and then by member
abbrev pub row_cmp : Row → Row → Ordering
row_cmp = then_cmp (on (λ r. r.0) name_cmp) (on (λ r. r.1) member_cmp)

abbrev pub row_code : Coded Row
row_code = coded× name_code member_code

-- a finite set of rows
abbrev pub Rows : Type 0
Rows = FinSet row_cmp

-- the row is one of these
abbrev pub IsRowOf : Rows → Row → Type 0
IsRowOf rows r = contains rows r ≡ true

-- the member is no alias
abbrev pub IsPlain : Member → Type 0
IsPlain m = (a : List ℕ) → m ≢ member.Alias a
