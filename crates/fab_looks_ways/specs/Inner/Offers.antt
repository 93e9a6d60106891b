-- Storage groups and logical unit numbers that are gathered.
use Rattle.std.specs.Prelude.{ℕ, List, IsTrue}
use Rattle.std.specs.Ordering.{nat_cmp}
use Rattle.std.specs.BTreeSet.{BTreeSet, contains}
use Rattle.fab_desk_base.specs.Tenants.{Has}
use Rattle.fab_reach_base.specs.fab_mapping.Mappings.{MappingRows}
use Rattle.fab_looks_ways.specs.Offers.{IsOffer}

-- the set has the logical unit number
abbrev pub HasUnit : BTreeSet ℕ → ℕ → Type 0
HasUnit s u = IsTrue (contains nat_cmp s u)

-- the name is one of these, and its storage group is exposed and serves the host
abbrev pub IsOfferOf : MappingRows → BTreeSet (List ℕ) → List ℕ → List ℕ → Type 0
IsOfferOf m names host n = Has names n × IsOffer m host n
