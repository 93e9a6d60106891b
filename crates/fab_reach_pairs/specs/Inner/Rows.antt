-- Paths by their pairs, and zones by their ports. No public contract names anything of this file.
use Rattle.std.specs.Prelude.{ℕ, ◌≡◌, ◌⊎◌, List, Contains}
use Rattle.std.specs.Ordering.{nat_cmp}
use Rattle.std.specs.BTreeMap.{BTreeMap}
use Rattle.std.specs.BTreeSet.{BTreeSet}
use Rattle.fab_zoning.specs.Edits.{IsIn}
use Rattle.fab_reach_base.specs.Records.{Records}
use Rattle.fab_reach_base.specs.declared.path.Path.{Path}
use Rattle.fab_reach_books.specs.Pairs.{Pair}
use Rattle.fab_reach_index.specs.Indexes.{Zone, zone_cmp, PortInZone}

-- the path is one of these, and the pair is its own
abbrev pub IsRowIn : List Path → Pair → Path → Type 0
IsRowIn paths e x = Contains paths x × (e ≡ (x.initiator, x.target))

-- a relation goes from P to N: what is gone leaves it, and what is come is in it
pub record Goes {Q K : Type 0} (P G C N : Q → K → Type 0) : Type 0 where
  pub from : (q : Q) (k : K) → N q k → (P q k × ¬ G q k) ⊎ C q k
  pub stays : (q : Q) (k : K) → P q k → ¬ G q k → N q k
  pub comes : (q : Q) (k : K) → C q k → N q k

-- the ports are in the zones of w but for those that are gone, and in those that are come
abbrev pub AreZonesLeft : Records → Records → BTreeMap ℕ (BTreeSet Zone) → BTreeMap ℕ (BTreeSet Zone) → Type 0
AreZonesLeft w v gone come = Goes (PortInZone w) (λ p z. IsIn nat_cmp zone_cmp gone (p, z)) (λ p z. IsIn nat_cmp zone_cmp come (p, z)) (PortInZone v)
