-- Which pairs a step asks about: of the affected ones those that an exposed storage group offers, and
-- whose paths this can move. No public contract names anything of this file.
use Rattle.std.specs.Prelude.{ℕ, ◌≡◌, ◌⊎◌, List, true}
use Rattle.fab_names.specs.declared.fabric.Fabric.{Fabric}
use Rattle.fab_mapping_base.specs.Groups.{StorageGroupRows}
use Rattle.fab_reach_base.specs.Records.{Records}
use Rattle.fab_reach_books.specs.Affected.{HasSameRow, HasSameZones, HasSameFlag, IsInZone, AreAt, HasPair}

-- the storage group of this name offers the pair: it has it, and is exposed
abbrev pub Offers : Records → List ℕ → ℕ → ℕ → StorageGroupRows → Type 0
Offers w n p q g = HasPair w n g p q × (g.exposed ≡ true)

-- some exposed storage group offers the pair
abbrev pub IsOffered : Records → ℕ → ℕ → Type 0
IsOffered w p q = (n : List ℕ) × (g : StorageGroupRows) × Offers w n p q g

-- the port is in no zone of the fabric
abbrev pub IsInNone : Records → Fabric → ℕ → Type 0
IsInNone w f p = (z : List ℕ) → ¬ IsInZone w f z p

-- the storage group of this name in the other world offers the pair with the same units
abbrev pub StillOffers : Records → List ℕ → ℕ → ℕ → StorageGroupRows → Type 0
StillOffers v n p q g = (h : StorageGroupRows) × Offers v n p q h × (h.units ≡ g.units)

-- nothing that offers the pair in w ceases to offer it in v
abbrev pub KeepsOffers : Records → Records → ℕ → ℕ → Type 0
KeepsOffers w v p q = (n : List ℕ) (g : StorageGroupRows) → Offers w n p q g → ¬ (¬ StillOffers v n p q g)

-- nothing differs that moves a path of the pair
pub record Stays (w v : Records) (p q : ℕ) : Type 0 where
  pub row_from : HasSameRow w v p
  pub row_to : HasSameRow w v q
  pub zones_from : HasSameZones w v p
  pub zones_to : HasSameZones w v q
  pub flags : (f : Fabric) → AreAt w f p q → IsInNone w f p → IsInNone w f q → HasSameFlag w v f
  pub offers : KeepsOffers w v p q
  pub no_new_offers : KeepsOffers v w p q

-- the pair is one to ask about
abbrev pub IsMoving : Records → Records → ℕ → ℕ → Type 0
IsMoving w v p q = (IsOffered w p q ⊎ IsOffered v p q) × ¬ Stays w v p q
