-- What a storage group that a step touches offers before and after it. No public contract names anything
-- of this file.
use Rattle.std.specs.Prelude.{ℕ, ◌⊎◌, List}
use Rattle.std.specs.BTreeSet.{BTreeSet}
use Rattle.fab_mapping_base.specs.Groups.{StorageGroupRows}
use Rattle.fab_reach_base.specs.Records.{Records}
use Rattle.fab_reach_index.specs.Indexes.{IsHeldBy}
use Rattle.fab_reach_moves.specs.Inner.Listing.{IsHostOf}
use Rattle.fab_reach_books.specs.Inner.Moving.{Offers, StillOffers}
use Rattle.fab_reach_books.specs.Inner.Sets.{HasPortIn}

-- it serves the port's holder
abbrev pub IsPortOf : Records → List ℕ → ℕ → Type 0
IsPortOf v n p = (h : List ℕ) × IsHostOf v n h × IsHeldBy v h p

-- a storage group of this name offers the pair
abbrev pub IsOfferedBy : Records → List ℕ → ℕ → ℕ → Type 0
IsOfferedBy w n p q = (g : StorageGroupRows) × Offers w n p q g

-- just the pairs of these ports and targets are offered by it
abbrev pub AreOffered : Records → List ℕ → BTreeSet ℕ → BTreeSet ℕ → Type 0
AreOffered w n ports targets = (p q : ℕ) → (HasPortIn ports p × HasPortIn targets q → IsOfferedBy w n p q) × (IsOfferedBy w n p q → HasPortIn ports p × HasPortIn targets q)

-- it offers the pair in one world, and not so in the other
abbrev pub IsOfferedOtherwise : Records → Records → List ℕ → ℕ → ℕ → Type 0
IsOfferedOtherwise w v n p q = (g : StorageGroupRows) × ((Offers w n p q g × ¬ StillOffers v n p q g) ⊎ (Offers v n p q g × ¬ StillOffers w n p q g))
