-- How the pairs to ask about are found: what the private steps say of themselves. No public contract
-- names anything of this file.
use Rattle.std.specs.Prelude.{ℕ, ◌≡◌, ◌⊎◌, List, Bool, true, false}
use Rattle.std.specs.BTreeSet.{BTreeSet, contains}
use Rattle.std.specs.Ordering.{nat_cmp}
use Rattle.fab_names.specs.Orders.{name_cmp}
use Rattle.fab_names.specs.declared.fabric.Fabric.{Fabric}
use Rattle.fab_mapping_base.specs.Groups.{StorageGroupRows}
use Rattle.fab_reach_base.specs.Records.{Records}
use Rattle.fab_reach_books.specs.Affected.{AreAt}
use Rattle.fab_reach_books.specs.Inner.Moving.{Offers, IsOffered, IsInNone, StillOffers}

module _ (w v : Records) (moved : BTreeSet ℕ) (touched : BTreeSet (List ℕ)) (flagged : Fabric → Bool) where
  -- an initiator that is not as it was, with the targets of the storage groups that served its host before,
  -- and of those that are kept and serve its host after
  abbrev pub ByInitiator : ℕ → ℕ → Type 0
  ByInitiator p q = (contains nat_cmp moved p ≡ true) × (IsOffered w p q ⊎ ((n : List ℕ) × (g : StorageGroupRows) × (contains name_cmp touched n ≡ false) × Offers v n p q g))

  -- a target that is not as it was, with the initiators to which it was offered
  abbrev pub ByTarget : ℕ → ℕ → Type 0
  ByTarget p q = (contains nat_cmp moved q ≡ true) × IsOffered w p q

  -- two ports of the default zone
  abbrev pub ByFlag : ℕ → ℕ → Type 0
  ByFlag p q = (f : Fabric) × (flagged f ≡ true) × AreAt w f p q × IsInNone w f p × IsInNone w f q × IsOffered w p q

  -- a pair that a touched storage group offers in one world, and not so in the other
  abbrev pub ByGroup : ℕ → ℕ → Type 0
  ByGroup p q =
      (n : List ℕ) × (g : StorageGroupRows) × (contains name_cmp touched n ≡ true) × ((Offers w n p q g × ¬ StillOffers v n p q g) ⊎ (Offers v n p q g × ¬ StillOffers w n p q g))

  abbrev pub IsFound : ℕ → ℕ → Type 0
  IsFound p q = ByInitiator p q ⊎ (ByTarget p q ⊎ (ByFlag p q ⊎ ByGroup p q))
