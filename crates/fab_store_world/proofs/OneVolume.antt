-- Inventories that are one but for a volume differ in its row alone.
use Rattle.std.proofs.Common.{◌≡◌, ℕ, List, [], ◌∷◌, ◌++◌, Contains, ◌⊎◌, inl, inr, Option, None, Some, Bool, true, false, cond, refl, sym, ap, ◌∙◌, subst, arith}
use mathlib.Core.Bool.{true≢false}
use Rattle.std.specs.declared.cmp.Ordering.{Ordering}
use Rattle.std.specs.Ordering.{eq_by_cmp}
use Rattle.std.specs.FinMap as map
use Rattle.std.specs.Option.{option_map}
use Rattle.std.specs.List.Sorted.{IsStrictlySortedBy}
use Rattle.std.proofs.lemmas.List.Elements.{Contains-push_cases, Contains-push}
use Rattle.fab_reach_base.specs.fab_lemmas.Lists.{IsListOf}
use Rattle.fab_reach_base.proofs.fab_lemmas.SeenSets.{tie_decides}
use Rattle.fab_reach_base.specs.fab_names.Orders.{name_cmp}
use Rattle.fab_reach_base.proofs.fab_names.OrderLaws.{name_total, name_exact}
use Rattle.fab_reach_base.specs.fab_inventory.declared.holder.Volume.{Volume}
use Rattle.fab_reach_base.specs.fab_inventory.declared.port.Port.{Port}
use Rattle.fab_reach_base.specs.fab_inventory.Inventories.{InventoryRows}
use Rattle.fab_world.specs.fab_store_rows.declared.inventory_row.AddressRow.{AddressRow}
use Rattle.fab_world.specs.fab_store_rows.declared.inventory_row.HolderRow.{HolderRow}
use Rattle.fab_world.specs.fab_store_rows.declared.inventory_row.InventoryRow.TheVariants as row
use Rattle.fab_world.specs.fab_store_rows.declared.inventory_row.PortEntry.{PortEntry}
use Rattle.fab_world.specs.fab_store_rows.declared.inventory_row.VolumeRow.{VolumeRow}
use Rattle.fab_world.specs.fab_store_rows.Standing.{IsKnown, volume_of, holder_of, entry_at, address_at}
use Rattle.fab_reach_base.specs.fab_inventory.Ports.{port_at}
use Rattle.fab_store_world.specs.Inventories.{AreOneButVolume, IsKnownOnlyIn, volume_order, volume_row}
use Rattle.fab_store_world.specs.InventoryGathering.{IsPushed}
use Rattle.fab_store_world.proofs.NamedRows.{sorted_none}

-- a name is another's or not
pub same_or : (a b : List ℕ) → (a ≡ b) ⊎ ¬ (a ≡ b)
same_or a b = by (eq_by_cmp name_cmp a b) refl
  where
    by : (t : Bool) → eq_by_cmp name_cmp a b ≡ t → (a ≡ b) ⊎ ¬ (a ≡ b)
    by true h = inl ((tie_decides name_total name_exact a b).0 h)
    by false h = inr (λ e. absurd (true≢false (sym ((tie_decides name_total name_exact a b).1 e) ∙ h)))

-- nothing is listed where nothing is there
pub empty_list : {R : Type 0} (N : R → R → Ordering) (P : R → Type 0) (xs : List R) → xs ≡ [] → ((r : R) → ¬ P r) → IsListOf N P xs
empty_list N P xs none no_row = subst (IsListOf N P) (sym none) (record { sorted = sorted_none N; sound = λ r c. absurd (omega (arith, c.1)); complete = λ r h. absurd (no_row r h) })

sorted_one : (k : VolumeRow) → IsStrictlySortedBy volume_order (k ∷ [])
unfolding IsStrictlySortedBy
sorted_one k = (tt, tt)

-- and the other way round
pub one_back : (v w : InventoryRows) (n : List ℕ) → AreOneButVolume v w n → AreOneButVolume w v n
one_back v w n one = record { ports = sym one.ports; holders = sym one.holders; others = λ m other. sym (one.others m other) }

module _ (v w : InventoryRows) (n : List ℕ) (one : AreOneButVolume v w n) where
  pub no_port : (r : Port) → ¬ IsKnownOnlyIn v w (row.Port r)
  no_port r h = h.not_there (subst (λ ports. port_at ports r.name ≡ Some r) one.ports h.there)

  pub no_entry : (r : PortEntry) → ¬ IsKnownOnlyIn v w (row.Entry r)
  no_entry r h = h.not_there (subst (λ ports. entry_at ports r.name ≡ Some r) one.ports h.there)

  pub no_address : (r : AddressRow) → ¬ IsKnownOnlyIn v w (row.Address r)
  no_address r h = h.not_there (subst (λ ports. address_at ports r.port ≡ Some r.address) one.ports h.there)

  pub no_holder : (r : HolderRow) → ¬ IsKnownOnlyIn v w (row.Holder r)
  no_holder r h = h.not_there (subst (λ holders. map.get holders r.name ≡ Some (holder_of r)) one.holders h.there)

  -- a volume of another name stands in both or in none
  here : (r : VolumeRow) → IsKnownOnlyIn v w (row.Volume r) → r.name ≡ n
  here r h = elim (same_or r.name n) [
    | inl is ↦ is
    | inr other ↦ absurd (h.not_there (sym (one.others r.name other) ∙ h.there))
  ]

  -- and the one of this name is the row that is found
  found_row : (r : VolumeRow) → IsKnownOnlyIn v w (row.Volume r) → option_map (volume_row n) (map.get v.volumes n) ≡ Some r
  found_row r h = subst (λ m. option_map (volume_row m) (map.get v.volumes m) ≡ Some r) (here r h) (ap (option_map (volume_row r.name)) h.there)

  pub at_most_one : (found : Option VolumeRow) (old new : List VolumeRow) → found ≡ option_map (volume_row n) (map.get v.volumes n) → old ≡ [] → IsPushed (λ r. ¬ IsKnown w (row.Volume r)) found old new
      → IsListOf volume_order (λ r. IsKnownOnlyIn v w (row.Volume r)) new
  at_most_one None old new is none pushed = empty_list volume_order (λ r. IsKnownOnlyIn v w (row.Volume r)) new (pushed ∙ none) (λ r h. let no : ◌≡◌ {A = Option VolumeRow} None (Some r) = is ∙ found_row r h in absurd cc)
  at_most_one (Some k) old new is none pushed = elim pushed [
    | inl p ↦ subst (IsListOf volume_order (λ r. IsKnownOnlyIn v w (row.Volume r))) (sym (p.1 ∙ ap (λ xs. xs ++ k ∷ []) none)) (record {
      sorted = sorted_one k;
      sound = λ r c. elim (Contains-push_cases [] k r c) [ inl z ↦ absurd (omega (arith, z.1)) | inr same ↦ subst (λ x. IsKnownOnlyIn v w (row.Volume x)) same (record { there = there; not_there = p.0 }) ];
      complete = λ r h. subst (Contains (k ∷ [])) (the_row r h) (Contains-push [] k);
    })
    | inr p ↦ empty_list volume_order (λ r. IsKnownOnlyIn v w (row.Volume r)) new (p.1 ∙ none) (λ r h. p.0 (subst (λ x. ¬ IsKnown w (row.Volume x)) (sym (the_row r h)) h.not_there))
  ]
    where
      the_row : (r : VolumeRow) → IsKnownOnlyIn v w (row.Volume r) → k ≡ r
      the_row r h = let both : ◌≡◌ {A = Option VolumeRow} (Some k) (Some r) = is ∙ found_row r h in cc

      there : IsKnown v (row.Volume k)
      there = by (map.get v.volumes n) refl is
        where
          by : (o : Option Volume) → map.get v.volumes n ≡ o → Some k ≡ option_map (volume_row n) o → IsKnown v (row.Volume k)
          by None at e = absurd cc
          by (Some x) at e = subst (λ (y : VolumeRow). map.get v.volumes y.name ≡ Some (volume_of y)) (let same : volume_row n x ≡ k = cc in same) at

-- a name that is not another's is told apart
pub apart : (m n : List ℕ) → ¬ (m ≡ n) → eq_by_cmp name_cmp m n ≡ false
apart m n other = by (eq_by_cmp name_cmp m n) refl
  where
    by : (b : Bool) → eq_by_cmp name_cmp m n ≡ b → eq_by_cmp name_cmp m n ≡ false
    by true h = absurd (other ((tie_decides name_total name_exact m n).0 h))
    by false h = h

-- a volume that is put, or dropped, leaves all else as it was
pub one_but_put : (v : InventoryRows) (n : List ℕ) (x : Volume) → AreOneButVolume v (record v { volumes = map.insert v.volumes n x }) n
one_but_put v n x = record {
  ports = refl;
  holders = refl;
  others = λ m other. sym (map.get-insert name_total v.volumes n x m ∙ ap (λ b. cond b (Some x) (map.get v.volumes m)) (apart m n other));
}

pub one_but_dropped : (v : InventoryRows) (n : List ℕ) → AreOneButVolume v (record v { volumes = map.remove v.volumes n }) n
one_but_dropped v n = record {
  ports = refl;
  holders = refl;
  others = λ m other. sym (map.get-remove name_total v.volumes n m ∙ ap (λ b. cond b None (map.get v.volumes m)) (apart m n other));
}
