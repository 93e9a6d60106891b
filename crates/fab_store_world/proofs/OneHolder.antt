-- Inventories that are one but for ports and a holder differ in those rows alone.
use Rattle.std.proofs.Common.{◌≡◌, ℕ, List, [], ◌∷◌, ◌++◌, Contains, ◌⊎◌, inl, inr, Option, None, Some, cond, refl, sym, ap, ◌∙◌, subst, arith}
use Rattle.std.specs.FinMap as map
use Rattle.std.specs.Option.{option_and_then, option_map}
use Rattle.std.specs.List.Sorted.{IsStrictlySortedBy}
use Rattle.std.proofs.lemmas.List.Elements.{Contains-push_cases, Contains-push}
use Rattle.fab_reach_base.specs.fab_lemmas.Lists.{IsListOf}
use Rattle.fab_reach_base.specs.fab_names.Orders.{name_cmp}
use Rattle.fab_reach_base.proofs.fab_names.OrderLaws.{name_total}
use Rattle.fab_reach_base.specs.fab_inventory.declared.holder.Holder.{Holder}
use Rattle.fab_reach_base.specs.fab_inventory.Inventories.{InventoryRows}
use Rattle.fab_reach_base.specs.fab_inventory.Ports.{KnownPorts}
use Rattle.fab_world.specs.fab_store_rows.declared.inventory_row.HolderRow.{HolderRow}
use Rattle.fab_world.specs.fab_store_rows.declared.inventory_row.InventoryRow.TheVariants as row
use Rattle.fab_world.specs.fab_store_rows.declared.inventory_row.VolumeRow.{VolumeRow}
use Rattle.fab_world.specs.fab_store_rows.Standing.{IsKnown, volume_of, holder_of}
use Rattle.fab_store_world.specs.Inventories.{AreOneButHolder, IsKnownOnlyIn, holder_order, holder_row}
use Rattle.fab_store_world.specs.InventoryGathering.{IsPushed}
use Rattle.fab_store_world.proofs.OneVolume.{empty_list, same_or, apart}

-- a holder may be named by this name, or not
is_named : (named : Option (List ℕ)) (m : List ℕ) → (named ≡ Some m) ⊎ ¬ (named ≡ Some m)
is_named None m = inr (λ e. absurd cc)
is_named (Some n) m = elim (same_or n m) [
  | inl is ↦ inl (ap (λ k. Some k) is)
  | inr other ↦ inr (λ e. other (let is : n ≡ m = cc in is))
]

sorted_one : (k : HolderRow) → IsStrictlySortedBy holder_order (k ∷ [])
unfolding IsStrictlySortedBy
sorted_one k = (tt, tt)

-- and the other way round
pub holder_back : (v w : InventoryRows) (named : Option (List ℕ)) → AreOneButHolder v w named → AreOneButHolder w v named
holder_back v w named one = record { volumes = sym one.volumes; others = λ m other. sym (one.others m other) }

-- the row of the named holder, if there is one
abbrev pub row_named : (v : InventoryRows) → Option (List ℕ) → Option HolderRow
row_named v named = option_and_then (λ (n : List ℕ). option_map (holder_row n) (map.get v.holders n)) named

module _ (v w : InventoryRows) (named : Option (List ℕ)) (one : AreOneButHolder v w named) where
  pub no_volume : (r : VolumeRow) → ¬ IsKnownOnlyIn v w (row.Volume r)
  no_volume r h = h.not_there (subst (λ volumes. map.get volumes r.name ≡ Some (volume_of r)) one.volumes h.there)

  -- a holder of another name stands in both or in none
  here : (r : HolderRow) → IsKnownOnlyIn v w (row.Holder r) → named ≡ Some r.name
  here r h = elim (is_named named r.name) [
    | inl is ↦ is
    | inr other ↦ absurd (h.not_there (sym (one.others r.name other) ∙ h.there))
  ]

  -- and the one of this name is the row that is found
  found_row : (r : HolderRow) → IsKnownOnlyIn v w (row.Holder r) → row_named v named ≡ Some r
  found_row r h = subst (λ n. row_named v n ≡ Some r) (sym (here r h)) (ap (option_map (holder_row r.name)) h.there)

  -- a row that is found stands
  found_there : (k : HolderRow) → Some k ≡ row_named v named → IsKnown v (row.Holder k)
  found_there k = by named
    where
      at_name : (n : List ℕ) (o : Option Holder) → map.get v.holders n ≡ o → Some k ≡ option_map (holder_row n) o → IsKnown v (row.Holder k)
      at_name n None at e = absurd cc
      at_name n (Some x) at e = subst (λ (y : HolderRow). map.get v.holders y.name ≡ Some (holder_of y)) (let same : holder_row n x ≡ k = cc in same) at

      by : (m : Option (List ℕ)) → Some k ≡ row_named v m → IsKnown v (row.Holder k)
      by None e = absurd cc
      by (Some n) e = at_name n (map.get v.holders n) refl e

  pub at_most_one : (found : Option HolderRow) (old new : List HolderRow) → found ≡ row_named v named → old ≡ [] → IsPushed (λ r. ¬ IsKnown w (row.Holder r)) found old new → IsListOf holder_order (λ r. IsKnownOnlyIn v w (row.Holder r)) new
  at_most_one None old new is none pushed = empty_list holder_order (λ r. IsKnownOnlyIn v w (row.Holder r)) new (pushed ∙ none) (λ r h. let no : ◌≡◌ {A = Option HolderRow} None (Some r) = is ∙ found_row r h in absurd cc)
  at_most_one (Some k) old new is none pushed = elim pushed [
    | inl p ↦ subst (IsListOf holder_order (λ r. IsKnownOnlyIn v w (row.Holder r))) (sym (p.1 ∙ ap (λ xs. xs ++ k ∷ []) none)) (record {
      sorted = sorted_one k;
      sound = λ r c. elim (Contains-push_cases [] k r c) [ inl z ↦ absurd (omega (arith, z.1)) | inr same ↦ subst (λ x. IsKnownOnlyIn v w (row.Holder x)) same (record { there = found_there k is; not_there = p.0 }) ];
      complete = λ r h. subst (Contains (k ∷ [])) (the_row r h) (Contains-push [] k);
    })
    | inr p ↦ empty_list holder_order (λ r. IsKnownOnlyIn v w (row.Holder r)) new (p.1 ∙ none) (λ r h. p.0 (subst (λ x. ¬ IsKnown w (row.Holder x)) (sym (the_row r h)) h.not_there))
  ]
    where
      the_row : (r : HolderRow) → IsKnownOnlyIn v w (row.Holder r) → k ≡ r
      the_row r h = let both : ◌≡◌ {A = Option HolderRow} (Some k) (Some r) = is ∙ found_row r h in cc

-- an inventory with other ports is one but for them
pub one_but_ports : (v : InventoryRows) (ports : KnownPorts) → AreOneButHolder v (record v { ports = ports }) None
one_but_ports v ports = record { volumes = refl; others = λ m other. refl }

-- a holder that is put, or dropped, leaves the other holders and the volumes as they were
pub one_but_holder_put : (v w : InventoryRows) (n : List ℕ) (x : Holder) → w.holders ≡ map.insert v.holders n x → w.volumes ≡ v.volumes → AreOneButHolder v w (Some n)
one_but_holder_put v w n x put same = record {
  volumes = sym same;
  others = λ m other. sym (ap (λ (holders : map.FinMap name_cmp Holder). map.get holders m) put ∙ map.get-insert name_total v.holders n x m ∙ ap (λ b. cond b (Some x) (map.get v.holders m)) (apart m n (λ e. other (ap (λ k. Some k) (sym e)))));
}

pub one_but_holder_dropped : (v w : InventoryRows) (n : List ℕ) → w.holders ≡ map.remove v.holders n → w.volumes ≡ v.volumes → AreOneButHolder v w (Some n)
one_but_holder_dropped v w n dropped same = record {
  volumes = sym same;
  others = λ m other. sym (ap (λ (holders : map.FinMap name_cmp Holder). map.get holders m) dropped ∙ map.get-remove name_total v.holders n m ∙ ap (λ b. cond b None (map.get v.holders m)) (apart m n (λ e. other (ap (λ k. Some k) (sym e)))));
}
