-- The rows of a zone set, from what the code holds to what contracts see.
use Rattle.std.proofs.Common.{ℕ, ◌≡◌, List, true, Some, ◌⊎◌, inl, inr, refl, sym, ap, ◌∙◌, subst}
use Rattle.std.specs.BTreeMap as tree
use Rattle.std.specs.BTreeMap.{BTreeMap}
use Rattle.std.specs.BTreeSet.{BTreeSet, contains}
use Rattle.std.specs.FinSet as set
use Rattle.fab_names.specs.declared.member.Member.{Member}
use Rattle.fab_names.specs.declared.member.Member.TheVariants as member
use Rattle.fab_names.specs.Orders.{name_cmp, member_cmp}
use Rattle.fab_names.proofs.OrderLaws.{name_total, member_total}
use Rattle.fab_zoning.specs.declared.fault.ZoningFault.{ZoningFault}
use Rattle.fab_zoning.specs.declared.fault.ZoningFault.TheVariants.{Unknown, InUse, Empty, Limit, Memory}
use Rattle.fab_zoning.specs.declared.fault.ZoningLimit.TheVariants.{Aliases, Zones, Sets, Members, Active}
use Rattle.fab_zoning_rows.specs.fab_lemmas.MapsOfSets.{has, tree_has, in_tree, seen_sets}
use Rattle.fab_zoning_rows.specs.Rows.{Row, Rows}
use Rattle.fab_zoning.specs.Zonings.{FabricZoning}
use Rattle.fab_zoning.specs.Resolved.{IsResolvedBy, IsResolved, AreResolved}
use Rattle.fab_zoning.specs.Steps.{IsActivateFault}
use Rattle.fab_zoning_rows.specs.fab_lemmas.Adding.{Among}
use Rattle.fab_zoning.specs.Inner.Adding.{PlainRow, AliasRow, ZoneRow, IsResolvedFault}
use Rattle.fab_zoning.proofs.Adding.{AddsRows}
use Rattle.fab_zoning_rows.proofs.fab_lemmas.MapsOfSets.{has_seen}
use Rattle.fab_zoning.proofs.Adding.{none_there}

-- the set s of the code's zone sets, aliases and zones
module _ (sets : BTreeMap (List ℕ) (BTreeSet (List ℕ))) (aliases zones : BTreeMap (List ℕ) (BTreeSet Member)) (s : List ℕ) (zone_set : BTreeSet (List ℕ)) (at : tree.get name_cmp sets s ≡ Some zone_set) where
  abbrev ByTrees : Row → Type 0
  ByTrees r = IsResolvedBy (tree_has name_cmp name_cmp sets) (tree_has name_cmp member_cmp zones) (tree_has name_cmp member_cmp aliases) s r

  in_set : (z : List ℕ) → tree_has name_cmp name_cmp sets s z ≡ contains name_cmp zone_set z
  in_set z = ap (λ o. in_tree name_cmp o z) at

  there : (r : Row) (z : List ℕ) → contains name_cmp zone_set z ≡ true → (m : Member) → tree_has name_cmp member_cmp zones z m ≡ true → PlainRow z m r ⊎ AliasRow aliases z m r → ByTrees r
  there r z in_z m in_m (inl p) = subst ByTrees (sym p.0) (record { zone = in_set z ∙ in_z; plain = p.1; member = inl in_m })
  there r z in_z m in_m (inr q) =
      subst ByTrees (sym q.4.0) (record { zone = in_set z ∙ in_z; plain = q.4.1; member = inr (q.0, ap (tree_has name_cmp member_cmp zones z) (sym q.1) ∙ in_m, q.3) })

  -- the rows that its zones give are its rows
  pub given : (r : Row) → Among name_cmp zone_set (ZoneRow aliases zones) r → ByTrees r
  given r w = there r w.0 w.1 w.2.0 w.2.1 w.2.2

  pub taken : (r : Row) → ByTrees r → Among name_cmp zone_set (ZoneRow aliases zones) r
  taken r w = elim w.member [
    | inl h ↦ (r.0, sym (in_set r.0) ∙ w.zone, (r.1, h, inl (refl, w.plain)))
    | inr h ↦ (r.0, sym (in_set r.0) ∙ w.zone, (member.Alias h.0, h.1, inr (h.0, refl, r.1, h.2, (refl, w.plain))))
  ]

  -- ---- as contracts see them
  module _ (v : FabricZoning) (of_sets : seen_sets name_cmp name_cmp sets.entries ≡ v.sets) (of_zones : seen_sets name_cmp member_cmp zones.entries ≡ v.zones)
      (of_aliases : seen_sets name_cmp member_cmp aliases.entries ≡ v.aliases) where
    same_sets : tree_has name_cmp name_cmp sets ≡ has v.sets
    same_sets = λ i p x. (sym (has_seen name_cmp name_total name_total sets p x) ∙ ap (λ m. has m p x) of_sets) i

    same_zones : tree_has name_cmp member_cmp zones ≡ has v.zones
    same_zones = λ i p x. (sym (has_seen member_cmp name_total member_total zones p x) ∙ ap (λ m. has m p x) of_zones) i

    same_aliases : tree_has name_cmp member_cmp aliases ≡ has v.aliases
    same_aliases = λ i p x. (sym (has_seen member_cmp name_total member_total aliases p x) ∙ ap (λ m. has m p x) of_aliases) i

    seen : (r : Row) → ◌≡◌ {A = Type 0} (ByTrees r) (IsResolved v s r)
    seen r = λ i. IsResolvedBy (same_sets i) (same_zones i) (same_aliases i) s r

    pub are_resolved : (rows : Rows) → AddsRows (Among name_cmp zone_set (ZoneRow aliases zones)) set.empty rows → AreResolved v s rows
    are_resolved rows adds r = (
      (λ h. elim ((adds r).0 h) [ inl none ↦ absurd (none_there r none) | inr w ↦ subst (λ T. T) (seen r) (given r w) ]),
      (λ w. (adds r).1 (inr (taken r (subst (λ T. T) (sym (seen r)) w)))),
    )

    pub refused : (fault : ZoningFault) → IsResolvedFault (Among name_cmp zone_set (ZoneRow aliases zones)) fault → IsActivateFault v s fault
    refused (Limit Active) w = (w.0, w.1, λ r h. subst (λ T. T) (seen r) (given r (w.2 r h)))
    refused Memory w = tt
    refused (Limit Aliases) w = absurd w
    refused (Limit Zones) w = absurd w
    refused (Limit Sets) w = absurd w
    refused (Limit Members) w = absurd w
    refused (Unknown name) w = absurd w
    refused (InUse name by) w = absurd w
    refused Empty w = absurd w
