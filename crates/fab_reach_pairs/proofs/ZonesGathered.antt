-- The zones of ports, before a step and after it.
use Rattle.std.proofs.Common.{ℕ, ◌≡◌, List, true, Option, None, Some, ◌||◌, refl, sym, ap, ◌∙◌, subst}
use Rattle.std.specs.Ordering.{nat_cmp}
use Rattle.std.specs.BTreeMap as tree
use Rattle.std.specs.BTreeMap.{BTreeMap}
use Rattle.std.specs.BTreeSet.{BTreeSet}
use Rattle.std.specs.FinSet as set
use mathlib.Core.Bool.{true≢false}
use Rattle.fab_lemmas.specs.MapsOfSets.{in_tree}
use Rattle.fab_names.specs.Places.{Position}
use Rattle.fab_names.specs.declared.fabric.Fabric.{Fabric}
use Rattle.fab_names.specs.declared.member.Member.TheVariants as member
use Rattle.fab_inventory.specs.Ports.{port_at}
use Rattle.fab_inventory.specs.declared.port.Port.{Port}
use Rattle.fab_zoning.specs.Edits.{IsIn}
use Rattle.fab_reach_base.specs.Adding.{Adds}
use Rattle.fab_reach_base.specs.Reach.{IsPort}
use Rattle.fab_reach_base.specs.Records.{Records, zoning_at}
use Rattle.fab_reach_base.specs.Serving.{IsServing}
use Rattle.fab_reach_base.proofs.Adding.{Before, adds_as, adds_none}
use Rattle.fab_reach_base.proofs.Same.{same_some, same_fabric}
use Rattle.fab_reach_books.proofs.SetLoops.{all_ports}
use Rattle.fab_reach_books.specs.Affected.{IsInZone}
use Rattle.fab_reach_books.specs.Inner.Sets.{HasPortIn}
use Rattle.fab_reach_index.specs.Indexes.{Zone, zone_cmp, PortInZone}
use Rattle.fab_reach_index.specs.Inner.Placing.{ByZone, ByZones}
use Rattle.fab_reach_index.specs.Inner.Regathering.{HasIn}
use Rattle.fab_reach_index.proofs.ZonesPlaced.{Placed, zones_four}
use Rattle.fab_reach_moves.proofs.Changed.{zoned_by_four}
use Rattle.fab_zoning_rows.specs.Holding.{IsLoggedInAt, Holds, address_member, has_row}

module _ (zones : BTreeMap ℕ (BTreeSet Zone)) where
  -- a port, with its zones
  abbrev pub OfPort : ℕ → Placed → Type 0
  OfPort p e = (e.0 ≡ p) × IsIn nat_cmp zone_cmp zones e

  pub port_zones : (p : ℕ) (s : BTreeSet Zone) (old new : Placed → Type 0) → tree.get nat_cmp zones p ≡ Some s → Adds (λ (e : Placed). (e.0 ≡ p) × HasIn zone_cmp s e.1) old new → Adds (OfPort p) old new
  port_zones p s old new at = adds_as (λ (e : Placed). (e.0 ≡ p) × HasIn zone_cmp s e.1) (OfPort p) old new
      (λ e h. (h.0, ap (λ q. in_tree zone_cmp (tree.get nat_cmp zones q) e.1) h.0 ∙ ap (λ o. in_tree zone_cmp o e.1) at ∙ h.1))
      (λ e h. (h.0, sym (ap (λ q. in_tree zone_cmp (tree.get nat_cmp zones q) e.1) h.0 ∙ ap (λ o. in_tree zone_cmp o e.1) at) ∙ h.1))

  pub no_zones : (p : ℕ) (old : Placed → Type 0) → tree.get nat_cmp zones p ≡ None → Adds (OfPort p) old old
  no_zones p old none = adds_none (OfPort p) old (λ e h. true≢false (sym h.1 ∙ ap (λ q. in_tree zone_cmp (tree.get nat_cmp zones q) e.1) h.0 ∙ ap (λ o. in_tree zone_cmp o e.1) none))

  pub all_zones : (s : BTreeSet ℕ) (ks : List ℕ) (old new : Placed → Type 0) → ks ≡ s.keys → Adds (Before OfPort ks) old new → Adds (λ (e : Placed). HasPortIn s e.0 × IsIn nat_cmp zone_cmp zones e) old new
  all_zones s ks old new is a = adds_as (λ (e : Placed). (p : ℕ) × HasPortIn s p × OfPort p e) (λ (e : Placed). HasPortIn s e.0 × IsIn nat_cmp zone_cmp zones e) old new
      (λ e h. (subst (HasPortIn s) (sym h.2.0) h.1, h.2.1)) (λ e h. (e.0, h.0, (refl, h.1))) (all_ports OfPort s ks old new is a)

pub all_after : (v : Records) (s : BTreeSet ℕ) (ks : List ℕ) (old new : Placed → Type 0) → ks ≡ s.keys → Adds (Before (ByZone v) ks) old new → Adds (λ (e : Placed). HasPortIn s e.0 × PortInZone v e.0 e.1) old new
all_after v s ks old new is a = adds_as (λ (e : Placed). (p : ℕ) × HasPortIn s p × ByZone v p e) (λ (e : Placed). HasPortIn s e.0 × PortInZone v e.0 e.1) old new
    (λ e h. (subst (HasPortIn s) (sym h.2.1) h.1, subst (λ p. PortInZone v p e.1) (sym h.2.1) h.2.0)) (λ e h. (e.0, h.0, (h.1, refl))) (all_ports (ByZone v) s ks old new is a)

-- ---- the zones of a port after the step

module _ (v : Records) (serving : IsServing v) (name : ℕ) where
  pub unknown : (old : Placed → Type 0) → None ≡ port_at v.inventory.ports name → Adds (ByZone v name) old old
  unknown old none = adds_none (ByZone v name) old (λ e h. let f : ◌≡◌ {A = Option Port} None (Some h.0.0) = none ∙ h.0.1 in absurd cc)

  module _ (port : Port) (is : Some port ≡ port_at v.inventory.ports name) where
    own : (q : Port) → IsPort v name q → q ≡ port
    own q at = same_some at (sym is)

    pub nowhere : (old : Placed → Type 0) → port.at ≡ None → Adds (ByZone v name) old old
    nowhere old none = adds_none (ByZone v name) old (λ e h.
        let at = h.0.2.0 in
        let f : ◌≡◌ {A = Option (Fabric × Position)} None (Some ((zoning_at v.config e.1.0).fabric, at.0)) = sym none ∙ sym (ap (λ (q : Port). q.at) (own h.0.0 h.0.1)) ∙ at.1 in absurd cc)

    module _ (f : Fabric) (place : Position) (at : port.at ≡ Some (f, place)) where
      rows : List ℕ → Type 0
      rows z = Holds (zoning_at v.config f).rows port z

      pub four_zones : (s0 s1 s2 s3 s4 : Placed → Type 0) → Adds (ByZones (λ z. set.contains (zoning_at v.config f).rows (z, member.Port port.name) ≡ true) name f) s0 s1 → Adds (ByZones (λ z. set.contains (zoning_at v.config f).rows (z, member.Node port.node) ≡ true) name f) s1 s2
          → Adds (ByZones (λ z. set.contains (zoning_at v.config f).rows (z, member.Place place) ≡ true) name f) s2 s3 → Adds (ByZones (λ z. has_row (zoning_at v.config f).rows z (address_member port) ≡ true) name f) s3 s4 → Adds (ByZone v name) s0 s4
      four_zones s0 s1 s2 s3 s4 a b c d =
          let here = (zoning_at v.config f).rows in
          let by_port = λ (z : List ℕ). set.contains here (z, member.Port port.name) in
          let by_node = λ (z : List ℕ). set.contains here (z, member.Node port.node) in
          let by_place = λ (z : List ℕ). set.contains here (z, member.Place place) in
          let by_address = λ (z : List ℕ). has_row here z (address_member port) in
          let all = zones_four name f by_port by_node by_place by_address s0 s1 s2 s3 s4 a b c d in
          let test = λ (z : List ℕ). (by_port z || (by_node z || (by_place z || by_address z))) ≡ true in
          adds_as (ByZones test name f) (ByZone v name) s0 s4
          (λ e h. (subst (λ g. IsInZone v g e.1.1 name) (sym h.2) (port, sym is, (subst (λ g. IsLoggedInAt g port) (sym (serving.fabrics f)) (place, at), (zoned_by_four here port e.1.1 f place at).0 h.0)), h.1))
          (λ e h.
          let q = own h.0.0 h.0.1 in
          let there = subst (λ (p : Port). IsLoggedInAt (zoning_at v.config e.1.0).fabric p) q h.0.2.0 in
          let same : e.1.0 ≡ f = same_fabric port e.1.0 f (subst (λ g. IsLoggedInAt g port) (serving.fabrics e.1.0) there) (place, at) in
          let holds = subst (λ (p : Port). Holds (zoning_at v.config e.1.0).rows p e.1.1) q h.0.2.1 in
          ((zoned_by_four here port e.1.1 f place at).1 (subst (λ g. Holds (zoning_at v.config g).rows port e.1.1) same holds), h.1, same))
          all
