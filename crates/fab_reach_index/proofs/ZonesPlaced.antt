-- The zones of ports, from the zonings of a world.
use Rattle.std.proofs.Common.{ℕ, ◌≡◌, List, Bool, true, Contains, Option, None, Some, IsTrue, ◌||◌, ◌⊎◌, inl, inr, refl, sym, ap, ◌∙◌, subst}
use mathlib.Core.Bool.{true≢false}
use Rattle.std.specs.Ordering.{nat_cmp}
use Rattle.std.specs.Cmp.{nat_cmp_total}
use Rattle.std.specs.Option.{option_map}
use Rattle.std.specs.BTreeSet.{BTreeSet, contains}
use Rattle.std.specs.FinMap as map
use Rattle.std.specs.FinSet as set
use Rattle.fab_names.specs.Orders.{name_cmp}
use Rattle.fab_names.specs.declared.fabric.Fabric.{Fabric}
use Rattle.fab_names.specs.declared.fabric.Fabric.TheVariants.{A, B}
use Rattle.fab_inventory.specs.declared.port.Known.{Known}
use Rattle.fab_inventory.specs.declared.port.Port.{Port}
use Rattle.fab_inventory.specs.Ports.{port_at, port_of}
use Rattle.fab_lemmas.specs.MapsOfSets.{in_tree, tree_has}
use Rattle.fab_lemmas.proofs.SeenEntries.{entry_decides}
use Rattle.fab_lemmas.proofs.Tests.{or_true, or_left, or_right}
use Rattle.fab_zoning_rows.specs.Holding.{IsLoggedInAt, Holds}
use Rattle.fab_zoning.specs.Edits.{IsIn}
use Rattle.fab_reach_base.specs.Adding.{Adds}
use Rattle.fab_reach_base.specs.Reach.{IsPort}
use Rattle.fab_reach_base.specs.Records.{Records, zoning_at}
use Rattle.fab_reach_base.specs.Serving.{IsServing}
use Rattle.fab_reach_base.proofs.Adding.{Before, adds_as, adds_none}
use Rattle.fab_reach_base.proofs.Same.{same_some}
use Rattle.fab_reach_books.specs.Affected.{IsInZone}
use Rattle.fab_reach_index.specs.Indexes.{Zone, zone_cmp, PortInZone}
use Rattle.fab_reach_index.proofs.KeyLaws.{zone_exact, zone_total}
use Rattle.std.specs.BTreeMap as tree
use Rattle.std.specs.BTreeMap.{BTreeMap, IsOrdered}
use Rattle.std.proofs.lemmas.Map.Views.{btree_set_contains_iff, btree_map_get_iff}
use Rattle.fab_reach_index.specs.Inner.Placing.{ByZones, ByZone, ByPortZones}
use Rattle.fab_reach_books.proofs.SetLoops.{adds_both, all_names}

abbrev pub Placed : Type 0
Placed = ℕ × Zone

module _ (port : ℕ) (f : Fabric) where
  pub zones_as : (P Q : List ℕ → Type 0) (old new : Placed → Type 0) → ((z : List ℕ) → P z → Q z) → ((z : List ℕ) → Q z → P z) → Adds (ByZones P port f) old new → Adds (ByZones Q port f) old new
  zones_as P Q old new to from = adds_as (ByZones P port f) (ByZones Q port f) old new (λ e h. (to e.1.1 h.0, h.1, h.2)) (λ e h. (from e.1.1 h.0, h.1, h.2))

  pub zones_none : (P : List ℕ → Type 0) (old : Placed → Type 0) → ((z : List ℕ) → ¬ P z) → Adds (ByZones P port f) old old
  zones_none P old none = adds_none (ByZones P port f) old (λ e h. none e.1.1 h.0)

  pub zones_placed : (s : BTreeSet (List ℕ)) (ks : List (List ℕ)) (old new : Placed → Type 0) → ks ≡ s.keys → Adds (Before (λ z (e : Placed). e ≡ (port, (f, z))) ks) old new → Adds (ByZones (λ z. IsTrue (contains name_cmp s z)) port f) old new
  zones_placed s ks old new is a = adds_as (λ e. (z : List ℕ) × IsTrue (contains name_cmp s z) × (e ≡ (port, (f, z)))) (ByZones (λ z. IsTrue (contains name_cmp s z)) port f) old new
      (λ e h. (subst (λ z. IsTrue (contains name_cmp s z)) (sym (ap (λ (x : Placed). x.1.1) h.2)) h.1, ap (λ (x : Placed). x.0) h.2, ap (λ (x : Placed). x.1.0) h.2))
      (λ e h. (e.1.1, h.0, λ i. (h.1 i, (h.2 i, e.1.1))))
      (all_names (λ z (e : Placed). e ≡ (port, (f, z))) s ks old new is a)

  pub zones_two : (a b : List ℕ → Bool) (s0 s1 s2 : Placed → Type 0) → Adds (ByZones (λ z. a z ≡ true) port f) s0 s1 → Adds (ByZones (λ z. b z ≡ true) port f) s1 s2 → Adds (ByZones (λ z. (a z || b z) ≡ true) port f) s0 s2
  zones_two a b s0 s1 s2 x y = record {
    sound = λ e h. elim (y.sound e h) [
      | inr k ↦ inr (or_right (a e.1.1) (b e.1.1) k.0, k.1, k.2)
      | inl h ↦ elim (x.sound e h) [ inr k ↦ inr (or_left (a e.1.1) (b e.1.1) k.0, k.1, k.2) | inl o ↦ inl o ]
    ];
    kept = λ e h. y.kept e (x.kept e h);
    there = λ e k. elim (or_true (a e.1.1) (b e.1.1) k.0) [ inl h ↦ y.kept e (x.there e (h, k.1, k.2)) | inr h ↦ y.there e (h, k.1, k.2) ];
  }

  -- the zones that four tests find, one after the other
  pub zones_four : (a b c d : List ℕ → Bool) (s0 s1 s2 s3 s4 : Placed → Type 0) → Adds (ByZones (λ z. a z ≡ true) port f) s0 s1 → Adds (ByZones (λ z. b z ≡ true) port f) s1 s2 → Adds (ByZones (λ z. c z ≡ true) port f) s2 s3 → Adds (ByZones (λ z. d z ≡ true) port f) s3 s4
      → Adds (ByZones (λ z. (a z || (b z || (c z || d z))) ≡ true) port f) s0 s4
  zones_four a b c d s0 s1 s2 s3 s4 x y v w = zones_two a (λ z. b z || (c z || d z)) s0 s1 s4 x (zones_two b (λ z. c z || d z) s1 s2 s4 y (zones_two c d s2 s3 s4 v w))

module _ (w : Records) (serving : IsServing w) (name : ℕ) where
  pub zones_at : (f : Fabric) (port : Port) (t : List ℕ → Bool) (old new : Placed → Type 0) → IsPort w name port → IsLoggedInAt f port → ((z : List ℕ) → (t z ≡ true → Holds (zoning_at w.config f).rows port z) × (Holds (zoning_at w.config f).rows port z → t z ≡ true))
      → Adds (ByZones (λ z. t z ≡ true) name f) old new → Adds (ByZones (λ z. IsInZone w f z name) name f) old new
  zones_at f port t old new is at are = zones_as name f (λ z. t z ≡ true) (λ z. IsInZone w f z name) old new
      (λ z h. (port, is, (subst (λ g. IsLoggedInAt g port) (sym (serving.fabrics f)) at, (are z).0 h)))
      (λ z h. (are z).1 (subst (λ x. Holds (zoning_at w.config f).rows x z) (same_some h.1 is) h.2.1))

  pub not_at : (f : Fabric) (port : Port) (old : Placed → Type 0) → IsPort w name port → ¬ IsLoggedInAt f port → Adds (ByZones (λ z. IsInZone w f z name) name f) old old
  not_at f port old is away = zones_none name f (λ z. IsInZone w f z name) old (λ z h. away (subst (λ g. IsLoggedInAt g port) (serving.fabrics f) (subst (λ x. IsLoggedInAt (zoning_at w.config f).fabric x) (same_some h.1 is) h.2.0)))

  pub not_known : (f : Fabric) (old : Placed → Type 0) → port_at w.inventory.ports name ≡ None → Adds (ByZones (λ z. IsInZone w f z name) name f) old old
  not_known f old none = zones_none name f (λ z. IsInZone w f z name) old (λ z h. let e : ◌≡◌ {A = Option Port} None (Some h.0) = sym none ∙ h.1 in absurd cc)

  by_fabric : (e : Placed) (f : Fabric) → e.1.0 ≡ f → ByZone w name e → ByZones (λ z. IsInZone w f z name) name f e
  by_fabric e f is h = (subst (λ g. IsInZone w g e.1.1 name) is h.0, h.1, is)

  pub both_fabrics : (old mid new : Placed → Type 0) → Adds (ByZones (λ z. IsInZone w A z name) name A) old mid → Adds (ByZones (λ z. IsInZone w B z name) name B) mid new → Adds (ByZone w name) old new
  both_fabrics old mid new a b = adds_as (λ e. ByZones (λ z. IsInZone w A z name) name A e ⊎ ByZones (λ z. IsInZone w B z name) name B e) (ByZone w name) old new
      (λ e h. elim h [ inl k ↦ (subst (λ g. IsInZone w g e.1.1 name) (sym k.2) k.0, k.1) | inr k ↦ (subst (λ g. IsInZone w g e.1.1 name) (sym k.2) k.0, k.1) ])
      (λ e h. either e e.1.0 refl h)
      (adds_both (ByZones (λ z. IsInZone w A z name) name A) (ByZones (λ z. IsInZone w B z name) name B) old mid new a b)
    where
      either : (e : Placed) (f : Fabric) → e.1.0 ≡ f → ByZone w name e → ByZones (λ z. IsInZone w A z name) name A e ⊎ ByZones (λ z. IsInZone w B z name) name B e
      either e A is h = inl (by_fabric e A is h)
      either e B is h = inr (by_fabric e B is h)

-- all known ports
abbrev pub ByEntry : Records → ℕ × Known → Placed → Type 0
ByEntry w x e = ByZone w x.0 e

pub zones_all : (w : Records) (es : List (ℕ × Known)) (old new : Placed → Type 0) → es ≡ map.entries w.inventory.ports → Adds (Before (ByEntry w) es) old new → Adds (λ (e : Placed). PortInZone w e.0 e.1) old new
zones_all w es old new is = adds_as (Before (ByEntry w) es) (λ (e : Placed). PortInZone w e.0 e.1) old new
    (λ e h. subst (λ p. IsInZone w e.1.0 e.1.1 p) (sym h.2.1) h.2.0)
    (λ e h. known e (map.get w.inventory.ports e.0) refl h)
  where
    known : (e : Placed) (o : Option Known) → map.get w.inventory.ports e.0 ≡ o → PortInZone w e.0 e.1 → Before (ByEntry w) es e
    known e None at h = let f : ◌≡◌ {A = Option Port} None (Some h.0) = sym (ap (option_map (port_of e.0)) at) ∙ h.1 in absurd cc
    known e (Some k) at h = ((e.0, k), subst (λ xs. Contains xs (e.0, k)) (sym is) ((entry_decides nat_cmp nat_cmp_total set.nat_cmp-IsAntisymmetric w.inventory.ports e.0 k).0 at), (h, refl))

-- ---- the ports of zones

zone_in : (s : BTreeSet Zone) (z : Zone) → (IsTrue (contains zone_cmp s z) → Contains s.keys z) × (Contains s.keys z → IsTrue (contains zone_cmp s z))
zone_in s z = btree_set_contains_iff zone_total zone_exact s z

pub port_placed : (x : ℕ × BTreeSet Zone) (ks : List Zone) (old new : Zone × ℕ → Type 0) → ks ≡ x.1.keys → Adds (Before (λ z (e : Zone × ℕ). e ≡ (z, x.0)) ks) old new → Adds (ByPortZones x) old new
port_placed x ks old new is = adds_as (Before (λ z (e : Zone × ℕ). e ≡ (z, x.0)) ks) (ByPortZones x) old new
    (λ e h. (subst (λ z. IsTrue (contains zone_cmp x.1 z)) (sym (ap (λ (y : Zone × ℕ). y.0) h.2)) ((zone_in x.1 h.0).1 (subst (λ xs. Contains xs h.0) is h.1)), ap (λ (y : Zone × ℕ). y.1) h.2))
    (λ e h. (e.0, subst (λ xs. Contains xs e.0) (sym is) ((zone_in x.1 e.0).0 h.0), λ i. (e.0, h.1 i)))

pub ports_placed : (t : BTreeMap ℕ (BTreeSet Zone)) (es : List (ℕ × BTreeSet Zone)) (old new : Zone × ℕ → Type 0) → IsOrdered nat_cmp t → es ≡ t.entries → Adds (Before ByPortZones es) old new → Adds (λ (e : Zone × ℕ). IsIn nat_cmp zone_cmp t (e.1, e.0)) old new
ports_placed t es old new ordered is = adds_as (Before ByPortZones es) (λ (e : Zone × ℕ). IsIn nat_cmp zone_cmp t (e.1, e.0)) old new
    (λ e h.
    let at = (btree_map_get_iff nat_cmp_total set.nat_cmp-IsAntisymmetric t ordered h.0.0 h.0.1).1 (subst (λ xs. Contains xs h.0) is h.1) in
    ap (λ p. tree_has nat_cmp zone_cmp t p e.0) h.2.1 ∙ ap (λ o. in_tree zone_cmp o e.0) at ∙ h.2.0)
    (λ e h. there e (tree.get nat_cmp t e.1) refl h)
  where
    there : (e : Zone × ℕ) (o : Option (BTreeSet Zone)) → tree.get nat_cmp t e.1 ≡ o → IsIn nat_cmp zone_cmp t (e.1, e.0) → Before ByPortZones es e
    there e None at h = absurd (true≢false (sym h ∙ ap (λ o. in_tree zone_cmp o e.0) at))
    there e (Some s) at h = ((e.1, s), subst (λ xs. Contains xs (e.1, s)) (sym is) ((btree_map_get_iff nat_cmp_total set.nat_cmp-IsAntisymmetric t ordered e.1 s).0 at), (sym (ap (λ o. in_tree zone_cmp o e.0) at) ∙ h, refl))
