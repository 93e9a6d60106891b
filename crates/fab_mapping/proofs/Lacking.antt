-- What groups lack, and when they lack nothing.
use Rattle.std.proofs.Common.{ℕ, ◌≡◌, List, Option, None, Some, Bool, true, false, Contains, MatchOption, ◌⊎◌, inl, inr, refl, sym, ap, ◌∙◌, subst}
use mathlib.Core.Bool.{true≢false}
use Rattle.std.specs.declared.cmp.Ordering.{Ordering}
use Rattle.std.specs.Ordering.{eq_by_cmp}
use Rattle.std.specs.BTreeMap as tree
use Rattle.std.specs.BTreeMap.{BTreeMap}
use Rattle.std.specs.FinMap as map
use Rattle.std.proofs.lemmas.Map.Views.{btree_map_get_iff}
use Rattle.fab_mapping_base.specs.fab_lemmas.Firsts.{IsFirstOf}
use Rattle.fab_mapping_base.proofs.fab_lemmas.Adding.{Before}
use Rattle.fab_mapping_base.proofs.fab_lemmas.Leasts.{least_as}
use Rattle.fab_mapping_base.proofs.fab_lemmas.SeenSets.{tie_decides}
use Rattle.fab_mapping_base.specs.fab_names.Orders.{name_cmp}
use Rattle.fab_mapping_base.proofs.fab_names.OrderLaws.{name_total, name_exact}
use Rattle.fab_mapping_base.specs.fab_inventory.declared.holder.HolderKind.{HolderKind}
use Rattle.fab_mapping_base.specs.fab_inventory.declared.holder.HolderKind.TheVariants as kind
use Rattle.fab_mapping_base.specs.fab_inventory.declared.holder.Volume.{Volume}
use Rattle.fab_mapping_base.specs.fab_inventory.Holders.{holder_in}
use Rattle.fab_mapping_base.specs.fab_inventory.Inventories.{InventoryRows, kind_of}
use Rattle.fab_mapping_base.specs.declared.gone.Gone.{Gone}
use Rattle.fab_mapping_base.specs.Clashes.{HostGroups, StorageGroups}
use Rattle.fab_mapping_base.specs.Fitting.{IsVolumeOn, HasHosts, GroupFits, LacksHost, LacksArray, LacksTarget, LacksVolume}
use Rattle.fab_mapping.specs.Mappings.{MappingRows}
use Rattle.fab_mapping.specs.Soundness.{Each, Fits}
use Rattle.fab_mapping.specs.Gone.{IsLacking, LacksNothing, IsFirstGone}

-- at the end of a walk through groups
pub lacking_groups : {G X : Type 0} (R : X → X → Ordering) (t : BTreeMap (List ℕ) G) (Lacks : G → X → Type 0) (es : List (List ℕ × G)) (a : Option X) → tree.IsOrdered name_cmp t → es ≡ t.entries → IsFirstOf R (Before (λ (e : List ℕ × G). Lacks e.1) es) a
    → IsFirstOf R (IsLacking (tree.get name_cmp t) Lacks) a
lacking_groups {G} {X} R t Lacks es a sorted is =
    least_as R (Before (λ (e : List ℕ × G). Lacks e.1) es) (IsLacking (tree.get name_cmp t) Lacks) a
    (λ x w. (w.0.0, (w.0.1, (btree_map_get_iff name_total name_exact t sorted w.0.0 w.0.1).1 (subst (λ (ys : List (List ℕ × G)). Contains ys w.0) is w.1), w.2)))
    (λ x w. ((w.0, w.1.0), subst (λ (ys : List (List ℕ × G)). Contains ys (w.0, w.1.0)) (sym is) ((btree_map_get_iff name_total name_exact t sorted w.0 w.1.0).0 w.1.1), w.1.2))

-- ---- each is so, or it is not
name_or_not : (a b : List ℕ) → (a ≡ b) ⊎ ¬ (a ≡ b)
name_or_not a b = by (eq_by_cmp name_cmp a b) refl
  where
    by : (t : Bool) → eq_by_cmp name_cmp a b ≡ t → (a ≡ b) ⊎ ¬ (a ≡ b)
    by true e = inl ((tie_decides name_total name_exact a b).0 e)
    by false e = inr (λ s. true≢false (sym ((tie_decides name_total name_exact a b).1 s) ∙ e))

kind_or_not : (o : Option HolderKind) (k : HolderKind) → (o ≡ Some k) ⊎ ¬ (o ≡ Some k)
kind_or_not None k = inr (λ e. absurd cc)
kind_or_not (Some kind.Host) kind.Host = inl refl
kind_or_not (Some kind.Host) kind.Array = inr (λ e. absurd cc)
kind_or_not (Some kind.Array) kind.Host = inr (λ e. absurd cc)
kind_or_not (Some kind.Array) kind.Array = inl refl

holder_or_not : (o : Option (List ℕ)) (h : List ℕ) → (o ≡ Some h) ⊎ ¬ (o ≡ Some h)
holder_or_not None h = inr (λ e. absurd cc)
holder_or_not (Some g) h = elim (name_or_not g h) [ inl s ↦ inl (ap Some s) | inr other ↦ inr (λ e. other (one g h e)) ]
  where
    one : (x y : List ℕ) → Some x ≡ Some y → x ≡ y
    one x y e = cc

volume_or_not : (inventory : InventoryRows) (array n : List ℕ) → IsVolumeOn inventory array n ⊎ ¬ IsVolumeOn inventory array n
volume_or_not inventory array n = by (map.get inventory.volumes n) refl
  where
    same : (x y : Volume) → Some x ≡ Some y → x ≡ y
    same x y e = cc

    by : (o : Option Volume) → map.get inventory.volumes n ≡ o → IsVolumeOn inventory array n ⊎ ¬ IsVolumeOn inventory array n
    by None at = inr (λ w. let e : ◌≡◌ {A = Option Volume} None (Some w.0) = sym at ∙ w.1 in absurd cc)
    by (Some x) at = elim (name_or_not x.array array) [ inl s ↦ inl (x, at, s) | inr other ↦ inr (λ w. other (subst (λ (y : Volume). y.array ≡ array) (same w.0 x (sym w.1 ∙ at)) w.2)) ]

-- what is not otherwise is so
so : {P : Type 0} → P ⊎ ¬ P → ¬ ¬ P → P
so (inl p) h = p
so (inr n) h = absurd (h n)

-- ---- groups that lack nothing fit
pub hosts_there : (inventory : InventoryRows) (host_groups : HostGroups) → LacksNothing host_groups (LacksHost inventory) → Each host_groups (HasHosts inventory)
hosts_there inventory host_groups none k g at host there = so (kind_or_not (kind_of inventory.holders host) kind.Host) (λ other. none host (k, (g, at, (there, other))))

pub groups_there : (inventory : InventoryRows) (groups : StorageGroups) → LacksNothing groups (LacksArray inventory) → LacksNothing groups (LacksTarget inventory) → LacksNothing groups (LacksVolume inventory) → Each groups (GroupFits inventory)
groups_there inventory groups arrays targets volumes k g at = record {
  on_array = so (kind_or_not (kind_of inventory.holders g.array) kind.Array) (λ other. arrays g.array (k, (g, at, (refl, other))));
  targets = λ q there. so (holder_or_not (holder_in (map.get inventory.ports) q) g.array) (λ other. targets q (k, (g, at, (there, other))));
  volumes = λ u n there. so (volume_or_not inventory g.array n) (λ other. volumes n (k, (g, at, ((u, there), other))));
}

-- the same of a mapping
pub first_or_fits : (inventory : InventoryRows) (v : MappingRows) (o : Option Gone) → MatchOption o (Each (map.get v.host_groups) (HasHosts inventory) × Each (map.get v.groups) (GroupFits inventory)) (IsFirstGone inventory v) → MatchOption o (Fits inventory v) (IsFirstGone inventory v)
first_or_fits inventory v None h = record { host_groups = h.0; groups = h.1 }
first_or_fits inventory v (Some x) h = h
