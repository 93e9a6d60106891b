-- Hosts with what offers them a volume.
use Rattle.std.proofs.Common.{◌≡◌, ℕ, List, [], ◌∷◌, Contains, true, cond, Option, None, Some, refl, sym, ap, ◌∙◌, subst}
use Rattle.std.specs.Ordering.{nat_cmp}
use Rattle.std.specs.Cmp.{nat_cmp_total}
use Rattle.std.specs.List.{AllZip}
use Rattle.std.specs.BTreeMap.{BTreeMap, get, is_at}
use Rattle.std.specs.BTreeMap as tree
use Rattle.std.specs.BTreeSet as sets
use Rattle.std.specs.BTreeSet.{BTreeSet}
use Rattle.std.specs.FinMap as map
use Rattle.std.specs.FinSet as set
use Rattle.std.proofs.lemmas.Map.Views.{btree_set_contains_iff, btree_map_get_iff}
use Rattle.fab_reach_base.proofs.fab_lemmas.SeenEntries.{entry_decides}
use Rattle.fab_reach_base.specs.fab_lemmas.Lists.{IsListOf}
use Rattle.fab_reach_base.specs.fab_names.Orders.{name_cmp}
use Rattle.fab_reach_base.proofs.fab_names.OrderLaws.{name_total, name_exact}
use Rattle.fab_reach_base.specs.fab_inventory.declared.holder.Holder.{Holder}
use Rattle.fab_reach_base.specs.fab_inventory.declared.holder.HolderKind.TheVariants as kind
use Rattle.fab_reach_base.specs.fab_mapping.Mappings.{MappingRows}
use Rattle.fab_reach_base.specs.fab_mapping_base.Groups.{StorageGroupRows}
use Rattle.fab_policy.specs.fab_policy_base.Policies.{PolicyRows}
use Rattle.fab_reach_base.specs.Adding.{Adds}
use Rattle.fab_reach_base.proofs.Adding.{Before, adds_as, adds_none, from_none}
use Rattle.fab_reach_base.proofs.Same.{same_some}
use Rattle.fab_reach_base.proofs.Sets.{adds_insert, none_in}
use Rattle.fab_world.specs.Worlds.{WorldRows}
use Rattle.fab_desk_base.specs.Tenants.{Has, IsHolderOf}
use Rattle.fab_looks.specs.Seeing.{AreTold}
use Rattle.fab_looks.specs.declared.reaching.Counts.{Counts}
use Rattle.fab_looks_ways.specs.Inner.Offers.{HasUnit, IsOfferOf}
use Rattle.fab_looks_ways.specs.Offers.{AreToldReachers, HasTenant, IsOffer, IsUnitAt, IsUnitOf, TellsReacher}
use Rattle.fab_looks.specs.Ways.{IsOwnMapping}
use Rattle.fab_looks_ways.specs.declared.reachers.Reacher.{Reacher}

-- ---- storage groups

-- a name whose storage group is exposed and serves the host
abbrev pub ByOffer : MappingRows → List ℕ → List ℕ → List ℕ → Type 0
ByOffer m host k n = (n ≡ k) × IsOffer m host k

pub offers_added : (m : MappingRows) (host : List ℕ) (names : BTreeSet (List ℕ)) (ks : List (List ℕ)) (old new : List ℕ → Type 0) → ks ≡ names.keys → Adds (Before (ByOffer m host) ks) old new → Adds (IsOfferOf m names host) old new
offers_added m host names ks old new is = adds_as (Before (ByOffer m host) ks) (IsOfferOf m names host) old new
    (λ n h. (
      (btree_set_contains_iff name_total name_exact names n).1 (subst (λ (ms : List (List ℕ)). Contains ms n) is (subst (Contains ks) (sym h.2.0) h.1)),
      subst (IsOffer m host) (sym h.2.0) h.2.1,
    ))
    (λ n h. (n, subst (λ (ms : List (List ℕ)). Contains ms n) (sym is) ((btree_set_contains_iff name_total name_exact names n).0 h.0), (refl, h.1)))

pub offers_listed : (P : List ℕ → Type 0) (s t : BTreeSet (List ℕ)) (xs : List (List ℕ)) → s.keys ≡ [] → sets.IsOrdered name_cmp t → Adds P (Has s) (Has t) → xs ≡ t.keys → IsListOf name_cmp P xs
offers_listed P s t xs none sorted a is = subst (IsListOf name_cmp P) (sym is) (record {
  sorted = sorted;
  sound = λ n c. (from_none P (Has s) (Has t) (none_in name_total name_exact s none) a n).0 ((btree_set_contains_iff name_total name_exact t n).1 c);
  complete = λ n h. (btree_set_contains_iff name_total name_exact t n).0 ((from_none P (Has s) (Has t) (none_in name_total name_exact s none) a n).1 h);
})

-- ---- logical unit numbers

-- a unit that has the volume
abbrev pub ByUnit : List ℕ → ℕ × List ℕ → ℕ → Type 0
ByUnit volume e u = (e.1 ≡ volume) × (u ≡ e.0)

pub units_added : (g : StorageGroupRows) (volume : List ℕ) (es : List (ℕ × List ℕ)) (old new : ℕ → Type 0) → es ≡ map.entries g.units → Adds (Before (ByUnit volume) es) old new → Adds (IsUnitOf g volume) old new
units_added g volume es old new is = adds_as (Before (ByUnit volume) es) (IsUnitOf g volume) old new
    (λ u h. ap (map.get g.units) h.2.1 ∙ (entry_decides nat_cmp nat_cmp_total set.nat_cmp-IsAntisymmetric g.units h.0.0 h.0.1).1 (subst (λ ys. Contains ys h.0) is h.1) ∙ ap (λ (v : List ℕ). Some v) h.2.0)
    (λ u h. ((u, volume), subst (λ ys. Contains ys (u, volume)) (sym is) ((entry_decides nat_cmp nat_cmp_total set.nat_cmp-IsAntisymmetric g.units u volume).0 h), (refl, refl)))

pub adds_unit : (s n : BTreeSet ℕ) (k : ℕ) → ((q : ℕ) → sets.contains nat_cmp n q ≡ cond (is_at (nat_cmp k) q) true (sets.contains nat_cmp s q)) → Adds (λ y. y ≡ k) (HasUnit s) (HasUnit n)
adds_unit = adds_insert nat_cmp_total set.nat_cmp-IsAntisymmetric

module _ (m : MappingRows) (volume n : List ℕ) where
  pub named_added : (g : StorageGroupRows) (old new : ℕ → Type 0) → map.get m.groups n ≡ Some g → Adds (IsUnitOf g volume) old new → Adds (IsUnitAt m volume n) old new
  named_added g old new at = adds_as (IsUnitOf g volume) (IsUnitAt m volume n) old new (λ u h. (g, at, h)) (λ u h. subst (λ (k : StorageGroupRows). IsUnitOf k volume u) (same_some h.1 at) h.2)

  pub no_group : (old : ℕ → Type 0) → map.get m.groups n ≡ None → Adds (IsUnitAt m volume n) old old
  no_group old none = adds_none (IsUnitAt m volume n) old (λ u h. let k : ◌≡◌ {A = Option StorageGroupRows} None (Some h.0) = sym none ∙ h.1 in absurd cc)

pub units_listed : (P : ℕ → Type 0) (s t : BTreeSet ℕ) (xs : List ℕ) → s.keys ≡ [] → sets.IsOrdered nat_cmp t → Adds P (HasUnit s) (HasUnit t) → xs ≡ t.keys → IsListOf nat_cmp P xs
units_listed P s t xs none sorted a is = subst (IsListOf nat_cmp P) (sym is) (record {
  sorted = sorted;
  sound = λ n c. (from_none P (HasUnit s) (HasUnit t) (none_in nat_cmp_total set.nat_cmp-IsAntisymmetric s none) a n).0 ((btree_set_contains_iff nat_cmp_total set.nat_cmp-IsAntisymmetric t n).1 c);
  complete = λ n h. (btree_set_contains_iff nat_cmp_total set.nat_cmp-IsAntisymmetric t n).0 ((from_none P (HasUnit s) (HasUnit t) (none_in nat_cmp_total set.nat_cmp-IsAntisymmetric s none) a n).1 h);
})

-- ---- hosts

pub tenant_is : (w : WorldRows) (host : List ℕ) (h : Holder) → HasTenant w host → map.get w.inventory.holders host ≡ Some h → IsHolderOf w.inventory kind.Host host h.tenant
tenant_is w host h there at =
    let same : h ≡ record { kind = kind.Host; tenant = there.0 } = same_some at there.1 in
    subst (λ (t : List ℕ). IsHolderOf w.inventory kind.Host host t) (sym (ap (λ (x : Holder). x.tenant) same)) there.1

-- an entry of a map
pub entry_at : (m : BTreeMap (List ℕ) Counts) (h : List ℕ) (n : Counts) → tree.IsOrdered name_cmp m → Contains m.entries (h, n) → get name_cmp m h ≡ Some n
entry_at m h n sorted c = (btree_map_get_iff name_total name_exact m sorted h n).1 c

list_as : (P Q : List ℕ → Type 0) (xs : List (List ℕ)) → ((n : List ℕ) → P n → Q n) → ((n : List ℕ) → Q n → P n) → IsListOf name_cmp P xs → IsListOf name_cmp Q xs
list_as P Q xs to from l = record { sorted = l.sorted; sound = λ n c. to n (l.sound n c); complete = λ n q. l.complete n (from n q) }

pub reacher_as : {A : Type 0} (w : WorldRows) (volume : List ℕ) (P Q : List ℕ → Type 0) (e : List ℕ × Counts) (r : Reacher A) → ((n : List ℕ) → (P n → Q n) × (Q n → P n)) → TellsReacher w volume P e r → TellsReacher w volume Q e r
reacher_as w volume P Q e r iff t = record {
  host_is = t.host_is;
  tenant_is = t.tenant_is;
  counts_are = t.counts_are;
  groups_are = list_as (λ n. P n × IsOffer w.config.mapping e.0 n) (λ n. Q n × IsOffer w.config.mapping e.0 n) r.groups.items (λ n h. ((iff n).0 h.0, h.1)) (λ n h. ((iff n).1 h.0, h.1)) t.groups_are;
  units_are = t.units_are;
}

pub zip_as : {X Y : Type 0} (R S : X → Y → Type 0) (xs : List X) (ys : List Y) → ((x : X) (y : Y) → R x y → S x y) → AllZip R xs ys → AllZip S xs ys
zip_as R S [] [] to all = tt
zip_as R S [] (y ∷ ys) to all = absurd all
zip_as R S (x ∷ xs) [] to all = absurd all
zip_as R S (x ∷ xs) (y ∷ ys) to all = (to x y all.0, zip_as R S xs ys to all.1)

pub reachers_are : {A : Type 0} (p : PolicyRows) (w : WorldRows) (id : ℕ) (volume : List ℕ) (m : BTreeMap (List ℕ) Counts) (names : BTreeSet (List ℕ)) (rs : List (Reacher A)) → tree.IsOrdered name_cmp m → AreTold p w id volume m
    → ((n : List ℕ) → (Has names n → IsOwnMapping p w id volume n) × (IsOwnMapping p w id volume n → Has names n)) → AllZip (TellsReacher w volume (Has names)) m.entries rs → AreToldReachers p w id volume rs
reachers_are p w id volume m names rs sorted told own zip = (
  m,
  sorted,
  told,
  zip_as (TellsReacher w volume (Has names)) (TellsReacher w volume (IsOwnMapping p w id volume)) m.entries rs (λ e r t. reacher_as w volume (Has names) (IsOwnMapping p w id volume) e r own t) zip,
)
