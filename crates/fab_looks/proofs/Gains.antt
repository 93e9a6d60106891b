-- Storage groups and paths that are gathered, item by item.
use Rattle.std.proofs.Common.{◌≡◌, ◌<◌, ℕ, List, [], ◌∷◌, Bor, map, length, get_or, Contains, Some, refl, sym, ap, ◌∙◌, subst}
use Rattle.std.specs.Ordering.{nat_cmp}
use Rattle.std.specs.Cmp.{nat_cmp_total}
use Rattle.std.specs.BTreeSet.{BTreeSet}
use Rattle.std.specs.FinMap as map
use Rattle.std.specs.FinSet as set
use Rattle.std.proofs.lemmas.List.{get_or-map, length-map}
use Rattle.std.proofs.lemmas.Map.Views.{btree_set_contains_iff}
use Rattle.fab_names.specs.Orders.{name_cmp}
use Rattle.fab_names.specs.declared.fabric.Fabric.{Fabric}
use Rattle.fab_names.proofs.OrderLaws.{name_total, name_exact}
use Rattle.fab_inventory.specs.declared.port.Port.{Port}
use Rattle.fab_lemmas.proofs.SeenSets.{listed_decides}
use Rattle.fab_lemmas.proofs.SeenEntries.{entry_decides}
use Rattle.fab_mapping_base.specs.Groups.{StorageGroupRows, MapsVolume}
use Rattle.fab_mapping.specs.Mappings.{MappingRows}
use Rattle.fab_reach_base.specs.Adding.{Adds}
use Rattle.fab_reach_base.specs.Records.{Records}
use Rattle.fab_reach_base.specs.Orders.{Has}
use Rattle.fab_reach_base.specs.declared.path.Path.{Path}
use Rattle.fab_reach_base.proofs.Adding.{Before, adds_as, from_none}
use Rattle.fab_reach_base.specs.PathOrder.{path_total, path_exact}
use Rattle.fab_reach_base.proofs.Sets.{none_in}
use Rattle.fab_looks.specs.Links.{IsMappedBy}
use Rattle.fab_looks.specs.Inner.Offers.{AreJust, UnitPath, NamedPath, GroupPath, MayPass}
use Rattle.fab_looks.proofs.Filled.{just_as}

-- ---- storage groups

-- what a reference points to
abbrev pub now : Bor StorageGroupRows → StorageGroupRows
now r = r.now

abbrev pub now_all : List (Bor StorageGroupRows) → List StorageGroupRows
now_all rs = map now rs

-- the item at a place of a slice of references
pub now_at : (rs : List (Bor StorageGroupRows)) (i : ℕ) (r : Bor StorageGroupRows) → i < length rs → r ≡ get_or rs i r → r.now ≡ get_or (map now rs) i r.now
now_at rs i r h is = ap now is ∙ sym (get_or-map now rs i r r.now h)

pub now_within : (rs : List (Bor StorageGroupRows)) (i : ℕ) → i < length rs → i < length (map now rs)
now_within rs i h = subst (λ n. i < n) (sym (length-map rs now)) h

-- an entry whose storage group has the volume
abbrev pub ByEntry : List ℕ → List ℕ × StorageGroupRows → StorageGroupRows → Type 0
ByEntry volume e g = (g ≡ e.1) × MapsVolume volume e.1

pub all_mapped : (m : MappingRows) (volume : List ℕ) (es : List (List ℕ × StorageGroupRows)) (gs : List StorageGroupRows) → es ≡ map.entries m.groups → AreJust (Before (ByEntry volume) es) gs → AreJust (IsMappedBy m volume) gs
all_mapped m volume es gs is = just_as (Before (ByEntry volume) es) (IsMappedBy m volume) gs
    (λ g w. ((w.0.0, (entry_decides name_cmp name_total name_exact m.groups w.0.0 w.0.1).1 (subst (λ ys. Contains ys w.0) is w.1) ∙ ap (λ (x : StorageGroupRows). Some x) (sym w.2.0)), subst (MapsVolume volume) (sym w.2.0) w.2.1))
    (λ g w. ((w.0.0, g), subst (λ ys. Contains ys (w.0.0, g)) (sym is) ((entry_decides name_cmp name_total name_exact m.groups w.0.0 g).0 w.0.1), (refl, w.1)))

-- one of these that has a property
abbrev pub Kept : (StorageGroupRows → Type 0) → StorageGroupRows → StorageGroupRows → Type 0
Kept P k g = (g ≡ k) × P k

pub all_kept : (P : StorageGroupRows → Type 0) (ks gs : List StorageGroupRows) → AreJust (Before (Kept P) ks) gs → AreJust (λ g. Contains ks g × P g) gs
all_kept P ks gs = just_as (Before (Kept P) ks) (λ g. Contains ks g × P g) gs
    (λ g w. (subst (Contains ks) (sym w.2.0) w.1, subst P (sym w.2.0) w.2.1))
    (λ g w. (g, w.0, (refl, w.1)))

-- ---- paths

-- a unit that has the volume
abbrev pub ByUnit : Fabric → ℕ → ℕ → List ℕ → ℕ × List ℕ → Path → Type 0
ByUnit f p q volume e x = (e.1 ≡ volume) × (x ≡ record { fabric = f; initiator = p; target = q; volume = volume; unit = e.0 })

pub unit_added : (f : Fabric) (p q : ℕ) (volume : List ℕ) (e : ℕ × List ℕ) (old new : Path → Type 0) → e.1 ≡ volume → Adds (λ (x : Path). x ≡ record { fabric = f; initiator = p; target = q; volume = volume; unit = e.0 }) old new → Adds (ByUnit f p q volume e) old new
unit_added f p q volume e old new is = adds_as (λ (x : Path). x ≡ record { fabric = f; initiator = p; target = q; volume = volume; unit = e.0 }) (ByUnit f p q volume e) old new (λ x h. (is, h)) (λ x h. h.1)

pub units_added : (f : Fabric) (p q : ℕ) (g : StorageGroupRows) (volume : List ℕ) (es : List (ℕ × List ℕ)) (old new : Path → Type 0) → es ≡ map.entries g.units → Adds (Before (ByUnit f p q volume) es) old new → Adds (UnitPath f p q g volume) old new
units_added f p q g volume es old new is = adds_as (Before (ByUnit f p q volume) es) (UnitPath f p q g volume) old new
    (λ x w. let same = w.2.1 in (
      ap (λ (y : Path). y.fabric) same,
      ap (λ (y : Path). y.initiator) same,
      ap (λ (y : Path). y.target) same,
      ap (λ (y : Path). y.volume) same,
      ap (λ (y : Path). map.get g.units y.unit) same ∙ (entry_decides nat_cmp nat_cmp_total set.nat_cmp-IsAntisymmetric g.units w.0.0 w.0.1).1 (subst (λ ys. Contains ys w.0) is w.1) ∙ ap (λ (v : List ℕ). Some v) w.2.0,
    ))
    (λ x w. ((x.unit, volume), subst (λ ys. Contains ys (x.unit, volume)) (sym is) ((entry_decides nat_cmp nat_cmp_total set.nat_cmp-IsAntisymmetric g.units x.unit volume).0 w.4), (refl, λ i. record { fabric = w.0 i; initiator = w.1 i; target = w.2 i; volume = w.3 i; unit = x.unit })))

module _ (w : Records) (ports : List Port) (g : StorageGroupRows) (volume : List ℕ) where
  pub targets_added : (names : List ℕ) (old new : Path → Type 0) → set.from_list names ≡ g.targets → Adds (Before (NamedPath w ports g volume) names) old new → Adds (GroupPath w ports volume g) old new
  targets_added names old new is = adds_as (Before (NamedPath w ports g volume) names) (GroupPath w ports volume g) old new
      (λ x h. (h.0, sym (ap (λ (s : set.FinSet nat_cmp). set.contains s h.0) is) ∙ (listed_decides nat_cmp_total set.nat_cmp-IsAntisymmetric names h.0).1 h.1, h.2))
      (λ x h. (h.0, (listed_decides nat_cmp_total set.nat_cmp-IsAntisymmetric names h.0).0 (ap (λ (s : set.FinSet nat_cmp). set.contains s h.0) is ∙ h.1), h.2))

-- ---- those that are there

-- a path, if its ports may communicate
abbrev pub ByPass : Records → Path → Path → Type 0
ByPass w k x = (x ≡ k) × MayPass w k

pub pass_added : (w : Records) (k : Path) (old new : Path → Type 0) → MayPass w k → Adds (λ x. x ≡ k) old new → Adds (ByPass w k) old new
pass_added w k old new may = adds_as (λ x. x ≡ k) (ByPass w k) old new (λ x e. (e, may)) (λ x h. h.0)

pub passes_are : (w : Records) (paths : BTreeSet Path) (ks : List Path) (s t : BTreeSet Path) → s.keys ≡ [] → ks ≡ paths.keys → Adds (Before (ByPass w) ks) (Has s) (Has t) → (x : Path) → (Has t x → Has paths x × MayPass w x) × (Has paths x × MayPass w x → Has t x)
passes_are w paths ks s t none is a x =
    let d = from_none (Before (ByPass w) ks) (Has s) (Has t) (none_in path_total path_exact s none) a x in
    let iff = btree_set_contains_iff path_total path_exact paths x in (
      (λ h.
          let k = d.0 h in (
            iff.1 (subst (λ ys. Contains ys x) is (subst (Contains ks) (sym k.2.0) k.1)),
            subst (MayPass w) (sym k.2.0) k.2.1,
          )),
      λ h. d.1 (x, subst (λ ys. Contains ys x) (sym is) (iff.0 h.0), (refl, h.1)),
    )

pub not_bare_now : (rs : List (Bor StorageGroupRows)) → ¬ (rs ≡ []) → ¬ (map now rs ≡ [])
not_bare_now [] some none = some refl
not_bare_now (r ∷ rs) some none = absurd cc
