-- A configuration that fits an inventory fits it after each command on it.
use Rattle.std.proofs.Common.{ℕ, ◌≡◌, ◌≢◌, ◌⊎◌, inl, inr, List, [], Contains, Option, None, Some, Bool, true, false, cond, nat_eq, refl, sym, ap, ◌∙◌, subst}
use mathlib.Core.Bool.{true≢false}
use Rattle.std.specs.List.{list_any}
use Rattle.std.specs.Option.{option_map, option_and_then}
use Rattle.std.specs.FinMap as map
use Rattle.std.proofs.lemmas.Bool.Decides.{Decides-eqb}
use Rattle.std.proofs.lemmas.Map.Made.{is_member-Decides}
use Rattle.fab_reach_base.specs.fab_lemmas.Firsts.{HasAt}
use Rattle.fab_reach_base.specs.fab_names.Orders.{name_cmp}
use Rattle.fab_reach_base.specs.fab_names.declared.fabric.Fabric.{Fabric}
use Rattle.fab_reach_base.proofs.fab_names.OrderLaws.{name_total}
use Rattle.fab_reach_base.specs.fab_inventory.declared.port.Known.{Known}
use Rattle.fab_reach_base.specs.fab_inventory.declared.port.PortRow.{PortRow}
use Rattle.fab_reach_base.specs.fab_inventory.declared.holder.Holder.{Holder}
use Rattle.fab_reach_base.specs.fab_inventory.declared.holder.HolderKind.{HolderKind}
use Rattle.fab_reach_base.specs.fab_inventory.declared.holder.HolderKind.TheVariants as kind
use Rattle.fab_reach_base.specs.fab_inventory.declared.holder.Volume.{Volume}
use Rattle.fab_reach_base.specs.fab_inventory.Holders.{holder_in, held_after, other_than, AreFree}
use Rattle.fab_reach_base.specs.fab_inventory.Imports.{IsImported}
use Rattle.fab_reach_base.specs.fab_inventory.Inventories.{InventoryRows, IsHost, IsArray, kind_of, HasNoOtherKind, IsHolderPut, IsHolderDropped}
use Rattle.fab_reach_base.specs.fab_inventory.Ports.{KnownPorts}
use Rattle.fab_reach_base.proofs.fab_inventory.NameTests.{same_name_tells, tie_tells}
use Rattle.fab_reach_base.proofs.fab_inventory.Soundness.{same_holder}
use Rattle.fab_reach_base.specs.fab_mapping_base.Fitting.{IsPortOf, IsVolumeOn}
use Rattle.fab_reach_base.specs.fab_mapping_base.Groups.{HoldsHost, HasTarget, IsOfArray, MapsVolume}
use Rattle.fab_reach_base.specs.fab_mapping.Mappings.{MappingRows}
use Rattle.fab_reach_base.specs.fab_mapping.Soundness.{Fits}
use Rattle.fab_desk_base.specs.Users.{LeavesGroup, IsMoved}

-- some host group has the host; some storage group is of the array, or targets the port, or maps the volume
abbrev pub UsesHost : MappingRows → List ℕ → Type 0
UsesHost m host = (n : List ℕ) × HasAt (map.get m.host_groups) (HoldsHost host) n

abbrev pub UsesArray : MappingRows → List ℕ → Type 0
UsesArray m array = (n : List ℕ) × HasAt (map.get m.groups) (IsOfArray array) n

abbrev pub Targets : MappingRows → ℕ → Type 0
Targets m q = (n : List ℕ) × HasAt (map.get m.groups) (HasTarget q) n

abbrev pub UsesVolume : MappingRows → List ℕ → Type 0
UsesVolume m volume = (n : List ℕ) × HasAt (map.get m.groups) (MapsVolume volume) n

-- what the groups use of one inventory is in the other too
record KeepsUsed (m : MappingRows) (old new : InventoryRows) : Type 0 where
  hosts : (host : List ℕ) → UsesHost m host → IsHost old.holders host → IsHost new.holders host
  arrays : (array : List ℕ) → UsesArray m array → IsArray old.holders array → IsArray new.holders array
  targets : (array : List ℕ) (q : ℕ) → UsesArray m array → IsArray old.holders array → Targets m q → IsPortOf old array q → IsPortOf new array q
  volumes : (array volume : List ℕ) → UsesVolume m volume → IsVolumeOn old array volume → IsVolumeOn new array volume

fits_still : (m : MappingRows) (old new : InventoryRows) → KeepsUsed m old new → Fits old m → Fits new m
fits_still m old new keeps fits = record {
  host_groups = λ n g at host has. keeps.hosts host (n, (g, at, has)) (fits.host_groups n g at host has);
  groups = λ n g at.
      let fit = fits.groups n g at in
      record {
        on_array = keeps.arrays g.array (n, (g, at, refl)) fit.on_array;
        targets = λ q has. keeps.targets g.array q (n, (g, at, refl)) fit.on_array (n, (g, at, has)) (fit.targets q has);
        volumes = λ u volume has. keeps.volumes g.array volume (n, (g, at, (u, has))) (fit.volumes u volume has);
      };
}

-- ---- maps

-- what is at a name after an insertion, and after a removal
at_insert : {X : Type 0} (m : map.FinMap name_cmp X) (k q : List ℕ) (v : X) → ((q ≡ k) × (map.get (map.insert m k v) q ≡ Some v)) ⊎ ((q ≢ k) × (map.get (map.insert m k v) q ≡ map.get m q))
at_insert m k q v = elim (tie_tells q k) [
  | inl t ↦ inl (t.1, map.get-insert name_total m k v q ∙ ap (λ b. cond b (Some v) (map.get m q)) t.0)
  | inr t ↦ inr (t.1, map.get-insert name_total m k v q ∙ ap (λ b. cond b (Some v) (map.get m q)) t.0)
]

at_other : {X : Type 0} (m : map.FinMap name_cmp X) (k q : List ℕ) → q ≢ k → map.get (map.remove m k) q ≡ map.get m q
at_other m k q apart = elim (tie_tells q k) [ inl t ↦ absurd (apart t.1) | inr t ↦ map.get-remove name_total m k q ∙ ap (λ b. cond b None (map.get m q)) t.0 ]

-- ---- imports

pub fits_import : (f : Fabric) (rows : List PortRow) (m : MappingRows) (old : InventoryRows) (ports : KnownPorts) → IsImported f rows old.ports ports → Fits old m → Fits (record old { ports = ports }) m
fits_import f rows m old ports imported = fits_still m old (record old { ports = ports }) (record {
  hosts = λ host u is. is;
  arrays = λ array u is. is;
  targets = λ array q u is t held. same_holder f rows old.ports ports imported q ∙ held;
  volumes = λ array volume u on. on;
})

-- ---- holders that are put

-- a number is listed where the test finds it
listed_decided : (listed : List ℕ) (q : ℕ) → (list_any (λ p. nat_eq p q) listed ≡ true → Contains listed q) × (Contains listed q → list_any (λ p. nat_eq p q) listed ≡ true)
listed_decided listed q = is_member-Decides {eq = λ a b. nat_eq b a} (λ x y. ((λ e. sym ((Decides-eqb y x).0 e)), λ e. (Decides-eqb y x).1 (sym e))) listed q

module _ (name : List ℕ) (holder : Holder) (listed : List ℕ) (old new : InventoryRows) (kind_stays : HasNoOtherKind old.holders name holder.kind) (free : AreFree (map.get old.ports) name listed) (put : IsHolderPut name holder listed old new) where
  -- each holder is of the kind that it was
  keeps_kind : (n : List ℕ) (k : HolderKind) → kind_of old.holders n ≡ Some k → kind_of new.holders n ≡ Some k
  keeps_kind n k was = ap (λ h. kind_of h n) put.holders ∙ elim (at_insert old.holders name n holder) [
    | inl t ↦ ap (option_map (λ (h : Holder). h.kind)) t.1 ∙ ap Some (sym (kind_stays k (ap (kind_of old.holders) (sym t.0) ∙ was)))
    | inr t ↦ ap (option_map (λ (h : Holder). h.kind)) t.1 ∙ was
  ]

  -- a port that no longer was its holder's would be one that is not listed
  by_test : (q : ℕ) (array : List ℕ) (b : Bool) → list_any (λ p. nat_eq p q) listed ≡ b → holder_in (map.get old.ports) q ≡ Some array → (array ≡ name → Contains listed q) → cond b (Some name) (other_than name (Some array)) ≡ Some array
  by_test q array true is held there = ap Some (sym (free q array ((listed_decided listed q).0 is) held))
  by_test q array false is held there = elim (same_name_tells array name) [
    | inl same ↦ absurd (true≢false (sym ((listed_decided listed q).1 (there same.1)) ∙ is))
    | inr apart ↦ ap (λ t. cond t None (Some array)) apart.0
  ]

  by_known : (q : ℕ) (array : List ℕ) (o : Option Known) → option_and_then (λ (k : Known). k.holder) o ≡ Some array → cond (list_any (λ p. nat_eq p q) listed) (Some name) (other_than name (Some array)) ≡ Some array
      → option_and_then (λ (k : Known). k.holder) (option_map (held_after name listed q) o) ≡ Some array
  by_known q array None held is = absurd cc
  by_known q array (Some k) held is = ap (λ h. cond (list_any (λ p. nat_eq p q) listed) (Some name) (other_than name h)) held ∙ is

  keeps_port : (q : ℕ) (array : List ℕ) → (array ≡ name → Contains listed q) → IsPortOf old array q → IsPortOf new array q
  keeps_port q array there held = ap (option_and_then (λ (k : Known). k.holder)) (put.ports q) ∙ by_known q array (map.get old.ports q) held (by_test q array (list_any (λ p. nat_eq p q) listed) refl held there)

  -- a target that is not listed leaves the array
  is_listed : (m : MappingRows) (q : ℕ) → Targets m q → (¬ LeavesGroup old m name listed q) → IsPortOf old name q → Contains listed q
  is_listed m q t none held = by (list_any (λ p. nat_eq p q) listed) refl
    where
      by : (b : Bool) → list_any (λ p. nat_eq p q) listed ≡ b → Contains listed q
      by true is = (listed_decided listed q).0 is
      by false is = absurd (none ((held, λ h. true≢false (sym ((listed_decided listed q).1 h) ∙ is)), t))

  pub fits_holder_put : (m : MappingRows) → (holder.kind ≡ kind.Array → (q : ℕ) → ¬ LeavesGroup old m name listed q) → Fits old m → Fits new m
  fits_holder_put m stay = fits_still m old new (record {
    hosts = λ host u is. keeps_kind host kind.Host is;
    arrays = λ array u is. keeps_kind array kind.Array is;
    targets = λ array q u is t held. keeps_port q array (λ same. is_listed m q t (stay (sym (kind_stays kind.Array (ap (kind_of old.holders) (sym same) ∙ is))) q) (subst (λ a. IsPortOf old a q) same held)) held;
    volumes = λ array volume u on. (on.0, ap (λ v. map.get v volume) put.volumes ∙ on.1, on.2);
  })

-- ---- volumes

pub fits_volume_put : (name : List ℕ) (x : Volume) (m : MappingRows) (old : InventoryRows) → (IsMoved old name x.array → ¬ UsesVolume m name) → Fits old m → Fits (record old { volumes = map.insert old.volumes name x }) m
fits_volume_put name x m old stays = fits_still m old (record old { volumes = map.insert old.volumes name x }) (record {
  hosts = λ host u is. is;
  arrays = λ array u is. is;
  targets = λ array q u is t held. held;
  volumes = λ array volume u on. elim (at_insert old.volumes name volume x) [
    | inl t ↦ (
      x,
      t.1,
      elim (same_name_tells x.array array) [
        | inl same ↦ same.1
        | inr apart ↦ absurd (stays (on.0, ap (map.get old.volumes) (sym t.0) ∙ on.1, λ e. apart.1 (sym e ∙ on.2)) (subst (UsesVolume m) t.0 u))
      ],
    )
    | inr t ↦ (on.0, t.1 ∙ on.1, on.2)
  ];
})

pub fits_volume_dropped : (name : List ℕ) (m : MappingRows) (old : InventoryRows) → (¬ UsesVolume m name) → Fits old m → Fits (record old { volumes = map.remove old.volumes name }) m
fits_volume_dropped name m old unused = fits_still m old (record old { volumes = map.remove old.volumes name }) (record {
  hosts = λ host u is. is;
  arrays = λ array u is. is;
  targets = λ array q u is t held. held;
  volumes = λ array volume u on. (on.0, at_other old.volumes name volume (λ same. unused (subst (UsesVolume m) same u)) ∙ on.1, on.2);
})

-- ---- holders that are dropped

-- the groups use the holder
abbrev pub UsesHolder : MappingRows → HolderKind → List ℕ → Type 0
UsesHolder m kind.Host n = UsesHost m n
UsesHolder m kind.Array n = UsesArray m n

module _ (name : List ℕ) (k : HolderKind) (m : MappingRows) (old new : InventoryRows) (is : kind_of old.holders name ≡ Some k) (unused : ¬ UsesHolder m k name) (dropped : IsHolderDropped name old new) where
  -- no host that is used is dropped, and no array
  other_host : (host : List ℕ) → UsesHost m host → IsHost old.holders host → host ≢ name
  other_host host u was same = let e : kind.Host ≡ k = (let f : ◌≡◌ {A = Option HolderKind} (Some kind.Host) (Some k) = sym was ∙ ap (kind_of old.holders) same ∙ is in cc) in unused (subst (λ j. UsesHolder m j name) e (subst (UsesHost m) same u))

  other_array : (array : List ℕ) → UsesArray m array → IsArray old.holders array → array ≢ name
  other_array array u was same = let e : kind.Array ≡ k = (let f : ◌≡◌ {A = Option HolderKind} (Some kind.Array) (Some k) = sym was ∙ ap (kind_of old.holders) same ∙ is in cc) in unused (subst (λ j. UsesHolder m j name) e (subst (UsesArray m) same u))

  -- other holders stay, and hold the ports that they held
  keeps_other : (n : List ℕ) (j : HolderKind) → n ≢ name → kind_of old.holders n ≡ Some j → kind_of new.holders n ≡ Some j
  keeps_other n j apart was = ap (λ h. kind_of h n) dropped.holders ∙ ap (option_map (λ (h : Holder). h.kind)) (at_other old.holders name n apart) ∙ was

  left_known : (q : ℕ) (array : List ℕ) (o : Option Known) → array ≢ name → option_and_then (λ (x : Known). x.holder) o ≡ Some array → option_and_then (λ (x : Known). x.holder) (option_map (held_after name [] q) o) ≡ Some array
  left_known q array None apart held = absurd cc
  left_known q array (Some x) apart held = ap (other_than name) held ∙ elim (same_name_tells array name) [ inl same ↦ absurd (apart same.1) | inr t ↦ ap (λ b. cond b None (Some array)) t.0 ]

  pub fits_holder_dropped : Fits old m → Fits new m
  fits_holder_dropped = fits_still m old new (record {
    hosts = λ host u was. keeps_other host kind.Host (other_host host u was) was;
    arrays = λ array u was. keeps_other array kind.Array (other_array array u was) was;
    targets = λ array q u was t held. ap (option_and_then (λ (x : Known). x.holder)) (dropped.ports q) ∙ left_known q array (map.get old.ports q) (other_array array u was) held;
    volumes = λ array volume u on. (on.0, ap (λ v. map.get v volume) dropped.volumes ∙ on.1, on.2);
  })
