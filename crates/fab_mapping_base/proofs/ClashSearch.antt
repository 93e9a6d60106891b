-- What the search for a clash rests on: pairs of storage groups, hosts, and the definition of a clash.
use Rattle.std.proofs.Common.{ℕ, ◌≡◌, List, ◌∷◌, ◌++◌, Bool, true, false, Contains, Option, None, Some, MatchOption, ◌⊎◌, inl, inr, refl, sym, ap, ◌∙◌, subst}
use mathlib.Core.Bool.{true≢false}
use Rattle.std.specs.declared.cmp.Ordering.{Ordering}
use Rattle.std.specs.declared.cmp.Ordering.TheVariants.{Less, Equal, Greater}
use Rattle.std.specs.Ordering.{is_gt, nat_cmp, eq_by_cmp}
use Rattle.std.specs.BTreeMap as tree
use Rattle.std.specs.BTreeSet.{BTreeSet, contains}
use Rattle.std.specs.FinMap as fin
use Rattle.std.specs.FinSet as set
use Rattle.std.proofs.lemmas.Option.{slice_get_within, slice_get-get_or, get_or_from_slice_get}
use Rattle.std.specs.List.{slice_get, AllByRecursion, list_any}
use Rattle.std.specs.Map.{keys_of}
use Rattle.std.specs.List.Sorted.{IsStrictlySortedBy}
use Rattle.fab_inventory.specs.fab_lemmas.Firsts.{IsFirstWith}
use Rattle.fab_inventory.specs.fab_lemmas.Adding.{Adds, Among}
use Rattle.fab_inventory.specs.fab_lemmas.MapsOfSets.{in_tree}
use Rattle.fab_inventory.proofs.fab_lemmas.Leasts.{least_as}
use Rattle.fab_inventory.specs.fab_names.Orders.{name_cmp}
use Rattle.fab_inventory.proofs.fab_names.OrderLaws.{name_total, name_exact}
use Rattle.fab_mapping_base.specs.declared.nexus.Nexus.{Nexus}
use Rattle.fab_mapping_base.specs.Groups.{StorageGroupRows}
use Rattle.fab_mapping_base.specs.Nexuses.{nexus_cmp}
use Rattle.fab_mapping_base.specs.Clashes.{HostGroups, StorageGroups, IsExposed, Maps, ClashesIn, IsLeastClashIn, HasNoClashIn}
use Rattle.fab_mapping_base.specs.ClashSearch.{Index, lists, IsShared, IsUnlike, MeetsTwo, IsLeastOf, MeetsAt, IsKnown, AreFine, ServesHost, ServesAt, MeetsIn}
use Rattle.fab_mapping_base.proofs.NexusOrder.{nexus_upto, host_below}
use Rattle.fab_mapping_base.proofs.Walked.{least_has, none_has, key_looked_up}

-- the least target and the least unit make the least nexus
pub least_pair : (host : List ℕ) (a b : StorageGroupRows) (q u : ℕ) → IsFirstWith nat_cmp (IsShared a b) q → IsFirstWith nat_cmp (IsUnlike a b) u → IsLeastOf (MeetsTwo host a b) (Some (record { host = host; target = q; unit = u }))
least_pair host a b q u target unit = (
  record { host = refl; target = target.0; unit = unit.0 },
  λ m h. nexus_upto (record { host = host; target = q; unit = u }) m (sym h.host) (target.1 m.target h.target) (unit.1 m.unit h.unit),
)

-- ---- two places

same_group : {a b : StorageGroupRows} → Some a ≡ Some b → a ≡ b
same_group e = cc

-- the storage groups at two places
pub least_at : (gs : List StorageGroupRows) (host : List ℕ) (i j : ℕ) (a b : StorageGroupRows) (o : Option Nexus) → slice_get gs i ≡ Some a → slice_get gs j ≡ Some b → IsLeastOf (MeetsTwo host a b) o → IsLeastOf (MeetsAt gs host i j) o
least_at gs host i j a b o first second = least_as nexus_cmp (MeetsTwo host a b) (MeetsAt gs host i j) o (λ n h. (a, b, first, second, h))
    (λ n w. subst (λ x. MeetsTwo host x b n) (same_group (sym w.2 ∙ first)) (subst (λ y. MeetsTwo host w.0 y n) (same_group (sym w.3 ∙ second)) w.4))

-- a pair that gives one host none gives no host any
pub fine_more : (gs : List StorageGroupRows) (old new : List Bool) (host : List ℕ) (i j : ℕ) (a b : StorageGroupRows) → slice_get gs i ≡ Some a → slice_get gs j ≡ Some b → ((n : Nexus) → ¬ MeetsTwo host a b n)
    → ((p q : ℕ) → IsKnown new p q → IsKnown old p q ⊎ ((p ≡ i) × (q ≡ j))) → AreFine gs old → AreFine gs new
fine_more gs old new host i j a b first second none more fine p q known at n w = elim (more p q known) [
  | inl k ↦ fine p q k at n w
  | inr is ↦
      let a_is : w.0 ≡ a = same_group (sym w.2 ∙ ap (slice_get gs) is.0 ∙ first) in
      let b_is : w.1 ≡ b = same_group (sym w.3 ∙ ap (slice_get gs) is.1 ∙ second) in
      none (record { host = host; target = n.target; unit = n.unit }) (record { host = refl; target = subst (λ x. IsShared x b n.target) a_is (subst (λ y. IsShared w.0 y n.target) b_is w.4.target); unit = subst (λ x. IsUnlike x b n.unit) a_is (subst (λ y. IsUnlike w.0 y n.unit) b_is w.4.unit) })
]

-- ---- host by host
module _ (t : Index) (gs : List StorageGroupRows) where
  -- some nexus of the host is met twice
  abbrev pub MeetsFor : List ℕ → Type 0
  MeetsFor host = (m : Nexus) × (m.host ≡ host) × MeetsIn t gs m

  -- by two of the places of a host
  abbrev pub ByPlaces : List ℕ → BTreeSet ℕ → Nexus → Type 0
  ByPlaces host places = Among nat_cmp places (λ i. Among nat_cmp places (MeetsAt gs host i))

  listed_at : (host : List ℕ) (places : BTreeSet ℕ) (n : Nexus) (i : ℕ) → tree.get name_cmp t host ≡ Some places → n.host ≡ host → lists t (n.host, i) ≡ contains nat_cmp places i
  listed_at host places n i at same = ap (λ h. lists t (h, i)) same ∙ ap (λ o. in_tree nat_cmp o i) at

  pub to_meets : (host : List ℕ) (places : BTreeSet ℕ) (n : Nexus) → tree.get name_cmp t host ≡ Some places → ByPlaces host places n → (n.host ≡ host) × MeetsIn t gs n
  to_meets host places n at w =
      let two = w.2.2 in
      let same : n.host ≡ host = two.4.host in (
        same,
        (w.0, w.2.0, listed_at host places n w.0 at same ∙ w.1, listed_at host places n w.2.0 at same ∙ w.2.1, subst (λ h. MeetsAt gs h w.0 w.2.0 n) (sym same) two),
      )

  pub from_meets : (host : List ℕ) (places : BTreeSet ℕ) (n : Nexus) → tree.get name_cmp t host ≡ Some places → n.host ≡ host → MeetsIn t gs n → ByPlaces host places n
  from_meets host places n at same w = (w.0, sym (listed_at host places n w.0 at same) ∙ w.2, (w.1, sym (listed_at host places n w.1 at same) ∙ w.3, subst (λ h. MeetsAt gs h w.0 w.1 n) same w.4))

  -- a host that the index has
  some_places : (o : Option (BTreeSet ℕ)) (i : ℕ) → in_tree nat_cmp o i ≡ true → (s : BTreeSet ℕ) × (o ≡ Some s)
  some_places None i h = absurd (true≢false (sym h))
  some_places (Some s) i h = (s, refl)

  pub host_there : (n : Nexus) → MeetsIn t gs n → list_any (eq_by_cmp name_cmp n.host) (keys_of t.entries) ≡ true
  host_there n w = let s = some_places (tree.get name_cmp t n.host) w.0 w.2 in key_looked_up name_cmp t.entries n.host s.0 s.1

  -- a host with none
  pub host_without : (host : List ℕ) (places : BTreeSet ℕ) → tree.get name_cmp t host ≡ Some places → ((n : Nexus) → ¬ ByPlaces host places n) → ¬ MeetsFor host
  host_without host places at none w = none w.0 (from_meets host places w.0 at w.1 w.2)

  -- the least of the first host that has one
  pub first_least : (before : List (List ℕ × BTreeSet ℕ)) (host : List ℕ) (places : BTreeSet ℕ) (more : List (List ℕ × BTreeSet ℕ)) (n : Nexus) → t.entries ≡ before ++ (host, places) ∷ more → tree.IsOrdered name_cmp t → tree.get name_cmp t host ≡ Some places
      → AllByRecursion (λ (e : List ℕ × BTreeSet ℕ). ¬ MeetsFor e.0) before → IsLeastOf (ByPlaces host places) (Some n) → IsLeastOf (MeetsIn t gs) (Some n)
  first_least before host places more n is sorted at none least =
      let here = to_meets host places n at least.0 in (
        here.1,
        λ m w. by m w (name_cmp host m.host) refl (least_has name_total name_exact MeetsFor before (host, places) more (subst (λ (es : List (List ℕ × BTreeSet ℕ)). IsStrictlySortedBy name_cmp (keys_of es)) is sorted) none m.host
            (subst (λ (es : List (List ℕ × BTreeSet ℕ)). list_any (eq_by_cmp name_cmp m.host) (keys_of es) ≡ true) is (host_there m w)) (m, refl, w)),
      )
    where
      by : (m : Nexus) → MeetsIn t gs m → (r : Ordering) → name_cmp host m.host ≡ r → is_gt (name_cmp host m.host) ≡ false → is_gt (nexus_cmp n m) ≡ false
      by m w Less e low = host_below n m (ap (λ h. name_cmp h m.host) (to_meets host places n at least.0).0 ∙ e)
      by m w Equal e low = least.1 m (from_meets host places m at (sym (name_exact host m.host e)) w)
      by m w Greater e low = let f : true ≡ false = ap is_gt (sym e) ∙ low in absurd (true≢false f)

  -- no host has one
  pub no_least : (before : List (List ℕ × BTreeSet ℕ)) → before ≡ t.entries → AllByRecursion (λ (e : List ℕ × BTreeSet ℕ). ¬ MeetsFor e.0) before → IsLeastOf (MeetsIn t gs) None
  no_least before is none n w = none_has name_total name_exact MeetsFor before none n.host (subst (λ (es : List (List ℕ × BTreeSet ℕ)). list_any (eq_by_cmp name_cmp n.host) (keys_of es) ≡ true) (sym is) (host_there n w)) (n, refl, w)

-- ---- the definition
module _ (host_groups : HostGroups) (groups : StorageGroups) (gs : List StorageGroupRows) (t : Index) (exposed : (g : StorageGroupRows) → (Contains gs g → IsExposed groups g) × (IsExposed groups g → Contains gs g)) (served : Adds (ServesAt host_groups gs) (λ _. false) (lists t)) where
  -- an item at a place is one of the list
  at_place : (xs : List StorageGroupRows) (i : ℕ) (g : StorageGroupRows) → slice_get xs i ≡ Some g → Contains xs g
  at_place xs i g at = (i, slice_get_within xs i g at, get_or_from_slice_get xs i g g at)

  -- what a storage group that the index has maps
  maps_by : (n : Nexus) (i : ℕ) (g : StorageGroupRows) (v : List ℕ) → lists t (n.host, i) ≡ true → slice_get gs i ≡ Some g → set.contains g.targets n.target ≡ true → fin.get g.units n.unit ≡ Some v → Maps host_groups groups (n, v)
  maps_by n i g v listed at target unit =
      let w = elim ((served (n.host, i)).0 listed) as (λ _. ServesAt host_groups gs (n.host, i)) [ inl f ↦ absurd (true≢false (sym f)) | inr p ↦ p ] in
      let serves : ServesHost host_groups g n.host = subst (λ x. ServesHost host_groups x n.host) (same_group (sym w.1 ∙ at)) w.2 in
      let shown = (exposed g).0 (at_place gs i g at) in
      (shown.0, g, shown.1, shown.2, (serves.0, serves.2.0, serves.1, serves.2.1, (serves.2.2, target, unit)))

  -- a storage group that maps a volume has a place
  placed : (n : Nexus) (v : List ℕ) → Maps host_groups groups (n, v)
      → (i : ℕ) × (g : StorageGroupRows) × (lists t (n.host, i) ≡ true) × (slice_get gs i ≡ Some g) × (set.contains g.targets n.target ≡ true) × (fin.get g.units n.unit ≡ Some v)
  placed n v w =
      let p = (exposed w.1).1 (w.0, w.2, w.3) in
      let at : slice_get gs p.0 ≡ Some w.1 = slice_get-get_or gs p.0 w.1 p.1 ∙ ap Some p.2 in
      (p.0, w.1, (served (n.host, p.0)).1 (inr (w.1, at, (w.4.0, w.4.2, (w.4.1, w.4.3, w.4.4.0)))), at, w.4.4.1, w.4.4.2)

  pub to_clash : (n : Nexus) → MeetsIn t gs n → ClashesIn (Maps host_groups groups) n
  to_clash n w =
      let two = w.4.4 in
      (two.unit.0, two.unit.2.0, maps_by n w.0 w.4.0 two.unit.0 w.2 w.4.2 two.target.0 two.unit.1, maps_by n w.1 w.4.1 two.unit.2.0 w.3 w.4.3 two.target.1 two.unit.2.1, two.unit.2.2)

  pub from_clash : (n : Nexus) → ClashesIn (Maps host_groups groups) n → MeetsIn t gs n
  from_clash n w =
      let a = placed n w.0 w.2 in
      let b = placed n w.1 w.3 in
      (a.0, b.0, a.2, b.2, (a.1, b.1, a.3, b.3, record { host = refl; target = (a.4, b.4); unit = (w.0, a.5, (w.1, b.5, w.4)) }))

  pub answer : (o : Option Nexus) → IsLeastOf (MeetsIn t gs) o → MatchOption o (HasNoClashIn (Maps host_groups groups)) (IsLeastClashIn (Maps host_groups groups))
  answer None none = λ n w. none n (from_clash n w)
  answer (Some n) least = (to_clash n least.0, λ m w. least.1 m (from_clash m w))
