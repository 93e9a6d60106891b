-- Paths that are found pair by pair.
use Rattle.std.proofs.Common.{◌≡◌, ◌<◌, ℕ, List, [], length, true, false, cond, Contains, Option, None, Some, IsTrue, inl, inr, refl, sym, ap, ◌∙◌, subst}
use mathlib.Core.Bool.{true≢false}
use Rattle.std.specs.Ordering.{nat_cmp}
use Rattle.std.specs.Cmp.{nat_cmp_total}
use Rattle.std.proofs.lemmas.Map.Views.{btree_set_contains_iff}
use Rattle.std.specs.BTreeMap as tree
use Rattle.std.specs.BTreeMap.{is_at}
use Rattle.std.specs.BTreeSet.{BTreeSet, contains, IsOrdered}
use Rattle.std.specs.FinMap as map
use Rattle.std.specs.FinSet as set
use Rattle.std.specs.Option.{option_map}
use Rattle.fab_mapping.specs.fab_mapping_base.fab_names.declared.fabric.Fabric.{Fabric}
use Rattle.fab_mapping.specs.fab_mapping_base.fab_names.Orders.{name_cmp}
use Rattle.fab_mapping.proofs.fab_mapping_base.fab_names.OrderLaws.{name_total, name_exact}
use Rattle.fab_mapping.specs.fab_mapping_base.fab_inventory.declared.port.Known.{Known}
use Rattle.fab_mapping.specs.fab_mapping_base.fab_inventory.declared.port.Port.{Port}
use Rattle.fab_mapping.specs.fab_mapping_base.fab_inventory.Ports.{port_at, port_of}
use Rattle.fab_mapping.proofs.fab_mapping_base.fab_lemmas.SeenSets.{listed_decides}
use Rattle.fab_mapping.specs.fab_mapping_base.fab_lemmas.MapsOfSets.{in_tree}
use Rattle.fab_mapping.specs.fab_mapping_base.Groups.{StorageGroupRows}
use Rattle.fab_mapping.specs.Mappings.{MappingRows}
use Rattle.fab_reach_base.specs.Adding.{Adds}
use Rattle.fab_reach_base.specs.Records.{Records}
use Rattle.fab_reach_base.specs.Orders.{path_cmp, Has, IsListOf}
use Rattle.fab_reach_base.specs.Reach.{IsPort, IsInitiator, PathOf, Reaches}
use Rattle.fab_reach_base.specs.Gathering.{Index, IsIndexOf, AreGroupsOf, MayMeet, UnitPath, GroupPath, HasTarget, IsTargeted, PathFrom, StopsAt}
use Rattle.fab_reach_base.specs.Limits.{MoreThan, IsPathsFault}
use Rattle.fab_reach_base.specs.PathOrder.{path_total, path_exact}
use Rattle.fab_reach_base.proofs.Adding.{Before, adds_as, adds_none, from_none}
use Rattle.fab_mapping.proofs.fab_mapping_base.fab_lemmas.SeenEntries.{entry_decides}
use Rattle.fab_reach_base.proofs.Sets.{adds_insert, none_in}
use Rattle.fab_reach_base.proofs.Same.{same_some, same_fabric}
use Rattle.fab_reach_base.specs.declared.listing.PathsFault.{PathsFault}
use Rattle.fab_reach_base.specs.declared.listing.PathsFault.TheVariants.{TooMany, Memory}
use Rattle.fab_reach_base.specs.declared.path.Path.{Path}

-- an insertion adds its path
pub adds_path : (s n : BTreeSet Path) (k : Path) → ((q : Path) → contains path_cmp n q ≡ cond (is_at (path_cmp k) q) true (contains path_cmp s q)) → Adds (λ y. y ≡ k) (Has s) (Has n)
adds_path = adds_insert path_total path_exact

-- ---- the paths of a pair

abbrev pub path_of : Fabric → ℕ → ℕ → ℕ × List ℕ → Path
path_of f p q e = record { fabric = f; initiator = p; target = q; volume = e.1; unit = e.0 }

-- a volume at a unit
abbrev pub ByUnit : Fabric → ℕ → ℕ → ℕ × List ℕ → Path → Type 0
ByUnit f p q e x = x ≡ path_of f p q e

pub units_added : (f : Fabric) (p q : ℕ) (g : StorageGroupRows) (es : List (ℕ × List ℕ)) (old new : Path → Type 0) → es ≡ map.entries g.units → Adds (Before (ByUnit f p q) es) old new → Adds (UnitPath f p q g) old new
units_added f p q g es old new is = adds_as (Before (ByUnit f p q) es) (UnitPath f p q g) old new
    (λ x w. (
      ap (λ (y : Path). y.fabric) w.2,
      ap (λ (y : Path). y.initiator) w.2,
      ap (λ (y : Path). y.target) w.2,
      ap (λ (y : Path). map.get g.units y.unit) w.2 ∙ (entry_decides nat_cmp nat_cmp_total set.nat_cmp-IsAntisymmetric g.units w.0.0 w.0.1).1 (subst (λ ys. Contains ys w.0) is w.1) ∙ ap (λ (y : Path). Some y.volume) (sym w.2),
    ))
    (λ x w. ((x.unit, x.volume), subst (λ ys. Contains ys (x.unit, x.volume)) (sym is) ((entry_decides nat_cmp nat_cmp_total set.nat_cmp-IsAntisymmetric g.units x.unit x.volume).0 w.3), λ i. record { fabric = w.0 i; initiator = w.1 i; target = w.2 i; volume = x.volume; unit = x.unit }))

module _ (m : MappingRows) (f : Fabric) (p q : ℕ) (n : List ℕ) where
  pub group_added : (g : StorageGroupRows) (old new : Path → Type 0) → map.get m.groups n ≡ Some g → set.contains g.targets q ≡ true → Adds (UnitPath f p q g) old new → Adds (GroupPath m f p q n) old new
  group_added g old new at target = adds_as (UnitPath f p q g) (GroupPath m f p q n) old new (λ x w. (g, at, target, w)) (λ x w. subst (λ h. UnitPath f p q h x) (same_some w.1 at) w.3)

  pub no_target : (g : StorageGroupRows) (old : Path → Type 0) → map.get m.groups n ≡ Some g → set.contains g.targets q ≡ false → Adds (GroupPath m f p q n) old old
  no_target g old at target = adds_none (GroupPath m f p q n) old (λ x w. true≢false (sym w.2 ∙ ap (λ (h : StorageGroupRows). set.contains h.targets q) (same_some w.1 at) ∙ target))

  pub no_group : (old : Path → Type 0) → map.get m.groups n ≡ None → Adds (GroupPath m f p q n) old old
  no_group old none = adds_none (GroupPath m f p q n) old (λ x w. let e : ◌≡◌ {A = Option StorageGroupRows} None (Some w.0) = sym none ∙ w.1 in absurd cc)

-- a pair of ports of which one is a host's
module _ (w : Records) (o : Option (BTreeSet (List ℕ))) (host : List ℕ) (are : AreGroupsOf w.config.mapping host o) (p q : Port) (p_is : IsPort w p.name p) (q_is : IsPort w q.name q) (initiator : IsInitiator w p host) where
  -- what a path of the pair says
  meets_in : (x : Path) → PathOf w p.name q.name x → MayMeet w p q x.fabric
  meets_in x h =
      let from : h.from ≡ p = same_some h.from_is p_is in
      let to : h.to ≡ q = same_some h.to_is q_is in
      subst (λ y. MayMeet w y q x.fabric) from (subst (λ y. MayMeet w h.from y x.fabric) to (h.meets.to, h.meets.here, h.meets.joined))

  served_by : (x : Path) (h : PathOf w p.name q.name x) → (in_tree name_cmp o h.mapped.0 ≡ true) × GroupPath w.config.mapping x.fabric p.name q.name h.mapped.0 x
  served_by x h =
      let m = h.mapped in
      let c = m.4 in
      let same : h.host ≡ host = same_some h.meets.from.held (ap (λ (y : Port). y.holder) (same_some h.from_is p_is) ∙ initiator.held) in (
        (are m.0).1 (m.1, m.2, m.3, (c.0, c.2, (c.1, c.3, subst (λ y. set.contains c.1.hosts y ≡ true) same c.4.0))),
        (m.1, m.2, subst (λ y. set.contains m.1.targets y ≡ true) h.target c.4.1, (refl, h.initiator, h.target, c.4.2)),
      )

  made : (f : Fabric) (n : List ℕ) (x : Path) → MayMeet w p q f → in_tree name_cmp o n ≡ true → GroupPath w.config.mapping f p.name q.name n x → PathOf w p.name q.name x
  made f n x meets listed h =
      let s = (are n).0 listed in
      let u = h.3 in
      let same : s.0 ≡ h.0 = same_some s.1 h.1 in record {
        initiator = u.1;
        target = u.2;
        from = p;
        from_is = p_is;
        to = q;
        to_is = q_is;
        host = host;
        meets = subst (λ g. Rattle.fab_reach_base.specs.Reach.Meets w g p q host) (sym u.0) (record { from = initiator; to = meets.0; here = meets.1; joined = meets.2 });
        mapped = (n, h.0, h.1, ap (λ (g : StorageGroupRows). g.exposed) (sym same) ∙ s.2, (s.3.0, s.3.2.0, ap (λ (g : StorageGroupRows). set.contains g.host_groups s.3.0) (sym same) ∙ s.3.1, s.3.2.1, (s.3.2.2, subst (λ y. set.contains h.0.targets y ≡ true) (sym u.2) h.2, u.3)));
      }

  pub not_served : (old : Path → Type 0) → o ≡ None → Adds (PathOf w p.name q.name) old old
  not_served old none = adds_none (PathOf w p.name q.name) old (λ x h. true≢false (sym (served_by x h).0 ∙ ap (λ g. in_tree name_cmp g h.mapped.0) none))

  -- the paths by each group of the host
  pub pair_added : (f : Fabric) (groups : BTreeSet (List ℕ)) (ns : List (List ℕ)) (old new : Path → Type 0) → MayMeet w p q f → o ≡ Some groups → ns ≡ groups.keys
      → Adds (Before (GroupPath w.config.mapping f p.name q.name) ns) old new → Adds (PathOf w p.name q.name) old new
  pair_added f groups ns old new meets at is = adds_as (Before (GroupPath w.config.mapping f p.name q.name) ns) (PathOf w p.name q.name) old new
      (λ x h. made f h.0 x meets (listed h.0 h.1) h.2)
      (λ x h.
      let s = served_by x h in
      let same : x.fabric ≡ f = same_fabric p x.fabric f (meets_in x h).1 meets.1 in
      (h.mapped.0, among h.mapped.0 s.0, subst (λ g. GroupPath w.config.mapping g p.name q.name h.mapped.0 x) same s.1))
    where
      iff : (n : List ℕ) → (IsTrue (contains name_cmp groups n) → Contains groups.keys n) × (Contains groups.keys n → IsTrue (contains name_cmp groups n))
      iff n = btree_set_contains_iff name_total name_exact groups n

      listed : (n : List ℕ) → Contains ns n → in_tree name_cmp o n ≡ true
      listed n h = ap (λ g. in_tree name_cmp g n) at ∙ (iff n).1 (subst (λ ys. Contains ys n) is h)

      among : (n : List ℕ) → in_tree name_cmp o n ≡ true → Contains ns n
      among n h = subst (λ ys. Contains ys n) (sym is) ((iff n).0 (sym (ap (λ g. in_tree name_cmp g n) at) ∙ h))

-- ---- targets

-- a target
abbrev pub Is : ℕ → ℕ → Type 0
Is t q = q ≡ t

-- the set has the target
abbrev pub HasPort : BTreeSet ℕ → ℕ → Type 0
HasPort s q = IsTrue (contains nat_cmp s q)

pub adds_port : (s n : BTreeSet ℕ) (k : ℕ) → ((q : ℕ) → contains nat_cmp n q ≡ cond (is_at (nat_cmp k) q) true (contains nat_cmp s q)) → Adds (λ y. y ≡ k) (HasPort s) (HasPort n)
adds_port = adds_insert nat_cmp_total set.nat_cmp-IsAntisymmetric

pub targets_added : (targets : set.FinSet nat_cmp) (ts : List ℕ) (old new : ℕ → Type 0) → set.from_list ts ≡ targets → Adds (Before Is ts) old new → Adds (λ q. set.contains targets q ≡ true) old new
targets_added targets ts old new is = adds_as (Before Is ts) (λ q. set.contains targets q ≡ true) old new
    (λ q w. sym (ap (λ s. set.contains s q) is) ∙ (listed_decides nat_cmp_total set.nat_cmp-IsAntisymmetric ts q).1 (subst (Contains ts) (sym w.2) w.1))
    (λ q h. (q, (listed_decides nat_cmp_total set.nat_cmp-IsAntisymmetric ts q).0 (ap (λ s. set.contains s q) is ∙ h), refl))

pub by_name : (m : MappingRows) (n : List ℕ) (g : StorageGroupRows) (old new : ℕ → Type 0) → map.get m.groups n ≡ Some g → Adds (λ q. set.contains g.targets q ≡ true) old new → Adds (HasTarget m n) old new
by_name m n g old new at = adds_as (λ q. set.contains g.targets q ≡ true) (HasTarget m n) old new (λ q h. (g, at, h)) (λ q w. ap (λ (h : StorageGroupRows). set.contains h.targets q) (same_some at w.1) ∙ w.2)

pub no_name : (m : MappingRows) (n : List ℕ) → map.get m.groups n ≡ None → (q : ℕ) → ¬ HasTarget m n q
no_name m n none q w = let e : ◌≡◌ {A = Option StorageGroupRows} None (Some w.0) = sym none ∙ w.1 in absurd cc

pub all_offered : (m : MappingRows) (groups : BTreeSet (List ℕ)) (ns : List (List ℕ)) (s t : BTreeSet ℕ) → s.keys ≡ [] → ns ≡ groups.keys → Adds (Before (HasTarget m) ns) (HasPort s) (HasPort t)
    → (q : ℕ) → (HasPort t q → IsTargeted m groups q) × (IsTargeted m groups q → HasPort t q)
all_offered m groups ns s t none is a q =
    let d = from_none (Before (HasTarget m) ns) (HasPort s) (HasPort t) (none_in nat_cmp_total set.nat_cmp-IsAntisymmetric s none) a q in (
      (λ h. let w = d.0 h in (w.0, (btree_set_contains_iff name_total name_exact groups w.0).1 (subst (λ ys. Contains ys w.0) is w.1), w.2)),
      λ w. d.1 (w.0, subst (λ ys. Contains ys w.0) (sym is) ((btree_set_contains_iff name_total name_exact groups w.0).0 w.1), w.2),
    )

-- ---- the paths from a port

module _ (w : Records) where
  -- a target of which no port is known
  pub no_port : (p q : ℕ) → port_at w.inventory.ports q ≡ None → (x : Path) → ¬ PathOf w p q x
  no_port p q none x h = let e : ◌≡◌ {A = Option Port} None (Some h.to) = sym none ∙ h.to_is in absurd cc

  -- an initiator of which no port is known
  pub none_from : (p : ℕ) → port_at w.inventory.ports p ≡ None → (x : Path) → ¬ PathFrom w p x
  none_from p none x h = let e : ◌≡◌ {A = Option Port} None (Some h.from) = sym none ∙ h.from_is in absurd cc

  -- one that no host holds
  pub no_host : (name : ℕ) (p : Port) → IsPort w name p → ((h : List ℕ) → ¬ IsInitiator w p h) → (x : Path) → ¬ PathFrom w name x
  no_host name p is none x h = none h.host (subst (λ y. IsInitiator w y h.host) (same_some h.from_is is) h.meets.from)

  -- a path of a pair is a path
  pub reaches : (p q : ℕ) (x : Path) → PathOf w p q x → Reaches w x
  reaches p q x h = subst (λ y. PathOf w y x.target x) (sym h.initiator) (subst (λ y. PathOf w p y x) (sym h.target) h)

  pub reaches_from : (p : ℕ) (x : Path) → PathFrom w p x → Reaches w x
  reaches_from p x h = reaches p x.target x h

  pub from_pair : (p q : ℕ) (x : Path) → PathOf w p q x → PathFrom w p x
  from_pair p q x h = subst (λ y. PathOf w p y x) (sym h.target) h

  -- the port of a name has it
  pub name_of : (name : ℕ) (p : Port) → IsPort w name p → p.name ≡ name
  name_of name p is = by (map.get w.inventory.ports name) is
    where
      by : (o : Option Known) → option_map (port_of name) o ≡ Some p → p.name ≡ name
      by None e = let f : ◌≡◌ {A = Option Port} None (Some p) = e in absurd cc
      by (Some k) e = let f : Some (port_of name k) ≡ Some p = e in let same : port_of name k ≡ p = cc in ap (λ (y : Port). y.name) (sym same)

  pub is_own : (name : ℕ) (p : Port) → IsPort w name p → IsPort w p.name p
  is_own name p is = ap (port_at w.inventory.ports) (name_of name p is) ∙ is

  -- the paths from a port to the targets of its host's groups
  pub port_added : (t : Index) (host : List ℕ) (p : Port) (groups : BTreeSet (List ℕ)) (s : BTreeSet ℕ) (qs : List ℕ) (old new : Path → Type 0) → IsIndexOf w.config.mapping t → IsPort w p.name p → IsInitiator w p host → tree.get name_cmp t host ≡ Some groups
      → ((q : ℕ) → (HasPort s q → IsTargeted w.config.mapping groups q) × (IsTargeted w.config.mapping groups q → HasPort s q)) → qs ≡ s.keys
      → Adds (Before (PathOf w p.name) qs) old new → Adds (PathFrom w p.name) old new
  port_added t host p groups s qs old new index p_is initiator at offered is = adds_as (Before (PathOf w p.name) qs) (PathFrom w p.name) old new
      (λ x h. from_pair p.name h.0 x h.2)
      (λ x h.
      let own : PathOf w p.name h.to.name x = subst (λ q. PathOf w p.name q x) (sym (name_of x.target h.to h.to_is)) h in
      let b = served_by w (tree.get name_cmp t host) host (λ n. index (host, n)) p h.to p_is (is_own x.target h.to h.to_is) initiator x own in
      let g = b.1 in
      let to : IsTargeted w.config.mapping groups x.target = (own.mapped.0, sym (ap (λ o. in_tree name_cmp o own.mapped.0) at) ∙ b.0, (g.0, g.1, ap (set.contains g.0.targets) (sym (name_of x.target h.to h.to_is)) ∙ g.2)) in
      (x.target, subst (λ ys. Contains ys x.target) (sym is) ((btree_set_contains_iff nat_cmp_total set.nat_cmp-IsAntisymmetric s x.target).0 ((offered x.target).1 to)), h))

  -- a host that no exposed storage group serves
  pub not_served_from : (t : Index) (host : List ℕ) (p : Port) (old : Path → Type 0) → IsIndexOf w.config.mapping t → IsPort w p.name p → IsInitiator w p host → tree.get name_cmp t host ≡ None → Adds (PathFrom w p.name) old old
  not_served_from t host p old index p_is initiator none = adds_none (PathFrom w p.name) old (λ x h.
      let own : PathOf w p.name h.to.name x = subst (λ q. PathOf w p.name q x) (sym (name_of x.target h.to h.to_is)) h in
      let b = served_by w (tree.get name_cmp t host) host (λ n. index (host, n)) p h.to p_is (is_own x.target h.to h.to_is) initiator x own in
      true≢false (sym b.0 ∙ ap (λ o. in_tree name_cmp o own.mapped.0) none))

  -- what is known of a port
  pub known : (name : ℕ) (p : Port) → IsPort w name p → (k : Known) × (map.get w.inventory.ports name ≡ Some k)
  known name p is = by (map.get w.inventory.ports name) refl is
    where
      by : (o : Option Known) → map.get w.inventory.ports name ≡ o → option_map (port_of name) o ≡ Some p → (k : Known) × (map.get w.inventory.ports name ≡ Some k)
      by None at e = let f : ◌≡◌ {A = Option Port} None (Some p) = e in absurd cc
      by (Some k) at e = (k, at)

  -- the paths from a known port
  abbrev pub ByPort : ℕ × Known → Path → Type 0
  ByPort e x = PathFrom w e.0 x

  pub all_added : (es : List (ℕ × Known)) (old new : Path → Type 0) → es ≡ map.entries w.inventory.ports → Adds (Before ByPort es) old new → Adds (Reaches w) old new
  all_added es old new is = adds_as (Before ByPort es) (Reaches w) old new
      (λ x h. reaches_from h.0.0 x h.2)
      (λ x h.
      let k = known x.initiator h.from h.from_is in
      ((x.initiator, k.0), subst (λ ys. Contains ys (x.initiator, k.0)) (sym is) ((entry_decides nat_cmp nat_cmp_total set.nat_cmp-IsAntisymmetric w.inventory.ports x.initiator k.0).0 k.1), h))

  -- what the paths of one pair add
  pub pair_of : (p q : ℕ) (port : Port) (old new : Path → Type 0) → IsPort w q port → Adds (PathOf w p port.name) old new → Adds (PathOf w p q) old new
  pair_of p q port old new is a = subst (λ y. Adds (PathOf w p y) old new) (name_of q port is) a

  -- a set past the limit
  pub more_than : (most : ℕ) (s t : BTreeSet Path) (fault : PathsFault) → s.keys ≡ [] → StopsAt most (Reaches w) s t fault → IsPathsFault most (Reaches w) fault
  more_than most s t TooMany none h = record {
    some = t.keys;
    sorted = h.1;
    sound = λ x among. elim (h.0 x ((btree_set_contains_iff path_total path_exact t x).1 among)) [ inl o ↦ absurd (none_in path_total path_exact s none x o) | inr r ↦ r ];
    many = h.2;
  }
  more_than most s t Memory none h = tt

  -- a set of all paths that is past the limit
  pub all_too_many : (most : ℕ) (t : BTreeSet Path) → IsOrdered path_cmp t → ((x : Path) → (Has t x → Reaches w x) × (Reaches w x → Has t x)) → most < length t.keys → MoreThan most (Reaches w)
  all_too_many most t ordered all many = record {
    some = t.keys;
    sorted = ordered;
    sound = λ x among. (all x).0 ((btree_set_contains_iff path_total path_exact t x).1 among);
    many = many;
  }

-- a set that was filled from nothing
pub filled : (P : Path → Type 0) (s t : BTreeSet Path) → s.keys ≡ [] → Adds P (Has s) (Has t) → (x : Path) → (Has t x → P x) × (P x → Has t x)
filled P s t none a = from_none P (Has s) (Has t) (none_in path_total path_exact s none) a

-- a set in order
pub listed_all : (P : Path → Type 0) (t : BTreeSet Path) (xs : List Path) → IsOrdered path_cmp t → xs ≡ t.keys → ((x : Path) → (Has t x → P x) × (P x → Has t x)) → IsListOf P xs
listed_all P t xs ordered is all = subst (IsListOf P) (sym is) (record {
  sorted = ordered;
  sound = λ x h. (all x).0 ((btree_set_contains_iff path_total path_exact t x).1 h);
  complete = λ x h. (btree_set_contains_iff path_total path_exact t x).0 ((all x).1 h);
})
