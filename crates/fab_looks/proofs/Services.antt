-- Hosts that are offered a volume, with the storage groups that do and the ports that are logged in.
use Rattle.std.proofs.Common.{◌≡◌, ℕ, List, [], ◌∷◌, ◌++◌, Contains, true, Option, None, Some, IsSome, is_some, inl, inr, refl, sym, ap, ◌∙◌, subst}
use mathlib.Core.Bool.{true≢false}
use Rattle.std.specs.declared.cmp.Ordering.{Ordering}
use Rattle.std.specs.Ordering.{nat_cmp}
use Rattle.std.specs.Cmp.{nat_cmp_total}
use Rattle.std.specs.Option.{option_map}
use Rattle.std.specs.Map.{lookup}
use Rattle.std.specs.BTreeMap.{IsOrdered, get, is_at}
use Rattle.std.specs.BTreeSet.{BTreeSet}
use Rattle.std.specs.FinMap as map
use Rattle.std.specs.FinSet as set
use Rattle.std.proofs.lemmas.List.Elements.{Contains-append_left, Contains-push}
use Rattle.std.proofs.lemmas.Map.Views.{btree_map_get_iff, btree_set_contains_iff}
use Rattle.fab_names.specs.Orders.{name_cmp}
use Rattle.fab_names.proofs.OrderLaws.{name_total, name_exact}
use Rattle.fab_names.specs.declared.fabric.Fabric.{Fabric}
use Rattle.fab_inventory.specs.declared.port.Known.{Known}
use Rattle.fab_inventory.specs.declared.port.Port.{Port}
use Rattle.fab_inventory.specs.Ports.{KnownPorts, port_of, port_at}
use Rattle.fab_lemmas.specs.MapsOfSets.{in_tree}
use Rattle.fab_lemmas.proofs.SeenEntries.{entry_decides}
use Rattle.fab_lemmas.proofs.Walks.{walked}
use Rattle.fab_mapping_base.specs.Groups.{StorageGroupRows, MapsVolume}
use Rattle.fab_mapping.specs.Mappings.{MappingRows}
use Rattle.fab_reach_base.specs.Adding.{Adds}
use Rattle.fab_reach_base.specs.Records.{Records}
use Rattle.fab_reach_base.specs.Gathering.{Index, Lists, Serves}
use Rattle.fab_reach_base.specs.Reach.{IsInitiator}
use Rattle.fab_reach_base.proofs.Adding.{Before, from_none}
use Rattle.fab_reach_base.proofs.Gathering.{is_own}
use Rattle.fab_reach_base.proofs.Same.{same_some}
use Rattle.fab_reach_base.proofs.Services.{none_listed}
use Rattle.fab_looks.specs.Links.{IsLogin, IsExposedBy, IsReached}
use Rattle.fab_looks.specs.Inner.Offers.{AreJust, IsLoggedIn}
use Rattle.fab_looks.specs.Inner.Serving.{ByGroup, IsIndexTo, IsNamedBy, PortIndex, ListsPort, ByLogin, AreLoginsOf, AreLoginsAt, IsPortNamedBy}
use Rattle.fab_looks.proofs.Filled.{just_as}
use Rattle.fab_looks.proofs.Ways.{from_path}

-- where the set has something, there is a set
tree_at : {K : Type 0} (R : K → K → Ordering) (o : Option (BTreeSet K)) (x : K) → in_tree R o x ≡ true → (s : BTreeSet K) × (o ≡ Some s)
tree_at R None x h = absurd (true≢false (sym h))
tree_at R (Some s) x h = (s, refl)

-- where the walk stands is one of the list
pub is_listed : {K : Type 0} (es before it more : List K) (k : K) → es ≡ before ++ it → it ≡ k ∷ more → Contains es k
is_listed es before it more k so_far next = subst (λ ys. Contains ys k) (sym (walked es before it more k so_far next)) (Contains-append_left (before ++ k ∷ []) more k (Contains-push before k))

-- ---- storage groups, by the hosts that they serve

module _ (m : MappingRows) (volume : List ℕ) where
  pub all_offer : (es : List (List ℕ × StorageGroupRows)) (t u : Index) → t.entries ≡ [] → es ≡ map.entries m.groups → Adds (Before (ByGroup m volume) es) (Lists t) (Lists u) → IsIndexTo m volume u
  all_offer es t u none is a e =
      let d = from_none (Before (ByGroup m volume) es) (Lists t) (Lists u) (none_listed t none) a e in (
        (λ h. let w = d.0 h in (w.0.1, ap (map.get m.groups) w.2.1 ∙ (entry_decides name_cmp name_total name_exact m.groups w.0.0 w.0.1).1 (subst (λ ys. Contains ys w.0) is w.1), w.2.0)),
        λ w. d.1 ((e.1, w.0), subst (λ ys. Contains ys (e.1, w.0)) (sym is) ((entry_decides name_cmp name_total name_exact m.groups e.1 w.0).0 w.1), (w.2, refl)),
      )

-- the storage group of this name
abbrev pub AtName : MappingRows → List ℕ → StorageGroupRows → Type 0
AtName m n g = map.get m.groups n ≡ Some g

pub no_name : (m : MappingRows) (n : List ℕ) → map.get m.groups n ≡ None → (g : StorageGroupRows) → ¬ AtName m n g
no_name m n none g at = let e : ◌≡◌ {A = Option StorageGroupRows} None (Some g) = sym none ∙ at in absurd cc

pub all_named : (m : MappingRows) (names : BTreeSet (List ℕ)) (ns : List (List ℕ)) (gs : List StorageGroupRows) → ns ≡ names.keys → AreJust (Before (AtName m) ns) gs → AreJust (IsNamedBy m names) gs
all_named m names ns gs is = just_as (Before (AtName m) ns) (IsNamedBy m names) gs
    (λ g w. (w.0, (btree_set_contains_iff name_total name_exact names w.0).1 (subst (λ ys. Contains ys w.0) is w.1), w.2))
    (λ g w. (w.0, subst (λ ys. Contains ys w.0) (sym is) ((btree_set_contains_iff name_total name_exact names w.0).0 w.1), w.2))

-- ---- ports, by the hosts that hold them

-- an index of nothing
none_held : (t : PortIndex) → t.entries ≡ [] → (e : List ℕ × ℕ) → ¬ ListsPort t e
none_held t none e h = true≢false (sym h ∙ ap (λ (es : List (List ℕ × BTreeSet ℕ)). in_tree nat_cmp (lookup (is_at (name_cmp e.0)) es) e.1) none)

-- the ports of the keys of a set
pub named_are : (w : Records) (names : BTreeSet ℕ) (ns : List ℕ) (ports : List Port) → ns ≡ names.keys → AreJust (λ p. (q : ℕ) × Contains ns q × IsLoggedIn w q p) ports → AreJust (IsPortNamedBy w names) ports
named_are w names ns ports is = just_as (λ p. (q : ℕ) × Contains ns q × IsLoggedIn w q p) (IsPortNamedBy w names) ports
    (λ p h. (h.0, (btree_set_contains_iff nat_cmp_total set.nat_cmp-IsAntisymmetric names h.0).1 (subst (λ ys. Contains ys h.0) is h.1), h.2))
    (λ p h. (h.0, subst (λ ys. Contains ys h.0) (sym is) ((btree_set_contains_iff nat_cmp_total set.nat_cmp-IsAntisymmetric names h.0).0 h.1), h.2))

-- what is known of a port
known_at : (ports : KnownPorts) (q : ℕ) (p : Port) → port_at ports q ≡ Some p → (k : Known) × (map.get ports q ≡ Some k)
known_at ports q p is = by (map.get ports q) is
  where
    by : (o : Option Known) → option_map (port_of q) o ≡ Some p → (k : Known) × (o ≡ Some k)
    by None e = let f : ◌≡◌ {A = Option Port} None (Some p) = e in absurd cc
    by (Some k) e = (k, refl)

module _ (w : Records) (served : Index) where
  -- what is known of a port of this name
  abbrev pub ByPort : ℕ × Known → List ℕ × ℕ → Type 0
  ByPort x e = ByLogin w served x.0 e

  pub all_logins : (es : List (ℕ × Known)) (t u : PortIndex) → t.entries ≡ [] → es ≡ map.entries w.inventory.ports → Adds (Before ByPort es) (ListsPort t) (ListsPort u) → AreLoginsOf w served u
  all_logins es t u none is a e =
      let d = from_none (Before ByPort es) (ListsPort t) (ListsPort u) (none_held t none) a e in (
        (λ h. (d.0 h).2.1),
        λ h.
            let k = known_at w.inventory.ports e.1 h.1.0 h.1.1.0 in
            d.1 ((e.1, k.0), subst (λ ys. Contains ys (e.1, k.0)) (sym is) ((entry_decides nat_cmp nat_cmp_total set.nat_cmp-IsAntisymmetric w.inventory.ports e.1 k.0).0 k.1), (refl, h)),
      )

  -- the ports of one host
  pub logins_at : (t : PortIndex) (host : List ℕ) (names : BTreeSet ℕ) → AreLoginsOf w served t → get name_cmp t host ≡ Some names → AreLoginsAt w served host names
  logins_at t host names are at q =
      let d = are (host, q) in
      ((λ h. d.0 (ap (λ o. in_tree nat_cmp o q) at ∙ h)), λ h. sym (ap (λ o. in_tree nat_cmp o q) at) ∙ d.1 h)

  pub ports_are : (host : List ℕ) (names : BTreeSet ℕ) (ports : List Port) → IsSome (get name_cmp served host) → AreLoginsAt w served host names → AreJust (IsPortNamedBy w names) ports → AreJust (λ p. (f : Fabric) × IsLogin w host f p) ports
  ports_are host names ports some at = just_as (IsPortNamedBy w names) (λ p. (f : Fabric) × IsLogin w host f p) ports
      (λ p h.
      let l = (at h.0).0 h.1 in
      (h.2.1.0, record { known = is_own w h.0 p h.2.0; from = subst (λ y. IsInitiator w y host) (same_some l.1.1.0 h.2.0) l.1.2; here = h.2.1.1 }))
      (λ p h. (p.name, (at p.name).1 (some, (p, (h.1.known, (h.0, h.1.here)), h.1.from)), (h.1.known, (h.0, h.1.here))))

-- ---- what an index to a volume says

module _ (w : Records) (volume : List ℕ) (served : Index) (index : IsIndexTo w.config.mapping volume served) where
  -- a storage group that offers the host the volume is listed
  offered : (host : List ℕ) (g : StorageGroupRows) (h : IsExposedBy w.config.mapping host volume g) → Lists served (host, h.0.0.0.0)
  offered host g h = (index (host, h.0.0.0.0)).1 (g, h.0.0.0.1, (h.1, h.0.0.1, h.0.1))

  pub groups_are : (host : List ℕ) (names : BTreeSet (List ℕ)) (gs : List StorageGroupRows) → get name_cmp served host ≡ Some names → AreJust (IsNamedBy w.config.mapping names) gs → AreJust (IsExposedBy w.config.mapping host volume) gs
  groups_are host names gs at = just_as (IsNamedBy w.config.mapping names) (IsExposedBy w.config.mapping host volume) gs
      (λ g h.
      let o = (index (host, h.0)).0 (ap (λ s. in_tree name_cmp s h.0) at ∙ h.1) in
      let same : o.0 ≡ g = same_some o.1 h.2 in
      ((((h.0, h.2), subst (MapsVolume volume) same o.2.1), subst (λ y. Serves w.config.mapping y host) same o.2.2), ap (λ (y : StorageGroupRows). y.exposed) (sym same) ∙ o.2.0))
      (λ g h. (h.0.0.0.0, sym (ap (λ s. in_tree name_cmp s h.0.0.0.0) at) ∙ offered host g h, h.0.0.0.1))

  pub not_offered : (host : List ℕ) → get name_cmp served host ≡ None → (g : StorageGroupRows) → ¬ IsExposedBy w.config.mapping host volume g
  not_offered host none g h = true≢false (sym (offered host g h) ∙ ap (λ s. in_tree name_cmp s h.0.0.0.0) none)

  -- a host that reaches the volume has ports in the index of those that are logged in
  pub reacher_listed : (logins : PortIndex) (host : List ℕ) → AreLoginsOf w served logins → IsOrdered name_cmp logins → IsReached w host volume → (names : BTreeSet ℕ) × Contains logins.entries (host, names)
  reacher_listed logins host are sorted r =
      let o = (from_path w host volume r.0 r.1).0 in
      let groups = tree_at name_cmp (get name_cmp served host) o.met.group.0.0.0.0 (offered host o.group o.met.group) in
      let l = o.met.from in
      let names = tree_at nat_cmp (get name_cmp logins host) o.from.name ((are (host, o.from.name)).1 (ap is_some groups.1, (o.from, (l.known, (r.0.fabric, l.here)), l.from))) in
      (names.0, (btree_map_get_iff name_total name_exact logins sorted host names.0).0 names.1)
