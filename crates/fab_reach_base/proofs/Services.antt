-- The index of the storage groups that serve each host.
use Rattle.std.proofs.Common.{◌≡◌, ℕ, List, [], true, false, Contains, Option, None, Some, inl, inr, refl, sym, ap, ◌∙◌, subst}
use mathlib.Core.Bool.{true≢false}
use Rattle.std.specs.BTreeMap.{is_at}
use Rattle.std.specs.BTreeSet.{BTreeSet}
use Rattle.std.specs.FinMap as map
use Rattle.std.specs.Map.{lookup}
use Rattle.std.specs.FinSet as set
use Rattle.fab_mapping.specs.fab_mapping_base.fab_names.Orders.{name_cmp}
use Rattle.fab_mapping.proofs.fab_mapping_base.fab_names.OrderLaws.{name_total, name_exact}
use Rattle.fab_mapping.specs.fab_mapping_base.fab_lemmas.MapsOfSets.{in_tree}
use Rattle.fab_zoning.specs.Edits.{Puts}
use Rattle.fab_mapping.specs.fab_mapping_base.Groups.{HostGroupRows, StorageGroupRows}
use Rattle.fab_mapping.specs.Mappings.{MappingRows}
use Rattle.fab_mapping.proofs.fab_mapping_base.fab_lemmas.SeenSets.{listed_decides}
use Rattle.fab_reach_base.specs.Adding.{Adds}
use Rattle.fab_reach_base.specs.Gathering.{Index, Lists, ServesBy, Serves, IsIndexOf}
use Rattle.fab_reach_base.proofs.Adding.{Before, adds_as, adds_none, from_none}
use Rattle.fab_mapping.proofs.fab_mapping_base.fab_lemmas.SeenEntries.{entry_decides}

-- a host and a storage group
abbrev pub Service : Type 0
Service = List ℕ × List ℕ

-- one entry more
pub adds_one : {Y : Type 0} (y : Y) (old new : Y → Type 0) → Puts y old new → Adds (λ z. z ≡ y) old new
adds_one y old new puts = record {
  sound = λ z h. (puts z).0 h;
  kept = λ z h. (puts z).1 (inl h);
  there = λ z h. (puts z).1 (inr h);
}

-- ---- what whole walks add

-- a listed set of names has just what is listed
pub listed_in : (s : set.FinSet name_cmp) (ks : List (List ℕ)) → set.from_list ks ≡ s → (k : List ℕ) → (set.contains s k ≡ true → Contains ks k) × (Contains ks k → set.contains s k ≡ true)
listed_in s ks is k =
    let d = listed_decides name_total name_exact ks k in
    ((λ h. d.0 (ap (λ x. set.contains x k) is ∙ h)), λ h. sym (ap (λ x. set.contains x k) is) ∙ d.1 h)

-- a host of a host group
abbrev pub ByHost : List ℕ → List ℕ → Service → Type 0
ByHost group host e = e ≡ (host, group)

pub hosts_served : (hosts : set.FinSet name_cmp) (group : List ℕ) (hs : List (List ℕ)) (old new : Service → Type 0) → set.from_list hs ≡ hosts → Adds (Before (ByHost group) hs) old new
    → Adds (λ e. (set.contains hosts e.0 ≡ true) × (e.1 ≡ group)) old new
hosts_served hosts group hs old new is = adds_as (Before (ByHost group) hs) (λ e. (set.contains hosts e.0 ≡ true) × (e.1 ≡ group)) old new
    (λ e w. (subst (λ h. set.contains hosts h ≡ true) (sym (ap (λ (x : Service). x.0) w.2)) ((listed_in hosts hs is w.0).1 w.1), ap (λ (x : Service). x.1) w.2))
    (λ e w. (e.0, (listed_in hosts hs is e.0).0 w.0, λ i. (e.0, w.1 i)))

-- a host group of a storage group
abbrev pub ByHosts : MappingRows → List ℕ → List ℕ → Service → Type 0
ByHosts m group k e = ServesBy m k e.0 × (e.1 ≡ group)

pub by_hosts : (m : MappingRows) (group k : List ℕ) (hosts : HostGroupRows) (old new : Service → Type 0) → map.get m.host_groups k ≡ Some hosts → Adds (λ e. (set.contains hosts.hosts e.0 ≡ true) × (e.1 ≡ group)) old new
    → Adds (ByHosts m group k) old new
by_hosts m group k hosts old new at = adds_as (λ e. (set.contains hosts.hosts e.0 ≡ true) × (e.1 ≡ group)) (ByHosts m group k) old new (λ e w. ((hosts, at, w.0), w.1))
    (λ e w. let f : Some w.0.0 ≡ Some hosts = sym w.0.1 ∙ at in let same : w.0.0 ≡ hosts = cc in (subst (λ (x : HostGroupRows). set.contains x.hosts e.0 ≡ true) same w.0.2, w.1))

pub no_hosts : (m : MappingRows) (group k : List ℕ) → map.get m.host_groups k ≡ None → (e : Service) → ¬ ByHosts m group k e
no_hosts m group k none e w = let f : ◌≡◌ {A = Option HostGroupRows} None (Some w.0.0) = sym none ∙ w.0.1 in absurd cc

pub group_served : (m : MappingRows) (g : StorageGroupRows) (group : List ℕ) (ks : List (List ℕ)) (old new : Service → Type 0) → set.from_list ks ≡ g.host_groups → Adds (Before (ByHosts m group) ks) old new
    → Adds (λ e. Serves m g e.0 × (e.1 ≡ group)) old new
group_served m g group ks old new is = adds_as (Before (ByHosts m group) ks) (λ e. Serves m g e.0 × (e.1 ≡ group)) old new
    (λ e w. ((w.0, (listed_in g.host_groups ks is w.0).1 w.1, w.2.0), w.2.1))
    (λ e w. (w.0.0, (listed_in g.host_groups ks is w.0.0).0 w.0.1, (w.0.2, w.1)))

-- a storage group, if it is exposed
abbrev pub ByGroup : MappingRows → List ℕ × StorageGroupRows → Service → Type 0
ByGroup m x e = (x.1.exposed ≡ true) × Serves m x.1 e.0 × (e.1 ≡ x.0)

pub if_exposed : (m : MappingRows) (x : List ℕ × StorageGroupRows) (old new : Service → Type 0) → x.1.exposed ≡ true → Adds (λ e. Serves m x.1 e.0 × (e.1 ≡ x.0)) old new → Adds (ByGroup m x) old new
if_exposed m x old new is = adds_as (λ e. Serves m x.1 e.0 × (e.1 ≡ x.0)) (ByGroup m x) old new (λ e w. (is, w.0, w.1)) (λ e w. (w.1, w.2))

pub hidden_adds_none : (m : MappingRows) (x : List ℕ × StorageGroupRows) (old : Service → Type 0) → x.1.exposed ≡ false → Adds (ByGroup m x) old old
hidden_adds_none m x old is = adds_none (ByGroup m x) old (λ e w. true≢false (sym w.0 ∙ is))

-- an index of nothing
pub none_listed : (t : Index) → t.entries ≡ [] → (e : Service) → ¬ Lists t e
none_listed t none e h = true≢false (sym h ∙ ap (λ (es : List (List ℕ × BTreeSet (List ℕ))). in_tree name_cmp (lookup (is_at (name_cmp e.0)) es) e.1) none)

pub all_served : (m : MappingRows) (es : List (List ℕ × StorageGroupRows)) (t u : Index) → t.entries ≡ [] → es ≡ map.entries m.groups → Adds (Before (ByGroup m) es) (Lists t) (Lists u) → IsIndexOf m u
all_served m es t u none is a e =
    let d = from_none (Before (ByGroup m) es) (Lists t) (Lists u) (none_listed t none) a e in (
      (λ h. let w = d.0 h in (w.0.1, ap (map.get m.groups) w.2.2 ∙ (entry_decides name_cmp name_total name_exact m.groups w.0.0 w.0.1).1 (subst (λ ys. Contains ys w.0) is w.1), w.2.0, w.2.1)),
      λ w. d.1 ((e.1, w.0), subst (λ ys. Contains ys (e.1, w.0)) (sym is) ((entry_decides name_cmp name_total name_exact m.groups e.1 w.0).0 w.1), (w.2, w.3, refl)),
    )
