-- Names and ports that are gathered.
use Rattle.std.proofs.Common.{◌≡◌, ℕ, List, [], Contains, IsSome, is_some, Result, Ok, Err, IfOk, cond, true, refl, sym, ap, ◌∙◌, subst}
use Rattle.std.specs.Ordering.{nat_cmp}
use Rattle.std.specs.Cmp.{nat_cmp_total}
use Rattle.std.specs.BTreeMap.{is_at}
use Rattle.std.specs.BTreeSet.{BTreeSet, contains}
use Rattle.std.specs.FinMap as map
use Rattle.std.specs.FinSet as set
use Rattle.std.specs.Map.{keys_of}
use Rattle.fab_reach_base.specs.fab_names.Orders.{name_cmp}
use Rattle.fab_reach_base.proofs.fab_names.OrderLaws.{name_total, name_exact}
use Rattle.fab_reach_base.specs.fab_inventory.declared.port.Known.{Known}
use Rattle.fab_reach_base.proofs.fab_lemmas.SeenEntries.{entry_decides}
use Rattle.fab_policy.specs.fab_policy_base.Policies.{PolicyRows}
use Rattle.fab_reach_base.specs.Adding.{Adds}
use Rattle.fab_reach_base.proofs.Adding.{Before, adds_as, from_none}
use Rattle.fab_reach_base.proofs.Sets.{adds_insert, none_in}
use Rattle.fab_world.specs.Worlds.{WorldRows}
use Rattle.fab_desk_base.specs.Showing.{IsOpenTo}
use Rattle.fab_desk_base.specs.Tenants.{Has}
use Rattle.fab_looks.specs.declared.listing.Kind.{Kind}
use Rattle.fab_looks.specs.declared.listing.Kind.TheVariants as kinds
use Rattle.fab_looks.specs.Lists.{query_of, IsListing, HasPort, AreKnownPorts}
use Rattle.fab_looks.specs.Inner.Entries.{HasKeys}
use Rattle.fab_looks.proofs.Keys.{value_in, key_of, entry_of}

-- a name, if its read is open
abbrev pub ByOpen : {V : Type 0} → (List ℕ → Type 0) → List ℕ × V → List ℕ → Type 0
ByOpen P e n = (n ≡ e.0) × P e.0

pub adds_name : (s t : BTreeSet (List ℕ)) (k : List ℕ) → ((q : List ℕ) → contains name_cmp t q ≡ cond (is_at (name_cmp k) q) true (contains name_cmp s q)) → Adds (λ y. y ≡ k) (Has s) (Has t)
adds_name = adds_insert name_total name_exact

module _ {V : Type 0} (P : List ℕ → Type 0) where
  pub open_added : (e : List ℕ × V) (old new : List ℕ → Type 0) → P e.0 → Adds (λ y. y ≡ e.0) old new → Adds (ByOpen P e) old new
  open_added e old new p = adds_as (λ y. y ≡ e.0) (ByOpen P e) old new (λ y h. (h, p)) (λ y h. h.0)

  pub opens_are : (es : List (List ℕ × V)) (s t : BTreeSet (List ℕ)) → s.keys ≡ [] → Adds (Before (ByOpen P) es) (Has s) (Has t) → (n : List ℕ) → (Has t n → Contains (keys_of es) n × P n) × (Contains (keys_of es) n × P n → Has t n)
  opens_are es s t none a n =
      let d = from_none (Before (ByOpen P) es) (Has s) (Has t) (none_in name_total name_exact s none) a n in (
        (λ h. let k = d.0 h in (subst (Contains (keys_of es)) (sym k.2.0) (key_of es k.0 k.1), subst P (sym k.2.0) k.2.1)),
        λ h. let r = entry_of es n h.0 in d.1 (r.0, r.1, (r.2, subst P r.2 h.1)),
      )

-- ---- what is open is there

module _ (p : PolicyRows) (w : WorldRows) (id : ℕ) (n : List ℕ) where
  pub host_there : IsOpenTo p w id (query_of kinds.Hosts n) → IsSome (map.get w.inventory.holders n)
  host_there h = ap is_some h.1

  pub array_there : IsOpenTo p w id (query_of kinds.Arrays n) → IsSome (map.get w.inventory.holders n)
  array_there h = ap is_some h.1

  pub volume_there : IsOpenTo p w id (query_of kinds.Volumes n) → IsSome (map.get w.inventory.volumes n)
  volume_there h = ap is_some h.1.1

  pub host_group_there : IsOpenTo p w id (query_of kinds.HostGroups n) → IsSome (map.get w.config.mapping.host_groups n)
  host_group_there h = ap is_some h.1.1

  pub group_there : IsOpenTo p w id (query_of kinds.Groups n) → IsSome (map.get w.config.mapping.groups n)
  group_there h = ap is_some h.1.1

-- a kind whose names are all keys of a map
pub listing_of : {V X E : Type 0} (p : PolicyRows) (w : WorldRows) (id : ℕ) (k j : Kind) (m : map.FinMap name_cmp X) (es : List (List ℕ × V)) (r : Result (BTreeSet (List ℕ)) E) → k ≡ j → HasKeys es m
    → ((n : List ℕ) → IsOpenTo p w id (query_of j n) → IsSome (map.get m n))
    → IfOk r (λ s. (n : List ℕ) → (Has s n → Contains (keys_of es) n × IsOpenTo p w id (query_of k n)) × (Contains (keys_of es) n × IsOpenTo p w id (query_of k n) → Has s n))
    → IfOk r (IsListing p w id k)
listing_of p w id k j m es (Ok s) same keys there h = λ n. (
  (λ c. ((h n).0 c).1),
  λ o. (h n).1 (keys n (there n (subst (λ y. IsOpenTo p w id (query_of y n)) same o)), o),
)
listing_of p w id k j m es (Err e) same keys there h = tt

-- ---- ports

-- the port of an entry
abbrev pub ByKey : ℕ × Known → ℕ → Type 0
ByKey e a = a ≡ e.0

-- the ports of the entries
pub ports_are : (w : WorldRows) (es : List (ℕ × Known)) (s t : BTreeSet ℕ) → s.keys ≡ [] → es ≡ map.entries w.inventory.ports → Adds (Before ByKey es) (HasPort s) (HasPort t) → AreKnownPorts w t
ports_are w es s t none is a n =
    let ports = w.inventory.ports in
    let d = from_none (Before ByKey es) (HasPort s) (HasPort t) (none_in nat_cmp_total set.nat_cmp-IsAntisymmetric s none) a n in (
      (λ h.
          let k = d.0 h in
          ap is_some (ap (λ (a : ℕ). map.get ports a) k.2 ∙ (entry_decides nat_cmp nat_cmp_total set.nat_cmp-IsAntisymmetric ports k.0.0 k.0.1).1 (subst (λ (ys : List (ℕ × Known)). Contains ys k.0) is k.1))),
      λ h.
          let x = value_in (map.get ports n) h in
          d.1 ((n, x.0), subst (λ (ys : List (ℕ × Known)). Contains ys (n, x.0)) (sym is) ((entry_decides nat_cmp nat_cmp_total set.nat_cmp-IsAntisymmetric ports n x.0).0 x.1), refl),
    )
