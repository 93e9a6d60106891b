-- One collection of a zoning changed, from what the code holds to what contracts see.
use Rattle.std.proofs.Common.{ℕ, ◌≡◌, List, Result, Ok, Err, OnErr, ap, ◌∙◌, cond, Some, None, is_some}
use Rattle.std.specs.declared.cmp.Ordering.{Ordering}
use Rattle.std.specs.BTreeMap as tree
use Rattle.std.specs.BTreeMap.{BTreeMap, is_at}
use Rattle.std.specs.BTreeSet as tree_set
use Rattle.std.specs.BTreeSet.{BTreeSet}
use Rattle.std.specs.List.{list_any}
use Rattle.std.specs.Ordering.{eq_by_cmp}
use Rattle.std.specs.FinMap as map
use Rattle.std.specs.FinSet as set
use Rattle.fab_names.specs.declared.member.Member.{Member}
use Rattle.fab_names.specs.Orders.{name_cmp, member_cmp}
use Rattle.fab_names.proofs.OrderLaws.{name_total, name_exact, member_total, member_exact}
use Rattle.fab_zoning_rows.specs.fab_lemmas.MapsOfSets.{seen_sets}
use Rattle.fab_zoning.specs.Zonings.{FabricZoning, NamedSets}
use Rattle.fab_zoning_rows.proofs.fab_lemmas.MapsOfSets.{knows_seen, seen_insert, seen_remove}
use Rattle.fab_zoning_rows.proofs.fab_lemmas.SeenSets.{set_of_list}

-- what holds, holds where a call fails
pub on_err : {T E P : Type 0} (r : Result T E) → P → OnErr r P
on_err (Ok x) p = tt
on_err (Err e) p = p

-- whether a name is there
pub known : {K : Type 0} (R : K → K → Ordering) (t : BTreeMap (List ℕ) (BTreeSet K)) (k : List ℕ) → map.contains_key (seen_sets name_cmp R t.entries) k ≡ is_some (tree.get name_cmp t k)
known R t k = knows_seen R name_total t k

-- a set put at a name
pub put_in : {K : Type 0} (R : K → K → Ordering) (t u : BTreeMap (List ℕ) (BTreeSet K)) (k : List ℕ) (s : BTreeSet K) → ((q : List ℕ) → tree.get name_cmp u q ≡ cond (is_at (name_cmp k) q) (Some s) (tree.get name_cmp t q))
    → seen_sets name_cmp R u.entries ≡ map.insert (seen_sets name_cmp R t.entries) k (set.from_list s.keys)
put_in R = seen_insert R name_total name_exact

-- the set of a list
pub listed_members : (s : BTreeSet Member) (ks : List Member) → ((x : Member) → tree_set.contains member_cmp s x ≡ list_any (eq_by_cmp member_cmp x) ks) → set.from_list {R = member_cmp} s.keys ≡ set.from_list ks
listed_members = set_of_list member_total member_exact

pub listed_names : (s : BTreeSet (List ℕ)) (ks : List (List ℕ)) → ((x : List ℕ) → tree_set.contains name_cmp s x ≡ list_any (eq_by_cmp name_cmp x) ks) → set.from_list {R = name_cmp} s.keys ≡ set.from_list ks
listed_names = set_of_list name_total name_exact

-- the set at a name taken out
pub taken_out : {K : Type 0} (R : K → K → Ordering) (t u : BTreeMap (List ℕ) (BTreeSet K)) (k : List ℕ) → ((q : List ℕ) → tree.get name_cmp u q ≡ cond (is_at (name_cmp k) q) None (tree.get name_cmp t q))
    → seen_sets name_cmp R u.entries ≡ map.remove (seen_sets name_cmp R t.entries) k
taken_out R = seen_remove R name_total name_exact

module _ (v w : FabricZoning) (same : v ≡ w) where
  -- equal sets in place of those that were there
  pub with_aliases_same : (a : NamedSets member_cmp) → a ≡ v.aliases → ◌≡◌ {A = FabricZoning} (record v { aliases = a }) w
  with_aliases_same a e = ap (λ (x : NamedSets member_cmp). record v { aliases = x }) e ∙ same

  pub with_zones_same : (a : NamedSets member_cmp) → a ≡ v.zones → ◌≡◌ {A = FabricZoning} (record v { zones = a }) w
  with_zones_same a e = ap (λ (x : NamedSets member_cmp). record v { zones = x }) e ∙ same

  pub with_sets_same : (a : NamedSets name_cmp) → a ≡ v.sets → ◌≡◌ {A = FabricZoning} (record v { sets = a }) w
  with_sets_same a e = ap (λ (x : NamedSets name_cmp). record v { sets = x }) e ∙ same

module _ (v w : FabricZoning) (same : v ≡ w) (k : List ℕ) where
  pub with_aliases_put : (a : NamedSets member_cmp) (s : set.FinSet member_cmp) → a ≡ map.insert v.aliases k s → ◌≡◌ {A = FabricZoning} (record v { aliases = a }) (record w { aliases = map.insert w.aliases k s })
  with_aliases_put a s made = ap (λ (x : NamedSets member_cmp). record v { aliases = x }) made ∙ ap (λ (u : FabricZoning). record u { aliases = map.insert u.aliases k s }) same

  pub with_zones_put : (a : NamedSets member_cmp) (s : set.FinSet member_cmp) → a ≡ map.insert v.zones k s → ◌≡◌ {A = FabricZoning} (record v { zones = a }) (record w { zones = map.insert w.zones k s })
  with_zones_put a s made = ap (λ (x : NamedSets member_cmp). record v { zones = x }) made ∙ ap (λ (u : FabricZoning). record u { zones = map.insert u.zones k s }) same

  pub with_sets_put : (a : NamedSets name_cmp) (s : set.FinSet name_cmp) → a ≡ map.insert v.sets k s → ◌≡◌ {A = FabricZoning} (record v { sets = a }) (record w { sets = map.insert w.sets k s })
  with_sets_put a s made = ap (λ (x : NamedSets name_cmp). record v { sets = x }) made ∙ ap (λ (u : FabricZoning). record u { sets = map.insert u.sets k s }) same

  pub with_aliases_dropped : (a : NamedSets member_cmp) → a ≡ map.remove v.aliases k → ◌≡◌ {A = FabricZoning} (record v { aliases = a }) (record w { aliases = map.remove w.aliases k })
  with_aliases_dropped a made = ap (λ (x : NamedSets member_cmp). record v { aliases = x }) made ∙ ap (λ (u : FabricZoning). record u { aliases = map.remove u.aliases k }) same

  pub with_zones_dropped : (a : NamedSets member_cmp) → a ≡ map.remove v.zones k → ◌≡◌ {A = FabricZoning} (record v { zones = a }) (record w { zones = map.remove w.zones k })
  with_zones_dropped a made = ap (λ (x : NamedSets member_cmp). record v { zones = x }) made ∙ ap (λ (u : FabricZoning). record u { zones = map.remove u.zones k }) same

  pub with_sets_dropped : (a : NamedSets name_cmp) → a ≡ map.remove v.sets k → ◌≡◌ {A = FabricZoning} (record v { sets = a }) (record w { sets = map.remove w.sets k })
  with_sets_dropped a made = ap (λ (x : NamedSets name_cmp). record v { sets = x }) made ∙ ap (λ (u : FabricZoning). record u { sets = map.remove u.sets k }) same
