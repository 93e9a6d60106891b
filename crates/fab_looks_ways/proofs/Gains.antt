-- Names of storage groups and of zones that are gathered.
use Rattle.std.proofs.Common.{◌≡◌, ℕ, List, [], Contains, true, cond, Some, refl, sym, subst}
use Rattle.std.specs.BTreeMap.{is_at}
use Rattle.std.specs.BTreeSet.{BTreeSet, contains}
use Rattle.std.specs.FinMap as map
use Rattle.std.proofs.lemmas.Map.Views.{btree_set_contains_iff}
use Rattle.fab_reach_base.proofs.fab_lemmas.SeenEntries.{entry_decides}
use Rattle.fab_reach_base.specs.fab_names.Orders.{name_cmp}
use Rattle.fab_reach_base.proofs.fab_names.OrderLaws.{name_total, name_exact}
use Rattle.fab_reach_base.specs.fab_mapping_base.Groups.{StorageGroupRows}
use Rattle.fab_policy.specs.fab_policy_base.Policies.{PolicyRows}
use Rattle.fab_reach_base.specs.Adding.{Adds}
use Rattle.fab_reach_base.proofs.Adding.{Before, adds_as, from_none}
use Rattle.fab_reach_base.proofs.Sets.{adds_insert, none_in}
use Rattle.fab_world.specs.Worlds.{WorldRows}
use Rattle.fab_desk_base.specs.Showing.{IsOpenTo}
use Rattle.fab_desk_base.specs.Tenants.{Has}
use Rattle.fab_desk_base.specs.declared.command.Query.TheVariants as query
use Rattle.fab_looks_ways.specs.Inner.Gathering.{IsOwnEntry}
use Rattle.fab_looks.specs.Ways.{IsOwnMapping}

-- an insertion adds its name
pub adds_name : (s n : BTreeSet (List ℕ)) (k : List ℕ) → ((q : List ℕ) → contains name_cmp n q ≡ cond (is_at (name_cmp k) q) true (contains name_cmp s q)) → Adds (λ y. y ≡ k) (Has s) (Has n)
adds_name = adds_insert name_total name_exact

-- what was added to an empty set of names
pub names_from : (P : List ℕ → Type 0) (s t : BTreeSet (List ℕ)) → s.keys ≡ [] → Adds P (Has s) (Has t) → (n : List ℕ) → (Has t n → P n) × (P n → Has t n)
names_from P s t none = from_none P (Has s) (Has t) (none_in name_total name_exact s none)

module _ (p : PolicyRows) (w : WorldRows) (id : ℕ) (volume : List ℕ) where
  pub all_groups : (es : List (List ℕ × StorageGroupRows)) (old new : List ℕ → Type 0) → es ≡ map.entries w.config.mapping.groups → Adds (Before (IsOwnEntry p w id volume) es) old new → Adds (IsOwnMapping p w id volume) old new
  all_groups es old new is = adds_as (Before (IsOwnEntry p w id volume) es) (IsOwnMapping p w id volume) old new
      (λ n k. (
        k.0.1,
        subst (λ (m : List ℕ). map.get w.config.mapping.groups m ≡ Some k.0.1) (sym k.2.2) ((entry_decides name_cmp name_total name_exact w.config.mapping.groups k.0.0 k.0.1).1 (subst (λ (fs : List (List ℕ × StorageGroupRows)). Contains fs k.0) is k.1)),
        k.2.0,
        subst (λ (m : List ℕ). IsOpenTo p w id (query.Group m)) (sym k.2.2) k.2.1,
      ))
      (λ n m. (
        (n, m.0),
        subst (λ (fs : List (List ℕ × StorageGroupRows)). Contains fs (n, m.0)) (sym is) ((entry_decides name_cmp name_total name_exact w.config.mapping.groups n m.0).0 m.1),
        (m.2, m.3, refl),
      ))

-- the same name
abbrev pub Same : List ℕ → List ℕ → Type 0
Same k n = n ≡ k

-- the names of a set
pub all_added : (more : BTreeSet (List ℕ)) (ks : List (List ℕ)) (old new : List ℕ → Type 0) → ks ≡ more.keys → Adds (Before Same ks) old new → Adds (Has more) old new
all_added more ks old new is = adds_as (Before Same ks) (Has more) old new
    (λ n h. (btree_set_contains_iff name_total name_exact more n).1 (subst (λ (ms : List (List ℕ)). Contains ms n) is (subst (Contains ks) (sym h.2) h.1)))
    (λ n h. (n, subst (λ (ms : List (List ℕ)). Contains ms n) (sym is) ((btree_set_contains_iff name_total name_exact more n).0 h), refl))
