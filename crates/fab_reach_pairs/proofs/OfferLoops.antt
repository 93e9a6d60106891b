-- Ports and pairs that loops add.
use Rattle.std.proofs.Common.{ℕ, ◌≡◌, List, true, Option, None, Some, IsTrue, refl, sym, ap, ◌∙◌, subst}
use Rattle.std.specs.Ordering.{nat_cmp}
use Rattle.std.specs.BTreeMap as tree
use Rattle.std.specs.BTreeMap.{BTreeMap}
use Rattle.std.specs.BTreeSet.{BTreeSet, contains}
use Rattle.std.specs.FinMap as map
use Rattle.std.specs.FinSet as set
use Rattle.fab_names.specs.Orders.{name_cmp}
use Rattle.fab_lemmas.specs.MapsOfSets.{in_tree}
use Rattle.fab_mapping_base.specs.Groups.{HostGroupRows, StorageGroupRows}
use Rattle.fab_mapping.specs.Mappings.{MappingRows}
use Rattle.fab_reach_base.specs.Adding.{Adds}
use Rattle.fab_reach_base.specs.Gathering.{ServesBy}
use Rattle.fab_reach_base.proofs.Adding.{Before, adds_as, adds_none}
use Rattle.fab_reach_base.proofs.Same.{same_some}
use Rattle.fab_reach_books.specs.Inner.Sets.{HasPortIn}
use Rattle.fab_reach_books.specs.Pairs.{Pair}
use Rattle.fab_reach_index.specs.Inner.Holding.{Held, HoldsIn}
use Rattle.fab_reach_books.proofs.SetLoops.{all_ports, all_names, all_in}
use Rattle.fab_reach_pairs.specs.Inner.Offering.{IsHostPort, IsPortServed, IsPortServedBy, IsPortServedAt}

module _ (m : MappingRows) (held : Held) where
  -- the ports that the hosts of a host group hold
  abbrev pub ByHosts : List ℕ → ℕ → Type 0
  ByHosts k p = (h : List ℕ) × ServesBy m k h × HoldsIn held h p

  pub hosts_added : (k : List ℕ) (hosts : HostGroupRows) (old new : ℕ → Type 0) → map.get m.host_groups k ≡ Some hosts → Adds (IsHostPort held hosts) old new → Adds (ByHosts k) old new
  hosts_added k hosts old new at = adds_as (IsHostPort held hosts) (ByHosts k) old new
      (λ p w. (w.0, (hosts, at, w.1), w.2))
      (λ p w. (w.0, ap (λ (x : HostGroupRows). set.contains x.hosts w.0) (same_some at w.1.1) ∙ w.1.2, w.2))

  pub no_hosts : (k : List ℕ) (old : ℕ → Type 0) → map.get m.host_groups k ≡ None → Adds (ByHosts k) old old
  no_hosts k old none = adds_none (ByHosts k) old (λ p w. let e : ◌≡◌ {A = Option HostGroupRows} None (Some w.1.0) = sym none ∙ w.1.1 in absurd cc)

  pub served_added : (g : StorageGroupRows) (ks : List (List ℕ)) (old new : ℕ → Type 0) → set.from_list ks ≡ g.host_groups → Adds (Before ByHosts ks) old new → Adds (IsPortServed m held g) old new
  served_added g ks old new is a = adds_as (λ p. (k : List ℕ) × (set.contains g.host_groups k ≡ true) × ByHosts k p) (IsPortServed m held g) old new
      (λ p w. (w.2.0, (w.0, w.1, w.2.1), w.2.2))
      (λ p w. (w.1.0, w.1.1, (w.0, w.1.2, w.2)))
      (all_in ByHosts g.host_groups ks old new is a)

  -- ---- pairs with a target

  pub with_served : (n : List ℕ) (g : StorageGroupRows) (s : BTreeSet ℕ) (q : ℕ) (old new : Pair → Type 0) → map.get m.groups n ≡ Some g → ((p : ℕ) → (HasPortIn s p → IsPortServed m held g p) × (IsPortServed m held g p → HasPortIn s p))
      → Adds (λ e. HasPortIn s e.0 × (e.1 ≡ q)) old new → Adds (λ e. IsPortServedBy m held n e.0 × (e.1 ≡ q)) old new
  with_served n g s q old new at are = adds_as (λ e. HasPortIn s e.0 × (e.1 ≡ q)) (λ e. IsPortServedBy m held n e.0 × (e.1 ≡ q)) old new
      (λ e w. ((g, at, (are e.0).0 w.0), w.1))
      (λ e w. ((are e.0).1 (subst (λ x. IsPortServed m held x e.0) (same_some w.0.1 at) w.0.2), w.1))

  pub no_group : (n : List ℕ) (q : ℕ) (old : Pair → Type 0) → map.get m.groups n ≡ None → Adds (λ e. IsPortServedBy m held n e.0 × (e.1 ≡ q)) old old
  no_group n q old none = adds_none (λ e. IsPortServedBy m held n e.0 × (e.1 ≡ q)) old (λ e w. let f : ◌≡◌ {A = Option StorageGroupRows} None (Some w.0.0) = sym none ∙ w.0.1 in absurd cc)

  pub named : (s : BTreeSet (List ℕ)) (q : ℕ) (ks : List (List ℕ)) (old new : Pair → Type 0) → ks ≡ s.keys → Adds (Before (λ n (e : Pair). IsPortServedBy m held n e.0 × (e.1 ≡ q)) ks) old new
      → Adds (λ e. (n : List ℕ) × (in_tree name_cmp (Some s) n ≡ true) × IsPortServedBy m held n e.0 × (e.1 ≡ q)) old new
  named s q ks old new is a = adds_as (λ e. (n : List ℕ) × IsTrue (contains name_cmp s n) × (IsPortServedBy m held n e.0 × (e.1 ≡ q))) (λ e. (n : List ℕ) × (in_tree name_cmp (Some s) n ≡ true) × IsPortServedBy m held n e.0 × (e.1 ≡ q)) old new
      (λ e w. (w.0, w.1, w.2.0, w.2.1))
      (λ e w. (w.0, w.1, (w.2, w.3)))
      (all_names (λ n (e : Pair). IsPortServedBy m held n e.0 × (e.1 ≡ q)) s ks old new is a)

  module _ (targeted : BTreeMap ℕ (BTreeSet (List ℕ))) where
    pub offered_to : (q : ℕ) (s : BTreeSet (List ℕ)) (old new : Pair → Type 0) → tree.get nat_cmp targeted q ≡ Some s → Adds (λ e. (n : List ℕ) × (in_tree name_cmp (Some s) n ≡ true) × IsPortServedBy m held n e.0 × (e.1 ≡ q)) old new
        → Adds (λ e. IsPortServedAt m held targeted q e.0 × (e.1 ≡ q)) old new
    offered_to q s old new at = adds_as (λ e. (n : List ℕ) × (in_tree name_cmp (Some s) n ≡ true) × IsPortServedBy m held n e.0 × (e.1 ≡ q)) (λ e. IsPortServedAt m held targeted q e.0 × (e.1 ≡ q)) old new
        (λ e w. ((w.0, ap (λ o. in_tree name_cmp o w.0) at ∙ w.1, w.2), w.3))
        (λ e w. (w.0.0, sym (ap (λ o. in_tree name_cmp o w.0.0) at) ∙ w.0.1, w.0.2, w.1))

    pub offered_to_all : (s : BTreeSet ℕ) (ks : List ℕ) (old new : Pair → Type 0) → Adds (Before (λ q e. IsPortServedAt m held targeted q e.0 × (e.1 ≡ q)) ks) old new → ks ≡ s.keys
        → Adds (λ e. HasPortIn s e.1 × IsPortServedAt m held targeted e.1 e.0) old new
    offered_to_all s ks old new a is = adds_as (λ e. (q : ℕ) × HasPortIn s q × (IsPortServedAt m held targeted q e.0 × (e.1 ≡ q))) (λ e. HasPortIn s e.1 × IsPortServedAt m held targeted e.1 e.0) old new
        (λ e w. (subst (HasPortIn s) (sym w.2.1) w.1, subst (λ q. IsPortServedAt m held targeted q e.0) (sym w.2.1) w.2.0))
        (λ e w. (e.1, w.0, (w.1, refl)))
        (all_ports (λ q e. IsPortServedAt m held targeted q e.0 × (e.1 ≡ q)) s ks old new is a)

-- pairs with one port

pub with_target : (s : BTreeSet ℕ) (q : ℕ) (ks : List ℕ) (old new : Pair → Type 0) → Adds (Before (λ p e. e ≡ (p, q)) ks) old new → ks ≡ s.keys → Adds (λ e. HasPortIn s e.0 × (e.1 ≡ q)) old new
with_target s q ks old new a is = adds_as (λ e. (p : ℕ) × HasPortIn s p × (e ≡ (p, q))) (λ e. HasPortIn s e.0 × (e.1 ≡ q)) old new
    (λ e w. (subst (HasPortIn s) (sym (ap (λ (x : Pair). x.0) w.2)) w.1, ap (λ (x : Pair). x.1) w.2))
    (λ e w. (e.0, w.0, λ i. (e.0, w.1 i)))
    (all_ports (λ p e. e ≡ (p, q)) s ks old new is a)

pub with_initiator : (s : BTreeSet ℕ) (p : ℕ) (ks : List ℕ) (old new : Pair → Type 0) → Adds (Before (λ q e. e ≡ (p, q)) ks) old new → ks ≡ s.keys → Adds (λ e. HasPortIn s e.1 × (e.0 ≡ p)) old new
with_initiator s p ks old new a is = adds_as (λ e. (q : ℕ) × HasPortIn s q × (e ≡ (p, q))) (λ e. HasPortIn s e.1 × (e.0 ≡ p)) old new
    (λ e w. (subst (HasPortIn s) (sym (ap (λ (x : Pair). x.1) w.2)) w.1, ap (λ (x : Pair). x.0) w.2))
    (λ e w. (e.1, w.0, λ i. (w.1 i, e.1)))
    (all_ports (λ q e. e ≡ (p, q)) s ks old new is a)
