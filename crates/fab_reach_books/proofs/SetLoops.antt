-- Sets that grow by loops: what the items of a set, a list or a finite set add.
use Rattle.std.proofs.Common.{ℕ, ◌≡◌, List, [], true, Contains, Option, None, Some, IsTrue, ◌⊎◌, inl, inr, refl, sym, ap, ◌∙◌, subst, cond}
use Rattle.std.specs.Ordering.{nat_cmp}
use Rattle.std.specs.Cmp.{nat_cmp_total}
use Rattle.std.specs.BTreeMap.{is_at}
use Rattle.std.specs.BTreeSet.{BTreeSet, contains}
use Rattle.std.specs.FinSet as set
use Rattle.std.proofs.lemmas.Map.Views.{btree_set_contains_iff}
use Rattle.fab_names.specs.Orders.{name_cmp}
use Rattle.fab_names.proofs.OrderLaws.{name_total, name_exact}
use Rattle.fab_lemmas.proofs.SeenSets.{listed_decides}
use Rattle.fab_reach_base.specs.Adding.{Adds}
use Rattle.fab_reach_base.proofs.Adding.{Before, adds_as, from_none}
use Rattle.fab_reach_base.proofs.Services.{listed_in}
use Rattle.fab_reach_base.proofs.Sets.{adds_insert, none_in}
use Rattle.fab_reach_books.specs.Inner.Sets.{HasPortIn, HasName, HasPairIn}
use Rattle.fab_reach_books.specs.KeyLaws.{pair_total, pair_exact}
use Rattle.fab_reach_books.specs.Pairs.{Pair, pair_cmp}

-- what two steps add
pub adds_both : {Y : Type 0} (P Q old mid new : Y → Type 0) → Adds P old mid → Adds Q mid new → Adds (λ y. P y ⊎ Q y) old new
adds_both P Q old mid new a b = record {
  sound = λ y h. elim (b.sound y h) [ inl m ↦ elim (a.sound y m) [ inl o ↦ inl o | inr p ↦ inr (inl p) ] | inr q ↦ inr (inr q) ];
  kept = λ y h. b.kept y (a.kept y h);
  there = λ y e. elim e [ inl p ↦ b.kept y (a.there y p) | inr q ↦ b.there y q ];
}

-- the one item with P
pub only_one : {Y : Type 0} (P : Y → Type 0) (k : Y) (old new : Y → Type 0) → P k → ((y : Y) → P y → y ≡ k) → Adds (λ y. y ≡ k) old new → Adds P old new
only_one P k old new p only = adds_as (λ y. y ≡ k) P old new (λ y e. subst P (sym e) p) only

pub same_option : {X : Type 0} (a b : Option X) → ((x : X) → a ≡ Some x → b ≡ Some x) → ((x : X) → b ≡ Some x → a ≡ Some x) → a ≡ b
same_option None None to from = refl
same_option None (Some y) to from = from y refl
same_option (Some x) b to from = sym (to x refl)

-- the item itself
abbrev pub Is : ℕ → ℕ → Type 0
Is k p = p ≡ k

pub adds_port : (s n : BTreeSet ℕ) (k : ℕ) → ((q : ℕ) → contains nat_cmp n q ≡ cond (is_at (nat_cmp k) q) true (contains nat_cmp s q)) → Adds (λ y. y ≡ k) (HasPortIn s) (HasPortIn n)
adds_port = adds_insert nat_cmp_total set.nat_cmp-IsAntisymmetric

pub adds_pair : (s n : BTreeSet Pair) (k : Pair) → ((q : Pair) → contains pair_cmp n q ≡ cond (is_at (pair_cmp k) q) true (contains pair_cmp s q)) → Adds (λ y. y ≡ k) (HasPairIn s) (HasPairIn n)
adds_pair = adds_insert pair_total pair_exact

-- the keys of a set
pub port_in : (s : BTreeSet ℕ) (p : ℕ) → (HasPortIn s p → Contains s.keys p) × (Contains s.keys p → HasPortIn s p)
port_in s p = btree_set_contains_iff nat_cmp_total set.nat_cmp-IsAntisymmetric s p

pub name_in : (s : BTreeSet (List ℕ)) (n : List ℕ) → (IsTrue (contains name_cmp s n) → Contains s.keys n) × (Contains s.keys n → IsTrue (contains name_cmp s n))
name_in s n = btree_set_contains_iff name_total name_exact s n

module _ {Y : Type 0} where
  -- what the ports of a set add
  pub all_ports : (Q : ℕ → Y → Type 0) (s : BTreeSet ℕ) (ks : List ℕ) (old new : Y → Type 0) → ks ≡ s.keys → Adds (Before Q ks) old new → Adds (λ y. (k : ℕ) × HasPortIn s k × Q k y) old new
  all_ports Q s ks old new is = adds_as (Before Q ks) (λ y. (k : ℕ) × HasPortIn s k × Q k y) old new
      (λ y w. (w.0, (port_in s w.0).1 (subst (λ xs. Contains xs w.0) is w.1), w.2))
      (λ y w. (w.0, subst (λ xs. Contains xs w.0) (sym is) ((port_in s w.0).0 w.1), w.2))

  -- what the names of a set add
  pub all_names : (Q : List ℕ → Y → Type 0) (s : BTreeSet (List ℕ)) (ks : List (List ℕ)) (old new : Y → Type 0) → ks ≡ s.keys → Adds (Before Q ks) old new → Adds (λ y. (k : List ℕ) × IsTrue (contains name_cmp s k) × Q k y) old new
  all_names Q s ks old new is = adds_as (Before Q ks) (λ y. (k : List ℕ) × IsTrue (contains name_cmp s k) × Q k y) old new
      (λ y w. (w.0, (name_in s w.0).1 (subst (λ xs. Contains xs w.0) is w.1), w.2))
      (λ y w. (w.0, subst (λ xs. Contains xs w.0) (sym is) ((name_in s w.0).0 w.1), w.2))

  -- what the names of a finite set add
  pub all_in : (Q : List ℕ → Y → Type 0) (s : set.FinSet name_cmp) (ks : List (List ℕ)) (old new : Y → Type 0) → set.from_list ks ≡ s → Adds (Before Q ks) old new → Adds (λ y. (k : List ℕ) × (set.contains s k ≡ true) × Q k y) old new
  all_in Q s ks old new is = adds_as (Before Q ks) (λ y. (k : List ℕ) × (set.contains s k ≡ true) × Q k y) old new
      (λ y w. (w.0, (listed_in s ks is w.0).1 w.1, w.2))
      (λ y w. (w.0, (listed_in s ks is w.0).0 w.1, w.2))

pub ports_added : (s : BTreeSet ℕ) (ks : List ℕ) (old new : ℕ → Type 0) → Adds (Before Is ks) old new → ks ≡ s.keys → Adds (HasPortIn s) old new
ports_added s ks old new a is = adds_as (λ y. (k : ℕ) × HasPortIn s k × Is k y) (HasPortIn s) old new (λ y w. subst (HasPortIn s) (sym w.2) w.1) (λ y h. (y, h, refl)) (all_ports Is s ks old new is a)

pub adds_name : (s n : BTreeSet (List ℕ)) (k : List ℕ) → ((q : List ℕ) → contains name_cmp n q ≡ cond (is_at (name_cmp k) q) true (contains name_cmp s q)) → Adds (λ y. y ≡ k) (λ y. IsTrue (contains name_cmp s y)) (λ y. IsTrue (contains name_cmp n y))
adds_name = adds_insert name_total name_exact

pub names_added : (s : BTreeSet (List ℕ)) (ks : List (List ℕ)) (old new : List ℕ → Type 0) → ks ≡ s.keys → Adds (Before (λ k (n : List ℕ). n ≡ k) ks) old new → Adds (HasName s) old new
names_added s ks old new is a = adds_as (λ n. (k : List ℕ) × HasName s k × (n ≡ k)) (HasName s) old new (λ n h. subst (HasName s) (sym h.2) h.1) (λ n h. (n, h, refl)) (all_names (λ k (n : List ℕ). n ≡ k) s ks old new is a)

-- the names, and the ports, of finite sets
pub names_in : (s : set.FinSet name_cmp) (ks : List (List ℕ)) (old new : List ℕ → Type 0) → set.from_list ks ≡ s → Adds (Before (λ k (x : List ℕ). x ≡ k) ks) old new → Adds (λ x. set.contains s x ≡ true) old new
names_in s ks old new is a = adds_as (λ x. (k : List ℕ) × (set.contains s k ≡ true) × (x ≡ k)) (λ x. set.contains s x ≡ true) old new (λ x h. subst (λ y. set.contains s y ≡ true) (sym h.2) h.1) (λ x h. (x, h, refl)) (all_in (λ k (x : List ℕ). x ≡ k) s ks old new is a)

pub ports_in : (s : set.FinSet nat_cmp) (ks : List ℕ) (old new : ℕ → Type 0) → set.from_list ks ≡ s → Adds (Before (λ k (x : ℕ). x ≡ k) ks) old new → Adds (λ x. set.contains s x ≡ true) old new
ports_in s ks old new is = adds_as (Before (λ k (x : ℕ). x ≡ k) ks) (λ x. set.contains s x ≡ true) old new
    (λ x h. sym (ap (λ y. set.contains y x) is) ∙ (listed_decides nat_cmp_total set.nat_cmp-IsAntisymmetric ks x).1 (subst (Contains ks) (sym h.2) h.1))
    (λ x h. (x, (listed_decides nat_cmp_total set.nat_cmp-IsAntisymmetric ks x).0 (ap (λ y. set.contains y x) is ∙ h), refl))

-- what was added to a set of nothing
pub from_nothing : (P : ℕ → Type 0) (s t : BTreeSet ℕ) → s.keys ≡ [] → Adds P (HasPortIn s) (HasPortIn t) → (p : ℕ) → (HasPortIn t p → P p) × (P p → HasPortIn t p)
from_nothing P s t none = from_none P (HasPortIn s) (HasPortIn t) (none_in nat_cmp_total set.nat_cmp-IsAntisymmetric s none)

pub names_from_nothing : (P : List ℕ → Type 0) (s t : BTreeSet (List ℕ)) → s.keys ≡ [] → Adds P (HasName s) (HasName t) → (n : List ℕ) → (HasName t n → P n) × (P n → HasName t n)
names_from_nothing P s t none = from_none P (HasName s) (HasName t) (none_in name_total name_exact s none)
