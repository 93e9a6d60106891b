-- Lists of the world after a step.
use Rattle.std.proofs.Common.{ℕ, ◌≡◌, List, [], Bool, true, false, Contains, Option, None, Some, ◌⊎◌, inl, inr, refl, sym, ap, ◌∙◌, subst}
use mathlib.Core.Bool.{true≢false}
use Rattle.std.specs.Ordering.{nat_cmp}
use Rattle.std.specs.Cmp.{nat_cmp_total}
use Rattle.std.specs.declared.cmp.Ordering.{Ordering}
use Rattle.std.specs.BTreeMap as tree
use Rattle.std.specs.BTreeMap.{BTreeMap}
use Rattle.std.specs.BTreeSet.{BTreeSet, contains}
use Rattle.std.specs.FinMap as map
use Rattle.std.specs.FinSet as set
use Rattle.fab_names.specs.Orders.{name_cmp}
use Rattle.fab_inventory.specs.declared.port.Port.{Port}
use Rattle.fab_inventory.specs.Ports.{port_at}
use Rattle.fab_lemmas.specs.MapsOfSets.{in_tree}
use Rattle.fab_lemmas.proofs.SeenSets.{listed_decides}
use Rattle.fab_mapping_base.specs.Groups.{HostGroupRows, StorageGroupRows}
use Rattle.fab_reach_base.specs.Adding.{Adds}
use Rattle.fab_reach_base.specs.Records.{Records}
use Rattle.fab_reach_base.proofs.Adding.{Before, adds_as, adds_none}
use Rattle.fab_reach_base.proofs.Gathering.{name_of, is_own}
use Rattle.fab_reach_base.proofs.Same.{same_some}
use Rattle.fab_reach_books.proofs.SetLoops.{adds_both, all_ports, all_in, all_names}
use Rattle.fab_reach_books.proofs.Staying.{holder_known, known_held}
use Rattle.fab_reach_books.specs.Inner.Sets.{HasName, HasPortIn}
use Rattle.fab_reach_books.specs.Rows.{Stands, IsRowDiff}
use Rattle.fab_reach_books.specs.declared.row.Row.{Row}
use Rattle.fab_reach_books.specs.declared.row.Row.TheVariants as row
use Rattle.fab_reach_index.specs.Indexes.{IsHeldBy, IsTreeOf}
use Rattle.fab_reach_index.specs.Inner.Holding.{Held, HoldsIn}
use Rattle.fab_reach_moves.specs.Inner.Listing.{IsHostOf, name_row, target_row, SaysHeld, NamesNoPort}
use Rattle.fab_reach_moves.specs.Inner.Saying.{IsSaid}
use Rattle.fab_reach_moves.specs.declared.lists_after.Listed.TheVariants.{HostGroups, Hosts}

-- ---- what rows say under keys

module _ {K X : Type 0} (O : K → K → Ordering) (R : X → X → Ordering) (rows : List Row) where
  -- where each item under a key is a row
  pub said_at : (row_of : K → X → Row) (t : BTreeMap K (BTreeSet X)) → IsTreeOf O R (IsSaid (λ r k x. r ≡ row_of k x) rows) t → (k : K) (o : Option (BTreeSet X)) → o ≡ tree.get O t k → (x : X) → (in_tree R o x ≡ true → Contains rows (row_of k x)) × (Contains rows (row_of k x) → in_tree R o x ≡ true)
  said_at row_of t are k o is x = (
    (λ h. let s = (are k x).0 (sym (ap (λ f. in_tree R f x) is) ∙ h) in subst (Contains rows) s.2 s.1),
    λ c. ap (λ f. in_tree R f x) is ∙ (are k x).1 (row_of k x, c, refl),
  )

-- ---- an item, and the items of finite sets, but for some

module _ {Y : Type 0} (gone : Y → Bool) where
  -- the item, unless it is gone
  abbrev pub IfLeft : Y → Y → Type 0
  IfLeft k y = (y ≡ k) × (gone y ≡ false)

  pub is_left : (k : Y) (old new : Y → Type 0) → gone k ≡ false → Adds (λ y. y ≡ k) old new → Adds (IfLeft k) old new
  is_left k old new is = adds_as (λ y. y ≡ k) (IfLeft k) old new (λ y e. (e, ap gone e ∙ is)) (λ y h. h.0)

  pub is_gone : (k : Y) (old : Y → Type 0) → gone k ≡ true → Adds (IfLeft k) old old
  is_gone k old is = adds_none (IfLeft k) old (λ y h. true≢false (sym (ap gone h.0 ∙ is) ∙ h.1))

pub names_left : (gone : List ℕ → Bool) (s : set.FinSet name_cmp) (ks : List (List ℕ)) (old new : List ℕ → Type 0) → set.from_list ks ≡ s → Adds (Before (IfLeft gone) ks) old new → Adds (λ x. (set.contains s x ≡ true) × (gone x ≡ false)) old new
names_left gone s ks old new is a = adds_as (λ x. (k : List ℕ) × (set.contains s k ≡ true) × IfLeft gone k x) (λ x. (set.contains s x ≡ true) × (gone x ≡ false)) old new
    (λ x h. (subst (λ y. set.contains s y ≡ true) (sym h.2.0) h.1, h.2.1)) (λ x h. (x, h.0, (refl, h.1))) (all_in (IfLeft gone) s ks old new is a)

pub ports_left : (gone : ℕ → Bool) (s : set.FinSet nat_cmp) (ks : List ℕ) (old new : ℕ → Type 0) → set.from_list ks ≡ s → Adds (Before (IfLeft gone) ks) old new → Adds (λ x. (set.contains s x ≡ true) × (gone x ≡ false)) old new
ports_left gone s ks old new is = adds_as (Before (IfLeft gone) ks) (λ x. (set.contains s x ≡ true) × (gone x ≡ false)) old new
    (λ x h. (sym (ap (λ y. set.contains y x) is) ∙ (listed_decides nat_cmp_total set.nat_cmp-IsAntisymmetric ks x).1 (subst (Contains ks) (sym h.2.0) h.1), h.2.1))
    (λ x h. (x, (listed_decides nat_cmp_total set.nat_cmp-IsAntisymmetric ks x).0 (ap (λ y. set.contains y x) is ∙ h.0), (refl, h.1)))

-- ---- the parts of groups before the step, but for some

module _ {Y : Type 0} (gone : Y → Bool) where
  pub stand_left : (P Q : Y → Type 0) (old new : Y → Type 0) → ((y : Y) → (P y → Q y) × (Q y → P y)) → Adds (λ y. P y × (gone y ≡ false)) old new → Adds (λ y. Q y × (gone y ≡ false)) old new
  stand_left P Q old new same = adds_as (λ y. P y × (gone y ≡ false)) (λ y. Q y × (gone y ≡ false)) old new (λ y h. ((same y).0 h.0, h.1)) (λ y h. ((same y).1 h.0, h.1))

module _ (w : Records) (n : List ℕ) where
  pub host_groups_stand : (g : StorageGroupRows) → map.get w.config.mapping.groups n ≡ Some g → (x : List ℕ) → (set.contains g.host_groups x ≡ true → Stands w (name_row (HostGroups n) x)) × (Stands w (name_row (HostGroups n) x) → set.contains g.host_groups x ≡ true)
  host_groups_stand g at x = ((λ h. (g, at, h)), λ h. subst (λ (y : StorageGroupRows). set.contains y.host_groups x ≡ true) (same_some h.1 at) h.2)

  pub hosts_stand : (g : HostGroupRows) → map.get w.config.mapping.host_groups n ≡ Some g → (x : List ℕ) → (set.contains g.hosts x ≡ true → Stands w (name_row (Hosts n) x)) × (Stands w (name_row (Hosts n) x) → set.contains g.hosts x ≡ true)
  hosts_stand g at x = ((λ h. (g, at, h)), λ h. subst (λ (y : HostGroupRows). set.contains y.hosts x ≡ true) (same_some h.1 at) h.2)

  pub targets_stand : (g : StorageGroupRows) → map.get w.config.mapping.groups n ≡ Some g → (x : ℕ) → (set.contains g.targets x ≡ true → Stands w (target_row n x)) × (Stands w (target_row n x) → set.contains g.targets x ≡ true)
  targets_stand g at x = ((λ h. (g, at, h)), λ h. subst (λ (y : StorageGroupRows). set.contains y.targets x ≡ true) (same_some h.1 at) h.2)

-- ---- after it

module _ (w v : Records) (gone come : List Row) (d : IsRowDiff w v gone come) where
  -- what stood and is not gone, and what is come
  pub rows_after : {Y : Type 0} (row_of : Y → Row) (g c : Y → Bool) (old mid new : Y → Type 0) → ((y : Y) → (g y ≡ true → Contains gone (row_of y)) × (Contains gone (row_of y) → g y ≡ true)) → ((y : Y) → (c y ≡ true → Contains come (row_of y)) × (Contains come (row_of y) → c y ≡ true))
      → Adds (λ y. Stands w (row_of y) × (g y ≡ false)) old mid → Adds (λ y. c y ≡ true) mid new → Adds (λ y. Stands v (row_of y)) old new
  rows_after {Y} row_of g c old mid new is_gone is_come a b = adds_as (λ y. (Stands w (row_of y) × (g y ≡ false)) ⊎ (c y ≡ true)) (λ y. Stands v (row_of y)) old new
      (λ y h. elim h [
        | inl k ↦ elim (d.before (row_of y) k.0) [ inl s ↦ s | inr x ↦ absurd (true≢false (sym ((is_gone y).1 x) ∙ k.1)) ]
        | inr k ↦ (d.new (row_of y) ((is_come y).0 k)).0
      ])
      (λ y s. elim (d.after (row_of y) s) [ inl k ↦ inl (k, left y (g y) refl s) | inr k ↦ inr ((is_come y).1 k) ])
      (adds_both (λ y. Stands w (row_of y) × (g y ≡ false)) (λ y. c y ≡ true) old mid new a b)
    where
      left : (y : Y) (b : Bool) → g y ≡ b → Stands v (row_of y) → b ≡ false
      left y true at s = absurd ((d.left (row_of y) ((is_gone y).0 at)).1 s)
      left y false at s = refl

  -- the ports of a holder
  pub held_adds : (h : List ℕ) (O C old mid new : ℕ → Type 0) → ((p : ℕ) → (O p → IsHeldBy w h p) × (IsHeldBy w h p → O p)) → ((p : ℕ) → (C p → (r : Row) × Contains come r × SaysHeld r h p) × (((r : Row) × Contains come r × SaysHeld r h p) → C p))
      → Adds (λ p. O p × NamesNoPort gone p) old mid → Adds C mid new → Adds (IsHeldBy v h) old new
  held_adds h O C old mid new o c a b = adds_as (λ p. (O p × NamesNoPort gone p) ⊎ C p) (IsHeldBy v h) old new
      (λ p x. elim x [
        | inl k ↦
            let q = known_held w.inventory.ports p h ((o p).0 k.0) in
            let named = name_of w p q.0 q.1 in
            elim (d.before (row.Port q.0) (is_own w p q.0 q.1)) [
              | inl s ↦ holder_known v.inventory.ports p q.0 (ap (port_at v.inventory.ports) (sym named) ∙ s) ∙ q.2
              | inr y ↦ absurd (k.1 q.0 y named)
            ]
        | inr k ↦ let s = (c p).0 k in let y = s.2 in let q = y.0 in holder_known v.inventory.ports p q (ap (port_at v.inventory.ports) (sym y.3) ∙ (d.new (row.Port q) (subst (Contains come) y.1 s.1)).0) ∙ y.2
      ])
      (λ p x.
      let q = known_held v.inventory.ports p h x in
      let named = name_of v p q.0 q.1 in
      let own = is_own v p q.0 q.1 in
      elim (d.after (row.Port q.0) own) [
        | inl s ↦
            let at : port_at w.inventory.ports p ≡ Some q.0 = ap (port_at w.inventory.ports) (sym named) ∙ s in
            inl (
              (o p).1 (holder_known w.inventory.ports p q.0 at ∙ q.2),
              λ z y is.
                  let l = d.left (row.Port z) y in
                  let same : z ≡ q.0 = same_some (ap (port_at w.inventory.ports) (sym is) ∙ l.0) at in
                  l.1 (subst (λ k. port_at v.inventory.ports k.name ≡ Some k) (sym same) own),
            )
        | inr k ↦ inr ((c p).1 (row.Port q.0, k, (q.0, refl, q.2, named)))
      ])
      (adds_both (λ p. O p × NamesNoPort gone p) C old mid new a b)

-- ---- ports but for those that rows say

module _ (rows : List Row) where
  -- the port, unless the rows say it
  abbrev pub IfUnsaid : ℕ → ℕ → Type 0
  IfUnsaid k p = (p ≡ k) × NamesNoPort rows p

  pub is_unsaid : (k : ℕ) (old new : ℕ → Type 0) → NamesNoPort rows k → Adds (λ y. y ≡ k) old new → Adds (IfUnsaid k) old new
  is_unsaid k old new none = adds_as (λ y. y ≡ k) (IfUnsaid k) old new (λ p e. (e, subst (NamesNoPort rows) (sym e) none)) (λ p h. h.0)

  pub is_said : (k : ℕ) (q : Port) (old : ℕ → Type 0) → Contains rows (row.Port q) → q.name ≡ k → Adds (IfUnsaid k) old old
  is_said k q old there is = adds_none (IfUnsaid k) old (λ p h. h.1 q there (is ∙ sym h.0))

  pub ports_unsaid : (s : BTreeSet ℕ) (ks : List ℕ) (old new : ℕ → Type 0) → ks ≡ s.keys → Adds (Before IfUnsaid ks) old new → Adds (λ p. HasPortIn s p × NamesNoPort rows p) old new
  ports_unsaid s ks old new is a = adds_as (λ p. (k : ℕ) × HasPortIn s k × IfUnsaid k p) (λ p. HasPortIn s p × NamesNoPort rows p) old new
      (λ p h. (subst (HasPortIn s) (sym h.2.0) h.1, h.2.1)) (λ p h. (p, h.0, (refl, h.1))) (all_ports IfUnsaid s ks old new is a)

  pub held_unsaid : (held : Held) (h : List ℕ) (s : BTreeSet ℕ) (old new : ℕ → Type 0) → tree.get name_cmp held h ≡ Some s → Adds (λ p. HasPortIn s p × NamesNoPort rows p) old new → Adds (λ p. HoldsIn held h p × NamesNoPort rows p) old new
  held_unsaid held h s old new at = adds_as (λ p. HasPortIn s p × NamesNoPort rows p) (λ p. HoldsIn held h p × NamesNoPort rows p) old new (λ p k. (ap (λ o. in_tree nat_cmp o p) at ∙ k.0, k.1)) (λ p k. (sym (ap (λ o. in_tree nat_cmp o p) at) ∙ k.0, k.1))

  pub none_held : (held : Held) (h : List ℕ) (old : ℕ → Type 0) → tree.get name_cmp held h ≡ None → Adds (λ p. HoldsIn held h p × NamesNoPort rows p) old old
  none_held held h old none = adds_none (λ p. HoldsIn held h p × NamesNoPort rows p) old (λ p k. true≢false (sym k.0 ∙ ap (λ o. in_tree nat_cmp o p) none))

-- ---- the hosts of storage groups

pub hosts_all : (v : Records) (groups : BTreeSet (List ℕ)) (ks : List (List ℕ)) (old new : List ℕ → Type 0) → ks ≡ groups.keys → Adds (Before (λ k (h : List ℕ). Stands v (name_row (Hosts k) h)) ks) old new
    → Adds (λ h. (k : List ℕ) × HasName groups k × Stands v (name_row (Hosts k) h)) old new
hosts_all v = all_names (λ k (h : List ℕ). Stands v (name_row (Hosts k) h))

pub hosts_are : (v : Records) (n : List ℕ) (groups hosts : BTreeSet (List ℕ)) → ((k : List ℕ) → (HasName groups k → Stands v (name_row (HostGroups n) k)) × (Stands v (name_row (HostGroups n) k) → HasName groups k))
    → ((h : List ℕ) → (HasName hosts h → (k : List ℕ) × HasName groups k × Stands v (name_row (Hosts k) h)) × (((k : List ℕ) × HasName groups k × Stands v (name_row (Hosts k) h)) → HasName hosts h))
    → (h : List ℕ) → (HasName hosts h → IsHostOf v n h) × (IsHostOf v n h → HasName hosts h)
hosts_are v n groups hosts a b h = ((λ x. let y = (b h).0 x in (y.0, (a y.0).0 y.1, y.2)), λ x. (b h).1 (x.0, (a x.0).1 x.1, x.2))

-- what is left where nothing is gone
pub no_names : (s : BTreeSet (List ℕ)) → s.keys ≡ [] → (x : List ℕ) → contains name_cmp s x ≡ false
no_names s none x = ap (λ ks. contains name_cmp (record { keys = ks }) x) none

pub no_ports : (s : BTreeSet ℕ) → s.keys ≡ [] → (x : ℕ) → contains nat_cmp s x ≡ false
no_ports s none x = ap (λ ks. contains nat_cmp (record { keys = ks }) x) none

pub all_left : {Y : Type 0} (P : Y → Type 0) (gone : Y → Bool) (old new : Y → Type 0) → ((y : Y) → gone y ≡ false) → Adds (λ y. P y × (gone y ≡ false)) old new → Adds P old new
all_left P gone old new none = adds_as (λ y. P y × (gone y ≡ false)) P old new (λ y h. h.0) (λ y h. (h, none y))
