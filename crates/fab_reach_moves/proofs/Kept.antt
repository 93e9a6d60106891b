-- Storage groups that no row touches are kept; and flags that no row says.
use Rattle.std.proofs.Common.{ℕ, ◌≡◌, List, [], Bool, true, false, Option, None, Some, IsTrue, inl, inr, refl, sym, ap, ◌∙◌, subst}
use mathlib.Core.Bool.{true≢false}
use Rattle.std.specs.BTreeMap as tree
use Rattle.std.specs.BTreeSet.{BTreeSet, contains}
use Rattle.std.specs.Cmp.{nat_cmp_total}
use Rattle.std.specs.FinMap as map
use Rattle.std.specs.FinSet as set
use Rattle.fab_names.specs.Orders.{name_cmp}
use Rattle.fab_names.specs.declared.fabric.Fabric.{Fabric}
use Rattle.fab_names.specs.declared.fabric.Fabric.TheVariants.{A, B}
use Rattle.fab_lemmas.specs.MapsOfSets.{in_tree, tree_has}
use Rattle.fab_mapping_base.specs.Groups.{StorageGroupRows}
use Rattle.fab_zoning.specs.Zonings.{permits, flag_of, flag_of-permits}
use Rattle.fab_store_rows.specs.declared.config_row.GroupRow.TheVariants as group
use Rattle.fab_store_rows.specs.declared.config_row.StoragePart.TheVariants as part
use Rattle.fab_store_rows.specs.declared.config_row.PartRow.TheVariants as parts
use Rattle.fab_reach_base.specs.Adding.{Adds}
use Rattle.fab_reach_base.specs.Records.{Records, zoning_at}
use Rattle.fab_reach_base.proofs.Adding.{Before, adds_as, adds_none}
use Rattle.fab_reach_base.proofs.Same.{same_some}
use Rattle.fab_reach_books.specs.declared.row.Row.{Row}
use Rattle.fab_reach_books.specs.declared.row.Row.TheVariants.{DefaultZone, Group, Part}
use Rattle.fab_reach_index.specs.declared.index.Index.{Index}
use Rattle.fab_reach_books.specs.Affected.{HasSameFlag}
use Rattle.fab_reach_moves.specs.Moves.{IsKeptAs, IsKept, AreTouched, AreFlagged, flagged_at}
use Rattle.fab_reach_index.specs.Indexes.{IsIndexOf}
use Rattle.fab_reach_moves.specs.Inner.Naming.{Names, group_said, host_group_said, IsServing, IsTouchedBy, IsTouchedByAny, SaysFlag}
use Rattle.fab_reach_books.specs.Rows.{Stands, IsRowDiff}
use Rattle.fab_reach_books.proofs.SetLoops.{adds_both, same_option}

-- a storage group whose rows stand in both worlds, and whose host groups keep their hosts
module _ (a b : Records) (n : List ℕ) (to : (r : Row) → group_said r ≡ Some n → Stands a r → Stands b r) (from : (r : Row) → group_said r ≡ Some n → Stands b r → Stands a r) where
  pub kept_as : (g : StorageGroupRows) → map.get a.config.mapping.groups n ≡ Some g → ((k h : List ℕ) → set.contains g.host_groups k ≡ true → Stands a (Part (parts.Host k h)) → Stands b (Part (parts.Host k h))) → IsKeptAs a b n g
  kept_as g at hosts =
      let w = to (Group (group.Storage (record { name = n; tenant = g.tenant; array = g.array; exposed = g.exposed }))) refl (g, at, record { tenant = refl; array = refl; exposed = refl }) in record {
        other = w.0;
        there = w.1;
        exposed = λ e. w.2.exposed ∙ e;
        units = map.same_map nat_cmp_total set.nat_cmp-IsAntisymmetric w.0.units g.units (λ u.
            same_option (map.get w.0.units u) (map.get g.units u)
            (λ x k. let v = from (Part (parts.Storage n (part.Unit u x))) refl (w.0, w.1, k) in subst (λ (y : StorageGroupRows). map.get y.units u ≡ Some x) (same_some v.1 at) v.2)
            (λ x k. let v = to (Part (parts.Storage n (part.Unit u x))) refl (g, at, k) in subst (λ (y : StorageGroupRows). map.get y.units u ≡ Some x) (same_some v.1 w.1) v.2));
        targets = λ q k. let v = to (Part (parts.Storage n (part.Target q))) refl (g, at, k) in subst (λ (x : StorageGroupRows). set.contains x.targets q ≡ true) (same_some v.1 w.1) v.2;
        serves = λ host s.
            let v = to (Part (parts.Storage n (part.HostGroup s.0))) refl (g, at, s.1) in
            let h = hosts s.0 host s.1 s.2 in
            (s.0, subst (λ (x : StorageGroupRows). set.contains x.host_groups s.0 ≡ true) (same_some v.1 w.1) v.2, h);
      }

module _ {X : Type 0} (w v : Records) (m : Index X) (are : IsIndexOf w m) (gone come : List Row) (d : IsRowDiff w v gone come) where
  module _ (n : List ℕ) (none_gone : ¬ IsTouchedByAny m.serving gone n) (none_come : ¬ IsTouchedByAny m.serving come n) where
    forth : (r : Row) → group_said r ≡ Some n → Stands w r → Stands v r
    forth r is s = elim (d.before r s) [ inl k ↦ k | inr h ↦ absurd (none_gone (r, h, inl is)) ]

    back : (r : Row) → group_said r ≡ Some n → Stands v r → Stands w r
    back r is s = elim (d.after r s) [ inl k ↦ k | inr h ↦ absurd (none_come (r, h, inl is)) ]

    hosts_forth : (g : StorageGroupRows) → map.get w.config.mapping.groups n ≡ Some g → (k h : List ℕ) → set.contains g.host_groups k ≡ true → Stands w (Part (parts.Host k h)) → Stands v (Part (parts.Host k h))
    hosts_forth g at k h has s = elim (d.before (Part (parts.Host k h)) s) [ inl x ↦ x | inr x ↦ absurd (none_gone (Part (parts.Host k h), x, inr (k, refl, (are.serving k n).1 (g, at, has)))) ]

    hosts_back : (g : StorageGroupRows) → map.get v.config.mapping.groups n ≡ Some g → (k h : List ℕ) → set.contains g.host_groups k ≡ true → Stands v (Part (parts.Host k h)) → Stands w (Part (parts.Host k h))
    hosts_back g at k h has s = elim (d.after (Part (parts.Host k h)) s) [
      | inl x ↦ x
      | inr x ↦ let o = back (Part (parts.Storage n (part.HostGroup k))) refl (g, at, has) in absurd (none_come (Part (parts.Host k h), x, inr (k, refl, (are.serving k n).1 o)))
    ]

    pub kept : IsKept w v n
    kept = record { stays = λ g at. kept_as w v n forth back g at (hosts_forth g at); no_more = λ g at. kept_as v w n back forth g at (hosts_back g at) }

  pub all_kept : (s t u : BTreeSet (List ℕ)) → s.keys ≡ [] → Adds (IsTouchedByAny m.serving gone) (λ n. IsTrue (contains name_cmp s n)) (λ n. IsTrue (contains name_cmp t n))
      → Adds (IsTouchedByAny m.serving come) (λ n. IsTrue (contains name_cmp t n)) (λ n. IsTrue (contains name_cmp u n)) → AreTouched w v u
  all_kept s t u none a b n absent = kept n (λ h. true≢false (sym (b.kept n (a.there n h)) ∙ absent)) (λ h. true≢false (sym (b.there n h) ∙ absent))

-- ---- loops over rows

pub said_added : (o : Option (List ℕ)) (k : List ℕ) (old new : List ℕ → Type 0) → o ≡ Some k → Adds (λ y. y ≡ k) old new → Adds (λ n. o ≡ Some n) old new
said_added o k old new is = adds_as (λ y. y ≡ k) (λ n. o ≡ Some n) old new (λ y e. is ∙ ap Some (sym e)) (λ y h. same_some h is)

pub none_said : (o : Option (List ℕ)) (old : List ℕ → Type 0) → o ≡ None → Adds (λ n. o ≡ Some n) old old
none_said o old none = adds_none (λ n. o ≡ Some n) old (λ n h. let e : ◌≡◌ {A = Option (List ℕ)} None (Some n) = sym none ∙ h in absurd cc)

pub serving_added : (serving : Names) (r : Row) (k : List ℕ) (s : BTreeSet (List ℕ)) (old new : List ℕ → Type 0) → host_group_said r ≡ Some k → tree.get name_cmp serving k ≡ Some s → Adds (λ n. IsTrue (contains name_cmp s n)) old new → Adds (IsServing serving r) old new
serving_added serving r k s old new is at = adds_as (λ n. IsTrue (contains name_cmp s n)) (IsServing serving r) old new
    (λ n h. (k, is, ap (λ o. in_tree name_cmp o n) at ∙ h))
    (λ n h. sym (ap (λ o. in_tree name_cmp o n) at) ∙ ap (λ x. tree_has name_cmp name_cmp serving x n) (same_some is h.1) ∙ h.2)

pub touched_by : (serving : Names) (r : Row) (old mid new : List ℕ → Type 0) → Adds (λ n. group_said r ≡ Some n) old mid → Adds (IsServing serving r) mid new → Adds (IsTouchedBy serving r) old new
touched_by serving r = adds_both (λ n. group_said r ≡ Some n) (IsServing serving r)

pub touched_all : (serving : Names) (rows : List Row) (old new : List ℕ → Type 0) → Adds (Before (IsTouchedBy serving) rows) old new → Adds (IsTouchedByAny serving rows) old new
touched_all serving rows old new a = adds_as (Before (IsTouchedBy serving) rows) (IsTouchedByAny serving rows) old new (λ n h. (h.0, h.1, h.2)) (λ n h. (h.0, h.1, h.2)) a

-- ---- flags

module _ (w v : Records) (gone come : List Row) (d : IsRowDiff w v gone come) where
  pub flag_differs : (f : Fabric) → SaysFlag come f → ¬ HasSameFlag w v f
  flag_differs f s same = let n = d.new (DefaultZone f s.0) s.1 in n.1 (ap permits same ∙ n.0)

  pub flag_same : (f : Fabric) → ¬ SaysFlag come f → HasSameFlag w v f
  flag_same f none =
      let p : permits (zoning_at w.config f).flag ≡ permits (zoning_at v.config f).flag = elim (d.after (DefaultZone f (permits (zoning_at v.config f).flag)) refl) [ inl s ↦ s | inr h ↦ absurd (none (permits (zoning_at v.config f).flag, h)) ] in
      sym (flag_of-permits (zoning_at w.config f).flag) ∙ ap flag_of p ∙ flag_of-permits (zoning_at v.config f).flag

  pub flags_are : (flags : Bool × Bool) → (IsTrue flags.0 → SaysFlag come A) × (SaysFlag come A → IsTrue flags.0) → (IsTrue flags.1 → SaysFlag come B) × (SaysFlag come B → IsTrue flags.1) → AreFlagged w v (flagged_at flags)
  flags_are flags a b = record { sound = sound; rest = rest }
    where
      sound : (f : Fabric) → flagged_at flags f ≡ true → ¬ HasSameFlag w v f
      sound A h = flag_differs A (a.0 h)
      sound B h = flag_differs B (b.0 h)

      rest : (f : Fabric) → flagged_at flags f ≡ false → HasSameFlag w v f
      rest A h = flag_same A (λ s. true≢false (sym (a.1 s) ∙ h))
      rest B h = flag_same B (λ s. true≢false (sym (b.1 s) ∙ h))
