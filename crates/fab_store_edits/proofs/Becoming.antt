-- A group taken out of a mapping and put back.
use Rattle.std.proofs.Common.{ℕ, ◌≡◌, ◌⊎◌, inl, inr, List, Option, None, Some, Bool, true, false, cond, refl, sym, ap, ◌∙◌, subst}
use Rattle.std.specs.Ordering.{eq_by_cmp, is_eq}
use Rattle.std.specs.Cmp.{Equal-is, tied_itself}
use Rattle.std.specs.FinMap as map
use Rattle.fab_reach_base.specs.fab_names.Orders.{name_cmp}
use Rattle.fab_reach_base.proofs.fab_names.OrderLaws.{name_total, name_exact}
use Rattle.fab_reach_base.specs.fab_mapping_base.Groups.{HostGroupRows, StorageGroupRows}
use Rattle.fab_reach_base.specs.fab_mapping.Mappings.{MappingRows}
use Rattle.fab_store_edits.specs.Inner.MappingEdits.{BecomesAt, HostsBecome, StorageBecomes}

is_itself : (n : List ℕ) → eq_by_cmp name_cmp n n ≡ true
is_itself n = ap is_eq (tied_itself name_total n)

module _ {X : Type 0} where
  here_or_off : (n q : List ℕ) (a b : Option X) (f : Option X) → (f ≡ cond (eq_by_cmp name_cmp q n) a b) → (f ≡ b) ⊎ (q ≡ n)
  here_or_off n q a b f e = by (eq_by_cmp name_cmp q n) refl e
    where
      by : (t : Bool) → eq_by_cmp name_cmp q n ≡ t → f ≡ cond t a b → (f ≡ b) ⊎ (q ≡ n)
      by true is e = inr (name_exact q n ((Equal-is (name_cmp q n)).0 is))
      by false is e = inl e

  removed : (m : map.FinMap name_cmp X) (n : List ℕ) → BecomesAt n (map.get m n) None (map.get m) (map.get (map.remove m n))
  removed m n = record {
    was = refl;
    now = map.get-remove name_total m n n ∙ ap (λ b. cond b None (map.get m n)) (is_itself n);
    off = λ q. here_or_off n q None (map.get m q) (map.get (map.remove m n) q) (map.get-remove name_total m n q);
  }

  put_back : (m : map.FinMap name_cmp X) (n : List ℕ) (x : X) → BecomesAt n (map.get m n) (Some x) (map.get m) (map.get (map.insert (map.remove m n) n x))
  put_back m n x = record {
    was = refl;
    now = map.get-insert name_total (map.remove m n) n x n ∙ ap (λ b. cond b (Some x) (map.get (map.remove m n) n)) (is_itself n);
    off = λ q. elim (here_or_off n q (Some x) (map.get (map.remove m n) q) (map.get (map.insert (map.remove m n) n x) q) (map.get-insert name_total (map.remove m n) n x q)) [
      | inr e ↦ inr e
      | inl e ↦ elim ((removed m n).off q) [ inr f ↦ inr f | inl f ↦ inl (e ∙ f) ]
    ];
  }

-- of the parts of a mapping
pub hosts_out : (v w : MappingRows) (n : List ℕ) (o : Option HostGroupRows) → o ≡ map.get v.host_groups n → w ≡ record v { host_groups = map.remove v.host_groups n } → HostsBecome n o None v w
hosts_out v w n o is after = subst (λ (a : Option HostGroupRows). HostsBecome n a None v w) (sym is) (subst (HostsBecome n (map.get v.host_groups n) None v) (sym after) (record { at = removed v.host_groups n; rest = refl }))

pub hosts_back : (v u w : MappingRows) (n : List ℕ) (o : Option HostGroupRows) (x : HostGroupRows) → o ≡ map.get v.host_groups n → u ≡ record v { host_groups = map.remove v.host_groups n } → w ≡ record u { host_groups = map.insert u.host_groups n x }
    → HostsBecome n o (Some x) v w
hosts_back v u w n o x is out back =
    let after : w ≡ record v { host_groups = map.insert (map.remove v.host_groups n) n x } = back ∙ ap (λ (t : MappingRows). record t { host_groups = map.insert t.host_groups n x }) out in
    subst (λ (a : Option HostGroupRows). HostsBecome n a (Some x) v w) (sym is) (subst (HostsBecome n (map.get v.host_groups n) (Some x) v) (sym after) (record { at = put_back v.host_groups n x; rest = refl }))

pub storage_out : (v w : MappingRows) (n : List ℕ) (o : Option StorageGroupRows) → o ≡ map.get v.groups n → w ≡ record v { groups = map.remove v.groups n } → StorageBecomes n o None v w
storage_out v w n o is after = subst (λ (a : Option StorageGroupRows). StorageBecomes n a None v w) (sym is) (subst (StorageBecomes n (map.get v.groups n) None v) (sym after) (record { at = removed v.groups n; rest = refl }))

pub storage_back : (v u w : MappingRows) (n : List ℕ) (o : Option StorageGroupRows) (x : StorageGroupRows) → o ≡ map.get v.groups n → u ≡ record v { groups = map.remove v.groups n } → w ≡ record u { groups = map.insert u.groups n x }
    → StorageBecomes n o (Some x) v w
storage_back v u w n o x is out back =
    let after : w ≡ record v { groups = map.insert (map.remove v.groups n) n x } = back ∙ ap (λ (t : MappingRows). record t { groups = map.insert t.groups n x }) out in
    subst (λ (a : Option StorageGroupRows). StorageBecomes n a (Some x) v w) (sym is) (subst (StorageBecomes n (map.get v.groups n) (Some x) v) (sym after) (record { at = put_back v.groups n x; rest = refl }))
