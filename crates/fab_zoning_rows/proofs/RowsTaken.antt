-- Rows of an active set with one more or one less, and their count.
use Rattle.std.proofs.Common.{ℕ, ◌≡◌, ◌≤◌, ◌+◌, ◌-◌, List, Bool, true, false, cond, not, ◌&&◌, min, arith, Some, refl, sym, ap, ◌∙◌}
use mathlib.Core.Bool.{true≢false}
use Rattle.std.specs.declared.cmp.Ordering.{Ordering}
use Rattle.std.specs.declared.cmp.Ordering.TheVariants.{Less, Equal, Greater}
use Rattle.std.specs.Ordering.{eq_by_cmp, is_eq, ordering_then}
use Rattle.std.specs.Cmp.{Equal-is, eq_by_cmp_equiv}
use Rattle.std.specs.BTreeMap as tree
use Rattle.std.specs.BTreeMap.{is_at}
use Rattle.std.specs.BTreeSet.{BTreeSet, contains}
use Rattle.std.specs.FinSet as set
use Rattle.fab_inventory.specs.fab_names.declared.member.Member.{Member}
use Rattle.fab_inventory.specs.fab_names.Orders.{name_cmp, member_cmp}
use Rattle.fab_inventory.proofs.fab_names.OrderLaws.{name_total, member_total, member_exact}
use Rattle.fab_inventory.specs.fab_lemmas.MapsOfSets.{in_tree, tree_has}
use Rattle.fab_inventory.proofs.fab_lemmas.Sizes.{holds_some}
use Rattle.fab_zoning_rows.specs.Limits.{most_rows}
use Rattle.fab_zoning_rows.specs.Rows.{Row, Rows, row_cmp}
use Rattle.fab_zoning_rows.specs.Views.{seen_rows}
use Rattle.fab_zoning_rows.proofs.RowSets.{ByMember, row_total, row_exact, contains_seen}

both : (r s : Ordering) → is_eq (ordering_then r s) ≡ cond (is_eq s) (is_eq r) false
both Less Less = refl
both Less Equal = refl
both Less Greater = refl
both Equal Less = refl
both Equal Equal = refl
both Equal Greater = refl
both Greater Less = refl
both Greater Equal = refl
both Greater Greater = refl

-- the rows after the zones of k, which were those of s, have become those of w, without z
pub remove_seen : (t u : ByMember) (z : List ℕ) (k : Member) (s w : BTreeSet (List ℕ)) → tree.IsOrdered member_cmp t → tree.IsOrdered member_cmp u
    → tree.get member_cmp t k ≡ Some s
    → ((y : List ℕ) → contains name_cmp w y ≡ cond (is_at (name_cmp z) y) false (contains name_cmp s y))
    → ((q : Member) → tree.get member_cmp u q ≡ cond (is_at (member_cmp k) q) (Some w) (tree.get member_cmp t q))
    → seen_rows u.entries ≡ set.remove (seen_rows t.entries) (z, k)
remove_seen t u z k s w sorted after at takes updates =
    set.same_set row_total row_exact (seen_rows u.entries) (set.remove (seen_rows t.entries) (z, k)) (λ r.
    contains_seen u after r.0 r.1 ∙ step r.1 r.0
    ∙ sym (set.contains-remove row_total (seen_rows t.entries) (z, k) r ∙ (λ i. not (both (name_cmp r.0 z) (member_cmp r.1 k) i) && contains_seen t sorted r.0 r.1 i)))
  where
    tests : (b d : Bool) → cond b false d ≡ (not b && d)
    tests true d = refl
    tests false d = refl

    case : (q : Member) (y : List ℕ) (b : Bool) → is_at (member_cmp k) q ≡ b
        → in_tree name_cmp (cond b (Some w) (tree.get member_cmp t q)) y ≡ (not (cond b (eq_by_cmp name_cmp y z) false) && tree_has member_cmp name_cmp t q y)
    case q y true is =
        let same : k ≡ q = member_exact k q ((Equal-is (member_cmp k q)).0 is) in
        takes y ∙ tests (is_at (name_cmp z) y) (contains name_cmp s y)
        ∙ (λ i. not ((eq_by_cmp_equiv name_total).symm z y i) && in_tree name_cmp (sym (ap (λ m. tree.get member_cmp t m) (sym same) ∙ at) i) y)
    case q y false is = refl

    step : (q : Member) (y : List ℕ) → tree_has member_cmp name_cmp u q y ≡ (not (cond (is_eq (member_cmp q k)) (eq_by_cmp name_cmp y z) false) && tree_has member_cmp name_cmp t q y)
    step q y = ap (λ x. in_tree name_cmp x y) (updates q) ∙ case q y (is_at (member_cmp k) q) refl ∙ ap (λ b. not (cond b (eq_by_cmp name_cmp y z) false) && tree_has member_cmp name_cmp t q y) ((eq_by_cmp_equiv member_total).symm k q)

-- a row that is not there, taken out
pub remove_none : (s : Rows) (r : Row) → set.contains s r ≡ false → s ≡ set.remove s r
remove_none s r absent = set.same_set row_total row_exact s (set.remove s r) (λ q. by q (eq_by_cmp row_cmp q r) refl ∙ sym (set.contains-remove row_total s r q))
  where
    by : (q : Row) (b : Bool) → eq_by_cmp row_cmp q r ≡ b → set.contains s q ≡ (not b && set.contains s q)
    by q true e = ap (set.contains s) (row_exact q r ((Equal-is (row_cmp q r)).0 e)) ∙ absent
    by q false e = refl

-- a count of rows after one was put in
pub count_more : (s t : Rows) (r : Row) (n : ℕ) (is_new : Bool) → n ≡ min (set.len s) (most_rows + 1) → t ≡ set.insert s r → is_new ≡ not (set.contains s r)
    → min (cond is_new (n + 1) n) (most_rows + 1) ≡ min (set.len t) (most_rows + 1)
count_more s t r n is_new count made new = by (set.contains s r) is_new new (ap set.len made ∙ set.len-insert row_total s r)
  where
    by : (there b : Bool) → b ≡ not there → set.len t ≡ cond there (set.len s) (set.len s + 1) → min (cond b (n + 1) n) (most_rows + 1) ≡ min (set.len t) (most_rows + 1)
    by true true e f = absurd (true≢false e)
    by true false e f = omega arith
    by false true e f = omega arith
    by false false e f = absurd (true≢false (sym e))

-- where a row is there, one is counted
pub counts_one : (s : Rows) (r : Row) (n : ℕ) → n ≡ min (set.len s) (most_rows + 1) → true ≡ set.contains s r → 1 ≤ n
counts_one s r n count there = let some = holds_some row_total s r (sym there) in omega (arith, some, count)

-- a count of rows after one was taken out
pub count_less : (s t : Rows) (r : Row) (n : ℕ) → n ≡ min (set.len s) (most_rows + 1) → n ≤ most_rows → t ≡ set.remove s r → true ≡ set.contains s r → n - 1 ≡ min (set.len t) (most_rows + 1)
count_less s t r n count few made there = by (set.contains s r) there (ap set.len made ∙ set.len-remove row_total s r)
  where
    by : (b : Bool) → true ≡ b → set.len t ≡ cond b (set.len s - 1) (set.len s) → n - 1 ≡ min (set.len t) (most_rows + 1)
    by true e f = omega arith
    by false e f = absurd (true≢false e)

pub count_same : (s t : Rows) (r : Row) (n : ℕ) → n ≡ min (set.len s) (most_rows + 1) → t ≡ set.remove s r → false ≡ set.contains s r → n ≡ min (set.len t) (most_rows + 1)
count_same s t r n count made absent = count ∙ ap (λ (x : Rows). min (set.len x) (most_rows + 1)) (remove_none s r (sym absent) ∙ sym made)
