-- The rows that contracts see of the zones kept by member.
use Rattle.std.proofs.Common.{ℕ, ◌≡◌, List, [], ◌∷◌, ◌++◌, map, length, Bool, true, false, cond, not, ◌||◌, ◌+◌, ◌≤◌, ◌⊎◌, inl, inr, min, zero-add, append_assoc, arith, Option, None, Some, refl, sym, ap, ◌∙◌, subst}
use mathlib.Core.Bool.{true≢false}
use Rattle.std.specs.declared.cmp.Ordering.{Ordering}
use Rattle.std.specs.declared.cmp.Ordering.TheVariants.{Less, Equal, Greater}
use Rattle.std.specs.Ordering.{eq_by_cmp, is_eq, ordering_then}
use Rattle.std.specs.Cmp.{IsTotalOrder, Equal-is, tied_itself, then_total, on_total, eq_by_cmp_equiv}
use Rattle.std.specs.BTreeMap as tree
use Rattle.std.specs.BTreeMap.{BTreeMap, is_at}
use Rattle.std.specs.BTreeSet.{BTreeSet, contains}
use Rattle.std.specs.Map.{lookup, keys_of}
use Rattle.std.specs.FinSet as set
use Rattle.std.specs.List.{list_any, AllByRecursion}
use Rattle.std.specs.List.Sorted.{IsStrictlySortedBy}
use Rattle.std.proofs.lemmas.List.{append-nil}
use Rattle.std.proofs.lemmas.List.Folds.{list_any-append}
use Rattle.std.proofs.lemmas.Map.Keys.{sorted_head, sorted_tail}
use Rattle.std.proofs.lemmas.Map.Lookups.{exact_pairs}
use Rattle.fab_inventory.specs.fab_names.declared.member.Member.{Member}
use Rattle.fab_inventory.specs.fab_names.Orders.{name_cmp, member_cmp}
use Rattle.fab_inventory.proofs.fab_names.OrderLaws.{name_total, name_exact, member_total, member_exact}
use Rattle.fab_inventory.proofs.fab_lemmas.Tests.{or_true, or_left, or_right}
use Rattle.fab_inventory.proofs.fab_lemmas.Walks.{walked}
use Rattle.fab_zoning_rows.specs.Limits.{most_rows}
use Rattle.fab_zoning_rows.specs.Rows.{Row, Rows, row_cmp, IsPlain}
use Rattle.fab_zoning_rows.specs.Views.{listed_rows, seen_rows}
use Rattle.fab_inventory.specs.fab_lemmas.MapsOfSets.{in_tree, tree_has}

abbrev pub ByMember : Type 0
ByMember = BTreeMap Member (BTreeSet (List ℕ))

-- the order of rows is total, and tells them apart
pub row_total : IsTotalOrder row_cmp
row_total = then_total (on_total (λ (r : Row). r.0) name_total) (on_total (λ (r : Row). r.1) member_total)

pub row_exact : set.IsAntisymmetric row_cmp
row_exact = exact_pairs name_cmp member_cmp name_exact member_exact

both : (r s : Ordering) → is_eq (ordering_then r s) ≡ cond (is_eq s) (is_eq r) false
both Less Less = refl
both Less Equal = refl
both Less Greater = refl
both Equal Less = refl
both Equal Equal = refl
both Equal Greater = refl
both Greater Less = refl
both Greater Equal = refl
both Greater Greater = refl

turned : (b t u : Bool) → (cond b t false || cond b u false) ≡ cond b (t || u) false
turned true t u = refl
turned false t u = refl

off : (b : Bool) → false ≡ cond b false false
off true = refl
off false = refl

-- the zones of one member, as rows
at_member : (z : List ℕ) (k m : Member) (zs : List (List ℕ)) → list_any (eq_by_cmp row_cmp (z, k)) (map {B = Row} (λ y. (y, m)) zs) ≡ cond (is_at (member_cmp k) m) (list_any (eq_by_cmp name_cmp z) zs) false
at_member z k m [] = off (is_at (member_cmp k) m)
at_member z k m (y ∷ zs) =
    (λ i. both (name_cmp z y) (member_cmp k m) i || at_member z k m zs i)
    ∙ turned (is_at (member_cmp k) m) (eq_by_cmp name_cmp z y) (list_any (eq_by_cmp name_cmp z) zs)

none_above : {X : Type 0} (k : Member) (es : List (Member × X)) → AllByRecursion (λ y. member_cmp k y ≡ Less) (keys_of es) → lookup (is_at (member_cmp k)) es ≡ None
none_above k [] h = refl
none_above k (e ∷ es) h = ap (λ r. cond (is_eq r) (Some e.1) (lookup (is_at (member_cmp k)) es)) h.0 ∙ none_above k es h.1

or_false : (b : Bool) → (b || false) ≡ b
or_false true = refl
or_false false = refl

listed : (es : List (Member × BTreeSet (List ℕ))) → IsStrictlySortedBy member_cmp (keys_of es) → (z : List ℕ) (k : Member)
    → list_any (eq_by_cmp row_cmp (z, k)) (listed_rows es) ≡ in_tree name_cmp (lookup (is_at (member_cmp k)) es) z
listed [] sorted z k = refl
listed (e ∷ es) sorted z k =
    list_any-append (eq_by_cmp row_cmp (z, k)) (map {B = Row} (λ y. (y, e.0)) e.1.keys) (listed_rows es)
    ∙ (λ i. at_member z k e.0 e.1.keys i || listed es (sorted_tail member_cmp e.0 (keys_of es) sorted) z k i)
    ∙ by (is_at (member_cmp k) e.0) refl
  where
    by : (b : Bool) → is_at (member_cmp k) e.0 ≡ b
        → (cond b (list_any (eq_by_cmp name_cmp z) e.1.keys) false || in_tree name_cmp (lookup (is_at (member_cmp k)) es) z) ≡ in_tree name_cmp (cond b (Some e.1) (lookup (is_at (member_cmp k)) es)) z
    by true is =
        let same : e.0 ≡ k = sym (member_exact k e.0 ((Equal-is (member_cmp k e.0)).0 is)) in
        let none : lookup (is_at (member_cmp k)) es ≡ None = none_above k es (subst (λ m. AllByRecursion (λ y. member_cmp m y ≡ Less) (keys_of es)) same (sorted_head member_cmp e.0 (keys_of es) sorted)) in
        ap (λ o. list_any (eq_by_cmp name_cmp z) e.1.keys || in_tree name_cmp o z) none ∙ or_false (list_any (eq_by_cmp name_cmp z) e.1.keys)
    by false is = refl

-- a row is seen where the member has the zone
pub contains_seen : (t : ByMember) → tree.IsOrdered member_cmp t → (z : List ℕ) (k : Member) → set.contains (seen_rows t.entries) (z, k) ≡ tree_has member_cmp name_cmp t k z
contains_seen t sorted z k = set.contains-from_list row_total (listed_rows t.entries) (z, k) ∙ listed t.entries sorted z k

-- the rows after the zones of k, which were those of o, have become those of w, with z among them
pub insert_seen : (t u : ByMember) (z : List ℕ) (k : Member) (o : Option (BTreeSet (List ℕ))) (w : BTreeSet (List ℕ)) → tree.IsOrdered member_cmp t → tree.IsOrdered member_cmp u
    → tree.get member_cmp t k ≡ o
    → ((y : List ℕ) → contains name_cmp w y ≡ cond (is_at (name_cmp z) y) true (in_tree name_cmp o y))
    → ((q : Member) → tree.get member_cmp u q ≡ cond (is_at (member_cmp k) q) (Some w) (tree.get member_cmp t q))
    → seen_rows u.entries ≡ set.insert (seen_rows t.entries) (z, k)
insert_seen t u z k o w sorted after at adds updates =
    set.same_set row_total row_exact (seen_rows u.entries) (set.insert (seen_rows t.entries) (z, k)) (λ r.
    contains_seen u after r.0 r.1 ∙ step r.1 r.0
    ∙ sym (set.contains-insert row_total (seen_rows t.entries) (z, k) r ∙ (λ i. both (name_cmp r.0 z) (member_cmp r.1 k) i || contains_seen t sorted r.0 r.1 i)))
  where
    tests : (b c d : Bool) → cond b true d ≡ (b || d)
    tests true c d = refl
    tests false c d = refl

    case : (q : Member) (y : List ℕ) (b : Bool) → is_at (member_cmp k) q ≡ b
        → in_tree name_cmp (cond b (Some w) (tree.get member_cmp t q)) y ≡ (cond b (eq_by_cmp name_cmp y z) false || tree_has member_cmp name_cmp t q y)
    case q y true is =
        let same : k ≡ q = member_exact k q ((Equal-is (member_cmp k q)).0 is) in
        adds y ∙ tests (is_at (name_cmp z) y) true (in_tree name_cmp o y)
        ∙ (λ i. (eq_by_cmp_equiv name_total).symm z y i || in_tree name_cmp (sym (ap (λ m. tree.get member_cmp t m) (sym same) ∙ at) i) y)
    case q y false is = refl

    step : (q : Member) (y : List ℕ) → tree_has member_cmp name_cmp u q y ≡ (cond (is_eq (member_cmp q k)) (eq_by_cmp name_cmp y z) false || tree_has member_cmp name_cmp t q y)
    step q y = ap (λ x. in_tree name_cmp x y) (updates q) ∙ case q y (is_at (member_cmp k) q) refl ∙ ap (λ b. cond b (eq_by_cmp name_cmp y z) false || tree_has member_cmp name_cmp t q y) ((eq_by_cmp_equiv member_total).symm k q)

-- a set of nothing that has gained a zone
pub one_key : (s t : BTreeSet (List ℕ)) (z : List ℕ) → s.keys ≡ [] → ((y : List ℕ) → contains name_cmp t y ≡ cond (is_at (name_cmp z) y) true (contains name_cmp s y))
    → (y : List ℕ) → contains name_cmp t y ≡ cond (is_at (name_cmp z) y) true false
one_key s t z none updates y = updates y ∙ ap (λ ks. cond (is_at (name_cmp z) y) true (list_any (eq_by_cmp name_cmp y) ks)) none

-- how many rows there are after an insertion of a row that was there or not
grown : (s t : Rows) (r : Row) (is_new b : Bool) → t ≡ set.insert s r → is_new ≡ not (set.contains s r) → is_new ≡ b → set.len t ≡ cond b (set.len s + 1) (set.len s)
grown s t r is_new b made new is = ap set.len made ∙ set.len-insert row_total s r ∙ sym (by (set.contains s r) b (sym is ∙ new))
  where
    by : (there b : Bool) → b ≡ not there → cond b (set.len s + 1) (set.len s) ≡ cond there (set.len s) (set.len s + 1)
    by true b e = ap (λ (x : Bool). cond x (set.len s + 1) (set.len s)) e
    by false b e = ap (λ (x : Bool). cond x (set.len s + 1) (set.len s)) e

-- and what their count is then
pub count_grown : (s t : Rows) (r : Row) (n : ℕ) (is_new b : Bool) → n ≡ min (set.len s) (most_rows + 1) → set.len s ≤ most_rows → t ≡ set.insert s r → is_new ≡ not (set.contains s r) → is_new ≡ b
    → cond b (n + 1) n ≡ min (set.len t) (most_rows + 1)
count_grown s t r n is_new b count few made new is = by b (grown s t r is_new b made new is)
  where
    by : (b : Bool) → set.len t ≡ cond b (set.len s + 1) (set.len s) → cond b (n + 1) n ≡ min (set.len t) (most_rows + 1)
    by true e = omega arith
    by false e = omega arith

-- an insertion adds at most one row
pub grows_by_one : (s t : Rows) (r : Row) (n : ℕ) → t ≡ set.insert s r → set.len s ≤ n → set.len t ≤ n + 1
grows_by_one s t r n made few = by (set.contains s r) (ap set.len made ∙ set.len-insert row_total s r)
  where
    by : (b : Bool) → set.len t ≡ cond b (set.len s) (set.len s + 1) → set.len t ≤ n + 1
    by true e = omega arith
    by false e = omega arith

-- ---- how many rows there are
-- rows listed in another order are the same
swapped : (xs ys : List Row) → set.from_list {R = row_cmp} (xs ++ ys) ≡ set.from_list (ys ++ xs)
swapped xs ys = set.same_set row_total row_exact _ _ (λ r.
    set.contains-from_list row_total (xs ++ ys) r ∙ list_any-append (eq_by_cmp row_cmp r) xs ys
    ∙ either (list_any (eq_by_cmp row_cmp r) xs) (list_any (eq_by_cmp row_cmp r) ys)
    ∙ sym (list_any-append (eq_by_cmp row_cmp r) ys xs) ∙ sym (set.contains-from_list row_total (ys ++ xs) r))
  where
    either : (b c : Bool) → (b || c) ≡ (c || b)
    either true true = refl
    either true false = refl
    either false true = refl
    either false false = refl

-- more rows are no fewer
no_fewer : (xs ys : List Row) → set.len (set.from_list {R = row_cmp} ys) ≤ set.len (set.from_list {R = row_cmp} (xs ++ ys))
no_fewer [] ys = omega arith
no_fewer (x ∷ xs) ys =
    let rest = no_fewer xs ys in
    by (set.contains (set.from_list {R = row_cmp} (xs ++ ys)) x) (set.len-insert row_total (set.from_list (xs ++ ys)) x) rest
  where
    by : (b : Bool) → set.len (set.insert (set.from_list {R = row_cmp} (xs ++ ys)) x) ≡ cond b (set.len (set.from_list {R = row_cmp} (xs ++ ys))) (set.len (set.from_list {R = row_cmp} (xs ++ ys)) + 1)
        → set.len (set.from_list {R = row_cmp} ys) ≤ set.len (set.from_list {R = row_cmp} (xs ++ ys)) → set.len (set.from_list {R = row_cmp} ys) ≤ set.len (set.insert (set.from_list {R = row_cmp} (xs ++ ys)) x)
    by true e rest = omega arith
    by false e rest = omega arith

-- the zones of a member that had none are as many rows more
more_rows : (m : Member) (zs : List (List ℕ)) (ys : List Row) → IsStrictlySortedBy name_cmp zs → ((z : List ℕ) → list_any (eq_by_cmp row_cmp (z, m)) ys ≡ false)
    → set.len (set.from_list {R = row_cmp} (map {B = Row} (λ y. (y, m)) zs ++ ys)) ≡ length zs + set.len (set.from_list {R = row_cmp} ys)
more_rows m [] ys sorted none = sym (zero-add (set.len (set.from_list {R = row_cmp} ys)))
more_rows m (z ∷ zs) ys sorted none =
    let rest = more_rows m zs ys (sorted_tail name_cmp z zs sorted) none in
    let fresh : set.contains (set.from_list {R = row_cmp} (map {B = Row} (λ y. (y, m)) zs ++ ys)) (z, m) ≡ false =
    set.contains-from_list row_total (map {B = Row} (λ y. (y, m)) zs ++ ys) (z, m) ∙ list_any-append (eq_by_cmp row_cmp (z, m)) (map {B = Row} (λ y. (y, m)) zs) ys
    ∙ (λ i. at_member z m m zs i || none z i)
    ∙ or_false (cond (is_at (member_cmp m) m) (list_any (eq_by_cmp name_cmp z) zs) false)
    ∙ ap (λ b. cond (is_at (member_cmp m) m) b false) (zone_above z zs (sorted_head name_cmp z zs sorted))
    ∙ sym (off (is_at (member_cmp m) m)) in
    let e = set.len-insert row_total (set.from_list {R = row_cmp} (map {B = Row} (λ y. (y, m)) zs ++ ys)) (z, m) ∙ ap (λ b. cond b (set.len (set.from_list {R = row_cmp} (map {B = Row} (λ y. (y, m)) zs ++ ys))) (set.len (set.from_list {R = row_cmp} (map {B = Row} (λ y. (y, m)) zs ++ ys)) + 1)) fresh in
    omega arith
  where
    zone_above : (z : List ℕ) (zs : List (List ℕ)) → AllByRecursion (λ y. name_cmp z y ≡ Less) zs → list_any (eq_by_cmp name_cmp z) zs ≡ false
    zone_above z [] h = refl
    zone_above z (y ∷ zs) h = ap (λ r. is_eq r || list_any (eq_by_cmp name_cmp z) zs) h.0 ∙ zone_above z zs h.1

pub listed_push : (before : List (Member × BTreeSet (List ℕ))) (e : Member × BTreeSet (List ℕ)) → listed_rows (before ++ e ∷ []) ≡ listed_rows before ++ map {B = Row} (λ y. (y, e.0)) e.1.keys
listed_push [] e = append-nil (map {B = Row} (λ y. (y, e.0)) e.1.keys)
listed_push (x ∷ before) e = ap (λ ys. map {B = Row} (λ y. (y, x.0)) x.1.keys ++ ys) (listed_push before e) ∙ sym (append_assoc (map {B = Row} (λ y. (y, x.0)) x.1.keys) (listed_rows before) (map {B = Row} (λ y. (y, e.0)) e.1.keys))

listed_more : (before more : List (Member × BTreeSet (List ℕ))) → listed_rows (before ++ more) ≡ listed_rows before ++ listed_rows more
listed_more [] more = refl
listed_more (x ∷ before) more = ap (λ ys. map {B = Row} (λ y. (y, x.0)) x.1.keys ++ ys) (listed_more before more) ∙ sym (append_assoc (map {B = Row} (λ y. (y, x.0)) x.1.keys) (listed_rows before) (listed_rows more))

-- a member behind others in their order has none of their rows
not_among : (before more : List (Member × BTreeSet (List ℕ))) (e : Member × BTreeSet (List ℕ)) → IsStrictlySortedBy member_cmp (keys_of (before ++ e ∷ more)) → (z : List ℕ) → list_any (eq_by_cmp row_cmp (z, e.0)) (listed_rows before) ≡ false
not_among [] more e sorted z = refl
not_among (x ∷ before) more e sorted z =
    list_any-append (eq_by_cmp row_cmp (z, e.0)) (map {B = Row} (λ y. (y, x.0)) x.1.keys) (listed_rows before)
    ∙ (λ i. at_member z e.0 x.0 x.1.keys i || not_among before more e (sorted_tail member_cmp x.0 (keys_of (before ++ e ∷ more)) sorted) z i)
    ∙ or_false (cond (is_at (member_cmp e.0) x.0) (list_any (eq_by_cmp name_cmp z) x.1.keys) false)
    ∙ ap (λ b. cond b (list_any (eq_by_cmp name_cmp z) x.1.keys) false) ((eq_by_cmp_equiv member_total).symm e.0 x.0 ∙ ap is_eq (last_above x.0 before (sorted_head member_cmp x.0 (keys_of (before ++ e ∷ more)) sorted)))
  where
    last_above : (m : Member) (xs : List (Member × BTreeSet (List ℕ))) → AllByRecursion (λ y. member_cmp m y ≡ Less) (keys_of (xs ++ e ∷ more)) → member_cmp m e.0 ≡ Less
    last_above m [] h = h.0
    last_above m (y ∷ xs) h = last_above m xs h.1

-- a step of a count of rows
pub counted : (before more : List (Member × BTreeSet (List ℕ))) (e : Member × BTreeSet (List ℕ)) → IsStrictlySortedBy member_cmp (keys_of (before ++ e ∷ more)) → IsStrictlySortedBy name_cmp e.1.keys
    → set.len (seen_rows (before ++ e ∷ [])) ≡ length e.1.keys + set.len (seen_rows before)
counted before more e sorted inner =
    ap (λ (ys : List Row). set.len (set.from_list {R = row_cmp} ys)) (listed_push before e)
    ∙ ap set.len (swapped (listed_rows before) (map {B = Row} (λ y. (y, e.0)) e.1.keys))
    ∙ more_rows e.0 e.1.keys (listed_rows before) inner (not_among before more e sorted)

-- entries in front have no more rows than all
pub part_counted : (before more : List (Member × BTreeSet (List ℕ))) → set.len (seen_rows before) ≤ set.len (seen_rows (before ++ more))
part_counted before more =
    let e = ap (λ (ys : List Row). set.len (set.from_list {R = row_cmp} ys)) (listed_more before more) ∙ ap set.len (swapped (listed_rows before) (listed_rows more)) in
    let h = no_fewer (listed_rows more) (listed_rows before) in
    omega arith

-- ---- rows without aliases
-- the member of an entry is no alias, or has no zone
abbrev pub IsPlainEntry : Member × BTreeSet (List ℕ) → Type 0
IsPlainEntry e = IsPlain e.0 ⊎ (length e.1.keys ≡ 0)

listed_plain : (es : List (Member × BTreeSet (List ℕ))) → AllByRecursion IsPlainEntry es → (r : Row) → list_any (eq_by_cmp row_cmp r) (listed_rows es) ≡ true → IsPlain r.1
listed_plain [] all r h = absurd (true≢false (sym h))
listed_plain (e ∷ es) all r h =
    elim (or_true (list_any (eq_by_cmp row_cmp r) (map {B = Row} (λ y. (y, e.0)) e.1.keys)) (list_any (eq_by_cmp row_cmp r) (listed_rows es)) (sym (list_any-append (eq_by_cmp row_cmp r) (map {B = Row} (λ y. (y, e.0)) e.1.keys) (listed_rows es)) ∙ h)) [
      | inl here ↦ of_entry all.0 (sym (at_member r.0 r.1 e.0 e.1.keys) ∙ here)
      | inr later ↦ listed_plain es all.1 r later
    ]
  where
    no_key : (ks : List (List ℕ)) (z : List ℕ) → length ks ≡ 0 → list_any (eq_by_cmp name_cmp z) ks ≡ false
    no_key [] z e = refl
    no_key (k ∷ ks) z e = absurd (omega arith)

    by : (b : Bool) → is_at (member_cmp r.1) e.0 ≡ b → IsPlainEntry e → cond b (list_any (eq_by_cmp name_cmp r.0) e.1.keys) false ≡ true → IsPlain r.1
    by true is (inl plain) there = subst IsPlain (sym (member_exact r.1 e.0 ((Equal-is (member_cmp r.1 e.0)).0 is))) plain
    by true is (inr none) there = absurd (true≢false (sym there ∙ no_key e.1.keys r.0 none))
    by false is plain there = absurd (true≢false (sym there))

    of_entry : IsPlainEntry e → cond (is_at (member_cmp r.1) e.0) (list_any (eq_by_cmp name_cmp r.0) e.1.keys) false ≡ true → IsPlain r.1
    of_entry = by (is_at (member_cmp r.1) e.0) refl

-- entries that are all plain have plain rows
pub plain_seen : (es : List (Member × BTreeSet (List ℕ))) → AllByRecursion IsPlainEntry es → (r : Row) → set.contains (seen_rows es) r ≡ true → IsPlain r.1
plain_seen es all r h = listed_plain es all r (sym (set.contains-from_list row_total (listed_rows es) r) ∙ h)

-- a zone of an entry is one of its rows
pub row_seen : (before more : List (Member × BTreeSet (List ℕ))) (e : Member × BTreeSet (List ℕ)) → ¬ (length e.1.keys ≡ 0) → (z : List ℕ) × (set.contains (seen_rows (before ++ e ∷ more)) (z, e.0) ≡ true)
row_seen before more e some =
    let z = first e.1.keys some in (
      z.0,
      set.contains-from_list row_total (listed_rows (before ++ e ∷ more)) (z.0, e.0)
          ∙ ap (list_any (eq_by_cmp row_cmp (z.0, e.0))) (listed_more before (e ∷ more))
          ∙ list_any-append (eq_by_cmp row_cmp (z.0, e.0)) (listed_rows before) (map {B = Row} (λ y. (y, e.0)) e.1.keys ++ listed_rows more)
          ∙ or_right (list_any (eq_by_cmp row_cmp (z.0, e.0)) (listed_rows before)) _
          (list_any-append (eq_by_cmp row_cmp (z.0, e.0)) (map {B = Row} (λ y. (y, e.0)) e.1.keys) (listed_rows more)
          ∙ or_left _ (list_any (eq_by_cmp row_cmp (z.0, e.0)) (listed_rows more)) (at_member z.0 e.0 e.0 e.1.keys ∙ ap (λ b. cond b (list_any (eq_by_cmp name_cmp z.0) e.1.keys) false) (ap is_eq (tied_itself member_total e.0)) ∙ z.1)),
    )
  where
    first : (ks : List (List ℕ)) → ¬ (length ks ≡ 0) → (z : List ℕ) × (list_any (eq_by_cmp name_cmp z) ks ≡ true)
    first [] some = absurd (some refl)
    first (k ∷ ks) some = (k, or_left (eq_by_cmp name_cmp k k) (list_any (eq_by_cmp name_cmp k) ks) (ap is_eq (tied_itself name_total k)))

-- ---- steps of a walk through the entries
module _ (es before it more : List (Member × BTreeSet (List ℕ))) (e : Member × BTreeSet (List ℕ)) (so_far : es ≡ before ++ it) (next : it ≡ e ∷ more) where
  -- the rows with one entry more
  pub count_step : IsStrictlySortedBy member_cmp (keys_of es) → IsStrictlySortedBy name_cmp e.1.keys → set.len (seen_rows (before ++ e ∷ [])) ≡ length e.1.keys + set.len (seen_rows before)
  count_step sorted inner = counted before more e (subst (λ x. IsStrictlySortedBy member_cmp (keys_of x)) (so_far ∙ ap (λ x. before ++ x) next) sorted) inner

  -- are no more than all
  pub count_within : set.len (seen_rows (before ++ e ∷ [])) ≤ set.len (seen_rows es)
  count_within = subst (λ x. set.len (seen_rows (before ++ e ∷ [])) ≤ set.len (seen_rows x)) (sym (walked es before it more e so_far next)) (part_counted (before ++ e ∷ []) more)

  -- an alias with a zone is a row
  pub alias_seen : ¬ (length e.1.keys ≡ 0) → ((r : Row) → set.contains (seen_rows es) r ≡ true → IsPlain r.1) → IsPlain e.0
  alias_seen some plain = let z = row_seen before more e some in plain (z.0, e.0) (subst (λ x. set.contains (seen_rows x) (z.0, e.0) ≡ true) (sym (so_far ∙ ap (λ x. before ++ x) next)) z.1)
