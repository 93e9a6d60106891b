-- Names with their positions.
use Rattle.std.proofs.Common.{◌≡◌, ℕ, ◌+◌, ◌<◌, ◌≤◌, List, [], ◌∷◌, ◌++◌, length, take, true, cond, Contains, ◌≢◌, refl, sym, ap, ◌∙◌, subst, arith}
use Rattle.std.specs.declared.cmp.Ordering.TheVariants.{Less}
use Rattle.std.specs.Ordering.{nat_cmp, ordering_then}
use Rattle.std.specs.List.{AllByRecursion}
use Rattle.std.specs.Cmp.{nat_cmp_is, IsTotalOrder, then_total, on_total}
use Rattle.std.proofs.lemmas.Cmp.{nat_cmp_total}
use Rattle.std.specs.FinSet as set
use Rattle.std.specs.List.Sorted.{IsStrictlySortedBy}
use Rattle.std.proofs.lemmas.Map.Lookups.{exact_pairs}
use Rattle.std.proofs.lemmas.Map.Made.{is_member-Decides}
use Rattle.fab_reach_base.specs.fab_names.Orders.{name_cmp}
use Rattle.fab_reach_base.proofs.fab_names.OrderLaws.{name_total, name_exact}
use Rattle.fab_reach_base.specs.fab_lemmas.Lists.{IsListOf}
use Rattle.fab_reach_base.proofs.fab_lemmas.SeenSets.{tie_decides}
use Rattle.fab_reach_base.proofs.fab_lemmas.Walks.{walked, walk_end}
use Rattle.fab_reach_base.proofs.SameLists.{same_sorted}
use Rattle.fab_reach_base.specs.Adding.{Adds}
use Rattle.fab_reach_base.proofs.Adding.{Before, before_last, adds_as, from_none}
use Rattle.fab_reach_base.proofs.Sets.{adds_insert, none_in}
use Rattle.std.specs.BTreeSet.{BTreeSet, contains, IsOrdered}
use Rattle.std.specs.BTreeMap.{is_at}
use Rattle.std.proofs.lemmas.Map.Views.{btree_set_contains_iff}
use Rattle.fab_world.specs.fab_store_rows.PlanEntries.{PlanEntry}
use Rattle.fab_store_world.specs.Orders.{IsOrderOf, IsPlaced, IsAt, HasPlace, HaveNoPlace, numbered, place_cmp}

pub place_total : IsTotalOrder place_cmp
place_total = then_total (on_total (λ (e : ℕ × List ℕ). e.0) nat_cmp_total) (on_total (λ (e : ℕ × List ℕ). e.1) name_total)

pub place_exact : set.IsAntisymmetric place_cmp
place_exact = exact_pairs nat_cmp name_cmp set.nat_cmp-IsAntisymmetric name_exact

-- one name more
pub numbered_more : (k : ℕ) (ns : List (List ℕ)) (n : List ℕ) → numbered k (ns ++ n ∷ []) ≡ numbered k ns ++ (k + length ns, n) ∷ []
numbered_more k [] n = ap (λ i. (i, n) ∷ []) (let e : k ≡ k + length {A = List ℕ} [] = omega arith in e)
numbered_more k (m ∷ ns) n = ap (λ es. (k, m) ∷ es) (numbered_more (k + 1) ns n ∙ ap (λ i. numbered (k + 1) ns ++ (i, n) ∷ []) (let e : k + 1 + length ns ≡ k + length (m ∷ ns) = omega arith in e))

pub length_numbered : (k : ℕ) (ns : List (List ℕ)) → length (numbered k ns) ≡ length ns
length_numbered k [] = refl
length_numbered k (n ∷ ns) = let rest = length_numbered (k + 1) ns in omega arith

-- the position behind some names
pub numbered_at : (k : ℕ) (ns : List (List ℕ)) (before more : List (ℕ × List ℕ)) (e : ℕ × List ℕ) → numbered k ns ≡ before ++ e ∷ more → e.0 ≡ k + length before
numbered_at k [] [] more e is = absurd cc
numbered_at k [] (b ∷ before) more e is = absurd cc
numbered_at k (n ∷ ns) [] more e is = let head : e ≡ (k, n) = cc in let first : e.0 ≡ k = ap (λ (d : ℕ × List ℕ). d.0) head in omega arith
numbered_at k (n ∷ ns) (b ∷ before) more e is = let tail : numbered (k + 1) ns ≡ before ++ e ∷ more = cc in let rest = numbered_at (k + 1) ns before more e tail in omega arith

-- behind the names so far
pub next_position : (ks before it more : List (ℕ × List ℕ)) (e : ℕ × List ℕ) (ns order : List (List ℕ)) → ks ≡ before ++ it → it ≡ e ∷ more → before ≡ numbered 1 ns → ks ≡ numbered 1 order → e.0 ≡ length ns + 1
next_position ks before it more e ns order is next so whole =
    let at = numbered_at 1 order before more e (sym whole ∙ is ∙ ap (λ xs. before ++ xs) next) in
    let long : length before ≡ length ns = ap length so ∙ length_numbered 1 ns in
    omega arith

-- one name more
pub place_more : (ks before it more : List (ℕ × List ℕ)) (e : ℕ × List ℕ) (ns items : List (List ℕ)) → ks ≡ before ++ it → it ≡ e ∷ more → before ≡ numbered 1 ns → e.0 ≡ length ns + 1 → items ≡ ns ++ e.1 ∷ []
    → (x : List (ℕ × List ℕ)) × (ks ≡ x ++ more) × (x ≡ numbered 1 items)
place_more ks before it more e ns items is next so at grown =
    (before ++ e ∷ [], walked ks before it more e is next, ap (λ xs. xs ++ e ∷ []) so ∙ ap (λ (d : ℕ × List ℕ). numbered 1 ns ++ d ∷ []) same ∙ sym (numbered_more 1 ns e.1) ∙ ap (numbered 1) (sym grown))
  where
    first : e.0 ≡ 1 + length ns
    first = omega arith

    same : e ≡ (1 + length ns, e.1)
    same = ap (λ (i : ℕ). (i, e.1)) first

-- all places lie before, and after names nothing is left
pub order_told : (ks before it : List (ℕ × List ℕ)) (ns : List (List ℕ)) → ks ≡ before ++ it → it ≡ [] → before ≡ numbered 1 ns → ks ≡ numbered 1 ns
order_told ks before it ns is none so = sym (walk_end ks before it is none) ∙ so

-- ---- the places that are found

-- an active plan
pub active_added : (r : PlanEntry) (s n : BTreeSet (ℕ × List ℕ)) (k : ℕ × List ℕ) → IsAt r k → ((q : ℕ × List ℕ) → contains place_cmp n q ≡ cond (is_at (place_cmp k) q) true (contains place_cmp s q)) → Adds (IsAt r) (HasPlace s) (HasPlace n)
active_added r s n k at put =
    adds_as (λ y. y ≡ k) (IsAt r) (HasPlace s) (HasPlace n) (λ y e. subst (IsAt r) (sym e) at) (λ y h. λ j. ((sym h.1 ∙ at.1) j, (sym h.2 ∙ at.2) j)) (adds_insert place_total place_exact s n k put)

-- all of them, in order
pub places_listed : (rows : List PlanEntry) (i : ℕ) (first t : BTreeSet (ℕ × List ℕ)) → length rows ≤ i → first.keys ≡ [] → IsOrdered place_cmp t → Adds (Before IsAt (take i rows)) (HasPlace first) (HasPlace t) → IsListOf place_cmp (IsPlaced rows) t.keys
places_listed rows i first t end none ordered so =
    let all = from_none (Before IsAt rows) (HasPlace first) (HasPlace t) (none_in place_total place_exact first none) (before_last IsAt rows i (HasPlace first) (HasPlace t) end so) in
    record {
      sorted = ordered;
      sound = λ e h. (all e).0 ((btree_set_contains_iff place_total place_exact t e).1 h);
      complete = λ e h. (btree_set_contains_iff place_total place_exact t e).0 ((all e).1 h);
    }

-- ---- the order that places tell

later : (k m : ℕ) (ns : List (List ℕ)) (n : List ℕ) → k < m → AllByRecursion (λ e. place_cmp (k, n) e ≡ Less) (numbered m ns)
later k m [] n lt = tt
later k m (x ∷ ns) n lt = (less k m n x lt, later k (m + 1) ns n (omega arith))
  where
    less : (k m : ℕ) (n x : List ℕ) → k < m → place_cmp (k, n) (m, x) ≡ Less
    less k m n x lt = ap (λ o. ordering_then o (name_cmp n x)) (sym (nat_cmp_is k m Less lt))

pub numbered_sorted : (k : ℕ) (ns : List (List ℕ)) → IsStrictlySortedBy place_cmp (numbered k ns)
unfolding IsStrictlySortedBy
numbered_sorted k [] = tt
numbered_sorted k (n ∷ ns) = (later k (k + 1) ns n (omega arith), numbered_sorted (k + 1) ns)

-- the names of an order, with their positions, are the places of the rows
pub order_listed : (rows : List PlanEntry) (order : List (List ℕ)) → IsOrderOf rows order → IsListOf place_cmp (IsPlaced rows) (numbered 1 order)
order_listed rows order h = record {
  sorted = numbered_sorted 1 order;
  sound = h.all_active;
  complete = λ e p. subst (Contains (numbered 1 order)) (λ j. (p.2.1 j, p.2.2 j)) (h.placed p.0 p.1 p.2.0);
}

-- two lists of all places are one
one_list : (P : ℕ × List ℕ → Type 0) (xs ys : List (ℕ × List ℕ)) → IsListOf place_cmp P xs → IsListOf place_cmp P ys → xs ≡ ys
one_list P xs ys l m = same_sorted place_total place_exact xs ys l.sorted m.sorted
    (λ k h. (is_member-Decides (tie_decides place_total place_exact) ys k).1 (m.complete k (l.sound k ((is_member-Decides (tie_decides place_total place_exact) xs k).0 h))))
    (λ k h. (is_member-Decides (tie_decides place_total place_exact) xs k).1 (l.complete k (m.sound k ((is_member-Decides (tie_decides place_total place_exact) ys k).0 h))))

-- places that are no numbered names are of no order
pub no_order : (rows : List PlanEntry) (keys : List (ℕ × List ℕ)) → IsListOf place_cmp (IsPlaced rows) keys → ((order : List (List ℕ)) → keys ≢ numbered 1 order) → (order : List (List ℕ)) → ¬ IsOrderOf rows order
no_order rows keys all none order h = none order (one_list (IsPlaced rows) keys (numbered 1 order) all (order_listed rows order h))

-- places that are numbered names are of their order
pub this_order : (rows : List PlanEntry) (keys : List (ℕ × List ℕ)) (order : List (List ℕ)) → HaveNoPlace rows → IsListOf place_cmp (IsPlaced rows) keys → keys ≡ numbered 1 order → IsOrderOf rows order
this_order rows keys order idle all is = record {
  placed = λ r here active. subst (λ es. Contains es (r.position, r.name)) is (all.complete (r.position, r.name) (r, here, (active, refl, refl)));
  all_active = λ e h. all.sound e (subst (λ es. Contains es e) (sym is) h);
  others = idle;
}

-- names with their positions tell the names
one_numbered : (k : ℕ) (ns ms : List (List ℕ)) → numbered k ns ≡ numbered k ms → ns ≡ ms
one_numbered k [] [] e = refl
one_numbered k [] (m ∷ ms) e = absurd cc
one_numbered k (n ∷ ns) [] e = absurd cc
one_numbered k (n ∷ ns) (m ∷ ms) e =
    let first : ◌≡◌ {A = ℕ × List ℕ} (k, n) (k, m) = cc in
    let rest : numbered (k + 1) ns ≡ numbered (k + 1) ms = cc in
    let name : n ≡ m = ap (λ (d : ℕ × List ℕ). d.1) first in
    let names = one_numbered (k + 1) ns ms rest in
    λ i. name i ∷ names i

-- rows are of one order
pub one_order : (rows : List PlanEntry) (order names : List (List ℕ)) → IsOrderOf rows order → IsOrderOf rows names → order ≡ names
one_order rows order names h k = one_numbered 1 order names (one_list (IsPlaced rows) (numbered 1 order) (numbered 1 names) (order_listed rows order h) (order_listed rows names k))
