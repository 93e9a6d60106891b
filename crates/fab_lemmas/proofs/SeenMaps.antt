-- A map of the code, seen as a finite map.
use Rattle.std.proofs.Common.{ℕ, ◌≡◌, ◌<◌, ◌≤◌, ◌+◌, inl, inr, arith, List, [], ◌∷◌, length, refl, ap, sym, ◌∙◌, subst, cond, Option, None, Some, is_some, Bool, true, false, ◌&&◌, add-one}
use Rattle.std.specs.declared.cmp.Ordering.{Ordering}
use Rattle.std.specs.Ordering.{is_eq, is_lt}
use Rattle.std.specs.Cmp.{IsTotalOrder, eq_by_cmp_equiv, tied_itself}
use Rattle.std.specs.BTreeMap as tree
use Rattle.std.specs.BTreeMap.{BTreeMap, is_at}
use Rattle.std.specs.FinSet as set
use Rattle.std.specs.Map.{lookup, keys_of}
use Rattle.std.specs.List.Sorted.{IsStrictlySortedBy}
use Rattle.std.specs.FinMap.Entries.{below_all}
use Rattle.std.specs.List.{AllByRecursion}
use Rattle.std.specs.declared.cmp.Ordering.TheVariants.{Less}
use lib.Dec.{T}
use Rattle.std.specs.FinMap.{entries, from_sorted, is_sorted, get-from_sorted, entries-from_sorted, FinMap, get, len, find, from_entries, insert, remove, same_map, get-from_entries, get-insert, get-remove, len-insert, len-empty, contains_key}
use Rattle.std.proofs.lemmas.Map.{lookup-none}
use Rattle.std.proofs.lemmas.Map.Entries.{none_past_head}
use Rattle.fab_lemmas.specs.Room.{IsFull, HasRoom}
use Rattle.std.proofs.lemmas.Map.Keys.{IsDistinct-from_sorted, sorted_head, sorted_tail}

both_true : (a b : Bool) → T a → T b → T (a && b)
both_true true b h k = k
both_true false b h k = h

module _ {K X : Type 0} {R : K → K → Ordering} (o : IsTotalOrder R) where
  find_lookup : (es : List (K × X)) (q : K) → find R q es ≡ lookup (is_at (R q)) es
  find_lookup [] q = refl
  find_lookup (e ∷ es) q = ap (cond (is_at (R q) e.0) (Some e.1)) (find_lookup es q)

  -- what the map that the entries make has at a key
  pub get_entries : (es : List (K × X)) (q : K) → get (from_entries {R = R} es) q ≡ lookup (is_at (R q)) es
  get_entries es q = get-from_entries o es q ∙ find_lookup es q

  -- how many keys it has
  pub len_entries : (es : List (K × X)) → IsStrictlySortedBy R (keys_of es) → len (from_entries {R = R} es) ≡ length es
  len_entries [] h = len-empty R X
  len_entries (e ∷ es) h =
      let absent : lookup (is_at (R e.0)) es ≡ None =
      lookup-none (is_at (R e.0)) es (none_past_head (eq_by_cmp_equiv o) e.0 e es (IsDistinct-from_sorted R (keys_of (e ∷ es)) h) (ap is_eq (tied_itself o e.0))) in
      let fresh : contains_key (from_entries {R = R} es) e.0 ≡ false = ap is_some (get_entries es e.0 ∙ absent) in
      len-insert o (from_entries es) e.0 e.1
      ∙ ap (λ b. cond b (len (from_entries {R = R} es)) (len (from_entries {R = R} es) + 1)) fresh
      ∙ ap (λ n. n + 1) (len_entries es (sorted_tail R e.0 (keys_of es) h))
      ∙ add-one (length es)

  -- what a look-up in the tree shows of the finite map that it makes
  pub looked_up : (es : List (K × X)) (m : FinMap R X) (q : K) (found : Option X) → from_entries es ≡ m → found ≡ lookup (is_at (R q)) es → get m q ≡ found
  looked_up es m q found view is = ap (λ x. get x q) (sym view) ∙ get_entries es q ∙ sym is

  -- the look-ups in the tree are those in the finite map
  pub same_look_ups : (t : BTreeMap K X) (m : FinMap R X) → from_entries t.entries ≡ m → tree.get R t ≡ get m
  same_look_ups t m view = λ i q. (sym (get_entries t.entries q) ∙ ap (λ x. get x q) view) i

  -- the tree is as large as the finite map
  pub same_len : (t : BTreeMap K X) (m : FinMap R X) → from_entries t.entries ≡ m → tree.IsOrdered R t → length t.entries ≡ len m
  same_len t m view sorted = sym (len_entries t.entries sorted) ∙ ap len view

  -- whether it has a key
  pub knows_entries : (es : List (K × X)) (q : K) → contains_key (from_entries {R = R} es) q ≡ is_some (lookup (is_at (R q)) es)
  knows_entries es q = ap is_some (get_entries es q)

  -- ---- room
  pub full_entries : (t : BTreeMap K X) (q : K) (most n : ℕ) → tree.IsOrdered R t → n ≡ length t.entries → most ≤ n → is_some (tree.get R t q) ≡ false → IsFull (from_entries {R = R} t.entries) q most
  full_entries t q most n sorted len many absent = (knows_entries t.entries q ∙ absent, let e = len_entries t.entries sorted in omega arith)

  pub room_beside : (t : BTreeMap K X) (q : K) (most n : ℕ) → tree.IsOrdered R t → n ≡ length t.entries → n < most → HasRoom (from_entries {R = R} t.entries) q most
  room_beside t q most n sorted len few = inr (let e = len_entries t.entries sorted in omega arith)

  pub room_there : (t : BTreeMap K X) (q : K) (most : ℕ) → is_some (tree.get R t q) ≡ true → HasRoom (from_entries {R = R} t.entries) q most
  room_there t q most there = inl (knows_entries t.entries q ∙ there)

  -- ---- changes
  module _ (exact : set.IsAntisymmetric R) where
    -- after an insertion
    pub seen_insert : (t u : BTreeMap K X) (k : K) (v : X) → ((q : K) → tree.get R u q ≡ cond (is_at (R k) q) (Some v) (tree.get R t q)) → from_entries {R = R} u.entries ≡ insert (from_entries t.entries) k v
    seen_insert t u k v updates = same_map o exact _ _ (λ q.
        get_entries u.entries q ∙ updates q ∙ ap (cond (is_at (R k) q) (Some v)) (sym (get_entries t.entries q))
        ∙ ap (λ b. cond b (Some v) (get (from_entries {R = R} t.entries) q)) ((eq_by_cmp_equiv o).symm k q)
        ∙ sym (get-insert o _ k v q))

    -- after a removal
    pub seen_remove : (t u : BTreeMap K X) (k : K) → ((q : K) → tree.get R u q ≡ cond (is_at (R k) q) None (tree.get R t q)) → from_entries {R = R} u.entries ≡ remove (from_entries t.entries) k
    seen_remove t u k updates = same_map o exact _ _ (λ q.
        get_entries u.entries q ∙ updates q ∙ ap (cond (is_at (R k) q) None) (sym (get_entries t.entries q))
        ∙ ap (λ b. cond b None (get (from_entries {R = R} t.entries) q)) ((eq_by_cmp_equiv o).symm k q)
        ∙ sym (get-remove o _ k q))

    below_test : (x : K) (es : List (K × X)) → AllByRecursion (λ y. R x y ≡ Less) (keys_of es) → T (below_all R x es)
    below_test x [] h = tt
    below_test x (e ∷ es) h = both_true _ _ (subst (λ r. T (is_lt r)) (sym h.0) tt) (below_test x es h.1)

    sorted_test : (es : List (K × X)) → IsStrictlySortedBy R (keys_of es) → T (is_sorted R es)
    sorted_test [] h = tt
    sorted_test (e ∷ es) h = both_true _ _ (below_test e.0 es (sorted_head R e.0 (keys_of es) h)) (sorted_test es (sorted_tail R e.0 (keys_of es) h))

    -- the entries of the finite map that sorted entries make
    pub entries_made : (es : List (K × X)) → IsStrictlySortedBy R (keys_of es) → entries (from_entries {R = R} es) ≡ es
    entries_made es sorted =
        let test = sorted_test es sorted in
        ap entries (same_map o exact (from_entries es) (from_sorted es) (λ q. get-from_entries o es q ∙ sym (get-from_sorted R es q test))) ∙ entries-from_sorted R es test
