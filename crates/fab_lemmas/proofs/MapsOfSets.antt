-- What contracts see of trees of sets: look-ups, changes, lengths and users.
use Rattle.std.proofs.Common.{ℕ, suc, ◌+◌, ◌≤◌, ◌<◌, length, subst, ◌≡◌, List, [], ◌∷◌, ◌++◌, map, Bool, true, false, cond, Option, Some, None, refl, sym, ap, ◌∙◌, inl, inr}
use mathlib.Core.Bool.{true≢false}
use Rattle.std.specs.declared.cmp.Ordering.{Ordering}
use Rattle.std.specs.Cmp.{IsTotalOrder, eq_by_cmp_equiv}
use Rattle.std.specs.BTreeMap as tree
use Rattle.std.specs.BTreeMap.{BTreeMap, is_at}
use Rattle.std.specs.BTreeSet as tree_set
use Rattle.std.specs.BTreeSet.{BTreeSet}
use Rattle.std.specs.Map.{lookup}
use Rattle.std.specs.List.{AllByRecursion}
use Rattle.std.specs.List.Sorted.{IsStrictlySortedBy}
use Rattle.std.specs.Option.{option_map, is_some}
use Rattle.std.specs.FinMap as fin
use Rattle.std.specs.FinSet as set
use Rattle.std.proofs.lemmas.Map.Made.{lookup-map_values, keys_of-map_values}
use Rattle.fab_lemmas.specs.MapsOfSets.{seen_set, seen_sets, has, in_set, in_tree, tree_has, HasNoUser, IsFirstUser}
use Rattle.fab_lemmas.specs.Room.{IsFull, HasRoom}
use Rattle.fab_lemmas.proofs.Tests.{is_false}
use Rattle.fab_lemmas.proofs.SeenMaps.{get_entries, len_entries, knows_entries}
use Rattle.fab_lemmas.proofs.Walks.{found, first_hit}

module _ {Q K : Type 0} {O : Q → Q → Ordering} (R : K → K → Ordering) (o : IsTotalOrder O) where
  abbrev seen_entries : List (Q × BTreeSet K) → List (Q × set.FinSet R)
  seen_entries es = map (λ e. (e.0, seen_set R e.1)) es

  -- what the map has at a key
  pub get_seen : (t : BTreeMap Q (BTreeSet K)) (q : Q) → fin.get (seen_sets O R t.entries) q ≡ option_map (seen_set R) (tree.get O t q)
  get_seen t q =
      get_entries o (seen_entries t.entries) q
      ∙ lookup-map_values (seen_set R) (is_at (O q)) t.entries

  some_alike : (a : Option (BTreeSet K)) → is_some (option_map (seen_set R) a) ≡ is_some a
  some_alike None = refl
  some_alike (Some s) = refl

  -- whether it has the key
  pub knows_seen : (t : BTreeMap Q (BTreeSet K)) (q : Q) → fin.contains_key (seen_sets O R t.entries) q ≡ is_some (tree.get O t q)
  knows_seen t q = ap is_some (get_seen t q) ∙ some_alike (tree.get O t q)

  has_alike : IsTotalOrder R → (a : Option (BTreeSet K)) (x : K) → in_set (option_map (seen_set R) a) x ≡ in_tree R a x
  has_alike r None x = refl
  has_alike r (Some s) x = set.contains-from_list r s.keys x

  -- whether its set has a member
  pub has_seen : IsTotalOrder R → (t : BTreeMap Q (BTreeSet K)) (q : Q) (x : K) → has (seen_sets O R t.entries) q x ≡ tree_has O R t q x
  has_seen r t q x = ap (λ a. in_set a x) (get_seen t q) ∙ has_alike r (tree.get O t q) x

  length_seen : (es : List (Q × BTreeSet K)) → length (seen_entries es) ≡ length es
  length_seen [] = refl
  length_seen (e ∷ es) = ap suc (length_seen es)

  pub len_seen : (t : BTreeMap Q (BTreeSet K)) → tree.IsOrdered O t → fin.len (seen_sets O R t.entries) ≡ length t.entries
  len_seen t sorted =
      len_entries o (seen_entries t.entries) (subst (IsStrictlySortedBy O) (sym (keys_of-map_values (seen_set R) t.entries)) sorted) ∙ length_seen t.entries

  -- ---- changes
  module _ (exact : set.IsAntisymmetric O) where
    turned : (b : Bool) (x y : Option (BTreeSet K)) → option_map (seen_set R) (cond b x y) ≡ cond b (option_map (seen_set R) x) (option_map (seen_set R) y)
    turned true x y = refl
    turned false x y = refl

    -- after an insertion
    pub seen_insert : (t u : BTreeMap Q (BTreeSet K)) (k : Q) (s : BTreeSet K) → ((q : Q) → tree.get O u q ≡ cond (is_at (O k) q) (Some s) (tree.get O t q)) → seen_sets O R u.entries ≡ fin.insert (seen_sets O R t.entries) k (seen_set R s)
    seen_insert t u k s updates = fin.same_map o exact _ _ (λ q.
        get_seen u q ∙ ap (option_map (seen_set R)) (updates q) ∙ turned (is_at (O k) q) _ _ ∙ ap (cond (is_at (O k) q) (Some (seen_set R s))) (sym (get_seen t q))
        ∙ ap (λ b. cond b (Some (seen_set R s)) (fin.get (seen_sets O R t.entries) q)) ((eq_by_cmp_equiv o).symm k q)
        ∙ sym (fin.get-insert o _ k _ q))

    -- after a removal
    pub seen_remove : (t u : BTreeMap Q (BTreeSet K)) (k : Q) → ((q : Q) → tree.get O u q ≡ cond (is_at (O k) q) None (tree.get O t q)) → seen_sets O R u.entries ≡ fin.remove (seen_sets O R t.entries) k
    seen_remove t u k updates = fin.same_map o exact _ _ (λ q.
        get_seen u q ∙ ap (option_map (seen_set R)) (updates q) ∙ turned (is_at (O k) q) _ _ ∙ ap (cond (is_at (O k) q) None) (sym (get_seen t q))
        ∙ ap (λ b. cond b None (fin.get (seen_sets O R t.entries) q)) ((eq_by_cmp_equiv o).symm k q)
        ∙ sym (fin.get-remove o _ k q))

  -- ---- users
  none_at : (a : Option (BTreeSet K)) (x : K) → ((s : BTreeSet K) → a ≡ Some s → tree_set.contains R s x ≡ false) → in_tree R a x ≡ false
  none_at None x h = refl
  none_at (Some s) x h = h s refl

  some_at : (a : Option (BTreeSet K)) (x : K) → in_tree R a x ≡ true → (s : BTreeSet K) × (a ≡ Some s) × (tree_set.contains R s x ≡ true)
  some_at None x h = absurd (true≢false (sym h))
  some_at (Some s) x h = (s, refl, h)

  -- no set has x where no entry's has
  pub no_user : IsTotalOrder R → set.IsAntisymmetric O → (t : BTreeMap Q (BTreeSet K)) (x : K) (before : List (Q × BTreeSet K)) → before ≡ t.entries → AllByRecursion (λ e. ¬ (tree_set.contains R e.1 x ≡ true)) before
      → HasNoUser (seen_sets O R t.entries) x
  no_user r exact t x before is all q =
      has_seen r t q x ∙ none_at (tree.get O t q) x (λ s at.
      is_false (tree_set.contains R s x) (found o (λ (u : BTreeSet K). ¬ (tree_set.contains R u x ≡ true)) (is_at (O q)) before s all (ap (lookup (is_at (O q))) is ∙ at)))

  -- the first entry whose set has x is its first user
  pub first_user : IsTotalOrder R → set.IsAntisymmetric O → (t : BTreeMap Q (BTreeSet K)) (x : K) (before it more : List (Q × BTreeSet K)) (q : Q) (s : BTreeSet K) → t.entries ≡ before ++ it → it ≡ (q, s) ∷ more → tree.IsOrdered O t
      → AllByRecursion (λ e. ¬ (tree_set.contains R e.1 x ≡ true)) before → tree_set.contains R s x ≡ true → IsFirstUser (seen_sets O R t.entries) x q
  first_user r exact t x before it more q s so_far next sorted none uses =
      let hit = first_hit o (λ (u : BTreeSet K). tree_set.contains R u x ≡ true) t.entries before it more (q, s) so_far next sorted none in record {
        uses = has_seen r t q x ∙ ap (λ a. in_tree R a x) hit.0 ∙ uses;
        first = λ p is. let w = some_at (tree.get O t p) x (sym (has_seen r t p x) ∙ is) in hit.1 p w.0 w.1 w.2;
      }

  -- ---- room
  -- a tree of sets and the map of them have the same keys, and as many
  same_key : (t : BTreeMap Q (BTreeSet K)) (q : Q) → fin.contains_key (seen_sets O R t.entries) q ≡ fin.contains_key (fin.from_entries {R = O} t.entries) q
  same_key t q = knows_seen t q ∙ sym (knows_entries o t.entries q)

  same_size : (es : List (Q × BTreeSet K)) → fin.len (seen_sets O R es) ≡ fin.len (fin.from_entries {R = O} es)
  same_size [] = fin.len-empty O (set.FinSet R) ∙ sym (fin.len-empty O (BTreeSet K))
  same_size (e ∷ es) =
      fin.len-insert o (seen_sets O R es) e.0 (seen_set R e.1)
      ∙ (λ i. cond (knows es e.0 i) (same_size es i) (same_size es i + 1))
      ∙ sym (fin.len-insert o (fin.from_entries {R = O} es) e.0 e.1)
    where
      knows : (es : List (Q × BTreeSet K)) (q : Q) → fin.contains_key (seen_sets O R es) q ≡ fin.contains_key (fin.from_entries {R = O} es) q
      knows es q =
          ap is_some (get_entries o (seen_entries es) q ∙ lookup-map_values (seen_set R) (is_at (O q)) es) ∙ some_alike (lookup (is_at (O q)) es)
          ∙ sym (knows_entries o es q)

  pub sets_full : (t : BTreeMap Q (BTreeSet K)) (q : Q) (most : ℕ) → IsFull (fin.from_entries {R = O} t.entries) q most → IsFull (seen_sets O R t.entries) q most
  sets_full t q most h = (same_key t q ∙ h.0, subst (λ n. most ≤ n) (sym (same_size t.entries)) h.1)

  pub sets_have_room : (t : BTreeMap Q (BTreeSet K)) (q : Q) (most : ℕ) → HasRoom (fin.from_entries {R = O} t.entries) q most → HasRoom (seen_sets O R t.entries) q most
  sets_have_room t q most h = elim h [ inl there ↦ inl (same_key t q ∙ there) | inr few ↦ inr (subst (λ n. n < most) (sym (same_size t.entries)) few) ]
